-- Where a number stands that isn't whole.
use Rattle.std.specs.Prelude.{ℕ, ◌+◌, Option, Some, None, if◌then◌else◌}
use Rattle.std.specs.Option.{option_or}
use Rattle.serde_json.specs.Data.{Data, null, boolean, number, string, array, object, Items, no_items, item, Members, no_members, member}
use Rattle.serde_json.specs.Find.{is_float}
use Rattle.ccr_pipeline.specs.Faults.{Path}
use Rattle.ccr_pipeline.specs.Keys.{path_below, path_at}

abbrev mutual
  -- WHERE THE FIRST NUMBER STANDS THAT ISN'T WHOLE, in a value at a path, or in what it holds
  pub float_in : Path → Data → Option Path
  float_in p null = None
  float_in p (boolean b) = None
  float_in p (number n) = if is_float n then Some p else None
  float_in p (string s) = None
  float_in p (array ds) = float_in_items p 0 ds
  float_in p (object ms) = float_in_members p ms

  -- that in the members of a list, from position i on
  pub float_in_items : Path → ℕ → Items → Option Path
  float_in_items p i no_items = None
  float_in_items p i (item d ds) = option_or (float_in (path_at p i) d) (float_in_items p (i + 1) ds)

  -- that in the members of an object
  pub float_in_members : Path → Members → Option Path
  float_in_members p no_members = None
  float_in_members p (member k d ms) = option_or (float_in (path_below p k) d) (float_in_members p ms)
