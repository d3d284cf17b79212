-- Which versions an input may take.
use Rattle.std.specs.Prelude.{ℕ, List, map, filter, not, Bool, true, ◌&&◌, Option, Some, None}
use Rattle.std.specs.List.{enumerate_from}
use Rattle.ccr_history.specs.TextMap.{TextMap, meets}

-- the pins that hold an input to some of its versions, as far as there are such: the pipeline's for the resource, the
-- get's, and the one by command
pub record PinsData : Type 0 where
  pub by_resource : Option TextMap
  pub by_get : Option TextMap
  pub by_command : Option TextMap

-- a version meets a pin, if there is one
abbrev pub meets_if : Option TextMap → TextMap → Bool
meets_if None v = true
meets_if (Some pin) v = meets v pin

-- a version meets all of the pins together
abbrev pub meets_all : PinsData → TextMap → Bool
meets_all pins v = meets_if pins.by_resource v && (meets_if pins.by_get v && meets_if pins.by_command v)

-- the places of the versions that meet all of the pins, ascending, where the first version has this place
abbrev pub places_from : ℕ → PinsData → List TextMap → List ℕ
places_from first pins versions = map (λ x. x.0) (filter (λ x. meets_all pins x.1) (enumerate_from first versions))

-- the places that an input may take, ascending: of the versions that meet all of the pins, but for those that are
-- disabled; places begin at 1
abbrev pub allowed_places : PinsData → (disabled : ℕ → Bool) → List TextMap → List ℕ
allowed_places pins disabled versions = filter (λ n. not (disabled n)) (places_from 1 pins versions)
