-- Contents that differ in the order of their rows alone.
use Rattle.std.specs.Prelude.{IsPermutation}
use Rattle.ccr_tables.specs.Contents.{Contents}

-- each table has the same rows, in some order
pub record HasSameRows (these those : Contents) : Type 0 where
  pub meta : IsPermutation these.meta those.meta
  pub scopes : IsPermutation these.scopes those.scopes
  pub versions : IsPermutation these.versions those.versions
  pub builds : IsPermutation these.builds those.builds
  pub pairs : IsPermutation these.pairs those.pairs
  pub pins : IsPermutation these.pins those.pins
