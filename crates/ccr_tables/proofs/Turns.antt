-- From one changed table to the contents of all six.
use Rattle.std.proofs.Common.{◌≡◌, List, ◌∷◌, map, sym, subst, arith, IsPermutation}
use Rattle.std.specs.List.{AllByRecursion}
use Rattle.std.proofs.lemmas.List.Sorted.{IsPermutation-cons, IsPermutation-trans, IsPermutation-map}
use Rattle.sqlite.specs.Order.{Row}
use Rattle.sqlite.specs.Effect.{Database}
use Rattle.sqlite_trees.specs.declared.store.Shape.TheVariants.{Table as Shaped}
use Rattle.sqlite_trees.specs.View.{IsShaped}
use Rattle.ccr_tables.specs.Contents.{Contents, Holds, IsBuild, meta_row, scope_row, version_row, build_row, pair_row, pin_row}
use Rattle.ccr_tables.proofs.Inserts.{Becomes}

-- a new row is shown beside the others
pub row_in : (shown : Row → Row) (these : List Row) (row raw : Row) (old new : List Row) → shown raw ≡ row → IsPermutation these (map shown old) → IsPermutation (raw ∷ old) new
    → IsPermutation (row ∷ these) (map shown new)
row_in shown these row raw old new is same put =
    IsPermutation-trans (row ∷ these) (map shown (raw ∷ old)) (map shown new)
    (subst (λ r. IsPermutation (row ∷ these) (r ∷ map shown old)) (sym is) (IsPermutation-cons row these (map shown old) same))
    (IsPermutation-map shown (raw ∷ old) new put)

still : (shown : Row → Row) (these old new : List Row) → new ≡ old → IsPermutation these (map shown old) → IsPermutation these (map shown new)
still shown these old new e same = subst (λ l. IsPermutation these (map shown l)) (sym e) same

pub turn_meta : (these : Contents) (shows all : List Row) (old new : Database) → Holds these old → Becomes 0 all old new → IsPermutation shows (map meta_row (new.trees 0))
    → Holds (record these { meta = shows }) new
turn_meta these shows all old new holds it rows = record {
  schema = it.schema;
  rows = record {
    meta = rows;
    scopes = still scope_row these.scopes (old.trees 1) (new.trees 1) (it.others.1.0 (λ e. absurd (omega (arith, e)))) holds.rows.scopes;
    versions = still version_row these.versions (old.trees 3) (new.trees 3) (it.others.1.1.0 (λ e. absurd (omega (arith, e)))) holds.rows.versions;
    builds = still build_row these.builds (old.trees 6) (new.trees 6) (it.others.1.1.1.0 (λ e. absurd (omega (arith, e)))) holds.rows.builds;
    pairs = still pair_row these.pairs (old.trees 8) (new.trees 8) (it.others.1.1.1.1.0 (λ e. absurd (omega (arith, e)))) holds.rows.pairs;
    pins = still pin_row these.pins (old.trees 10) (new.trees 10) (it.others.1.1.1.1.1.0 (λ e. absurd (omega (arith, e)))) holds.rows.pins;
    numbered_meta = it.shaped holds.rows.numbered_meta;
    numbered_builds = subst (IsShaped Shaped) (sym (it.others.1.1.1.0 (λ e. absurd (omega (arith, e))))) holds.rows.numbered_builds;
    numbered_pairs = subst (IsShaped Shaped) (sym (it.others.1.1.1.1.0 (λ e. absurd (omega (arith, e))))) holds.rows.numbered_pairs;
    numbered_pins = subst (IsShaped Shaped) (sym (it.others.1.1.1.1.1.0 (λ e. absurd (omega (arith, e))))) holds.rows.numbered_pins;
    typed_builds = subst (AllByRecursion IsBuild) (sym (it.others.1.1.1.0 (λ e. absurd (omega (arith, e))))) holds.rows.typed_builds;
  };
}

pub turn_scopes : (these : Contents) (shows all : List Row) (old new : Database) → Holds these old → Becomes 1 all old new → IsPermutation shows (map scope_row (new.trees 1))
    → Holds (record these { scopes = shows }) new
turn_scopes these shows all old new holds it rows = record {
  schema = it.schema;
  rows = record {
    meta = still meta_row these.meta (old.trees 0) (new.trees 0) (it.others.0 (λ e. absurd (omega (arith, e)))) holds.rows.meta;
    scopes = rows;
    versions = still version_row these.versions (old.trees 3) (new.trees 3) (it.others.1.1.0 (λ e. absurd (omega (arith, e)))) holds.rows.versions;
    builds = still build_row these.builds (old.trees 6) (new.trees 6) (it.others.1.1.1.0 (λ e. absurd (omega (arith, e)))) holds.rows.builds;
    pairs = still pair_row these.pairs (old.trees 8) (new.trees 8) (it.others.1.1.1.1.0 (λ e. absurd (omega (arith, e)))) holds.rows.pairs;
    pins = still pin_row these.pins (old.trees 10) (new.trees 10) (it.others.1.1.1.1.1.0 (λ e. absurd (omega (arith, e)))) holds.rows.pins;
    numbered_meta = subst (IsShaped Shaped) (sym (it.others.0 (λ e. absurd (omega (arith, e))))) holds.rows.numbered_meta;
    numbered_builds = subst (IsShaped Shaped) (sym (it.others.1.1.1.0 (λ e. absurd (omega (arith, e))))) holds.rows.numbered_builds;
    numbered_pairs = subst (IsShaped Shaped) (sym (it.others.1.1.1.1.0 (λ e. absurd (omega (arith, e))))) holds.rows.numbered_pairs;
    numbered_pins = subst (IsShaped Shaped) (sym (it.others.1.1.1.1.1.0 (λ e. absurd (omega (arith, e))))) holds.rows.numbered_pins;
    typed_builds = subst (AllByRecursion IsBuild) (sym (it.others.1.1.1.0 (λ e. absurd (omega (arith, e))))) holds.rows.typed_builds;
  };
}

pub turn_versions : (these : Contents) (shows all : List Row) (old new : Database) → Holds these old → Becomes 3 all old new → IsPermutation shows (map version_row (new.trees 3))
    → Holds (record these { versions = shows }) new
turn_versions these shows all old new holds it rows = record {
  schema = it.schema;
  rows = record {
    meta = still meta_row these.meta (old.trees 0) (new.trees 0) (it.others.0 (λ e. absurd (omega (arith, e)))) holds.rows.meta;
    scopes = still scope_row these.scopes (old.trees 1) (new.trees 1) (it.others.1.0 (λ e. absurd (omega (arith, e)))) holds.rows.scopes;
    versions = rows;
    builds = still build_row these.builds (old.trees 6) (new.trees 6) (it.others.1.1.1.0 (λ e. absurd (omega (arith, e)))) holds.rows.builds;
    pairs = still pair_row these.pairs (old.trees 8) (new.trees 8) (it.others.1.1.1.1.0 (λ e. absurd (omega (arith, e)))) holds.rows.pairs;
    pins = still pin_row these.pins (old.trees 10) (new.trees 10) (it.others.1.1.1.1.1.0 (λ e. absurd (omega (arith, e)))) holds.rows.pins;
    numbered_meta = subst (IsShaped Shaped) (sym (it.others.0 (λ e. absurd (omega (arith, e))))) holds.rows.numbered_meta;
    numbered_builds = subst (IsShaped Shaped) (sym (it.others.1.1.1.0 (λ e. absurd (omega (arith, e))))) holds.rows.numbered_builds;
    numbered_pairs = subst (IsShaped Shaped) (sym (it.others.1.1.1.1.0 (λ e. absurd (omega (arith, e))))) holds.rows.numbered_pairs;
    numbered_pins = subst (IsShaped Shaped) (sym (it.others.1.1.1.1.1.0 (λ e. absurd (omega (arith, e))))) holds.rows.numbered_pins;
    typed_builds = subst (AllByRecursion IsBuild) (sym (it.others.1.1.1.0 (λ e. absurd (omega (arith, e))))) holds.rows.typed_builds;
  };
}

pub turn_builds : (these : Contents) (shows all : List Row) (old new : Database) → Holds these old → Becomes 6 all old new → IsPermutation shows (map build_row (new.trees 6)) → AllByRecursion IsBuild (new.trees 6)
    → Holds (record these { builds = shows }) new
turn_builds these shows all old new holds it rows typed = record {
  schema = it.schema;
  rows = record {
    meta = still meta_row these.meta (old.trees 0) (new.trees 0) (it.others.0 (λ e. absurd (omega (arith, e)))) holds.rows.meta;
    scopes = still scope_row these.scopes (old.trees 1) (new.trees 1) (it.others.1.0 (λ e. absurd (omega (arith, e)))) holds.rows.scopes;
    versions = still version_row these.versions (old.trees 3) (new.trees 3) (it.others.1.1.0 (λ e. absurd (omega (arith, e)))) holds.rows.versions;
    builds = rows;
    pairs = still pair_row these.pairs (old.trees 8) (new.trees 8) (it.others.1.1.1.1.0 (λ e. absurd (omega (arith, e)))) holds.rows.pairs;
    pins = still pin_row these.pins (old.trees 10) (new.trees 10) (it.others.1.1.1.1.1.0 (λ e. absurd (omega (arith, e)))) holds.rows.pins;
    numbered_meta = subst (IsShaped Shaped) (sym (it.others.0 (λ e. absurd (omega (arith, e))))) holds.rows.numbered_meta;
    numbered_builds = it.shaped holds.rows.numbered_builds;
    numbered_pairs = subst (IsShaped Shaped) (sym (it.others.1.1.1.1.0 (λ e. absurd (omega (arith, e))))) holds.rows.numbered_pairs;
    numbered_pins = subst (IsShaped Shaped) (sym (it.others.1.1.1.1.1.0 (λ e. absurd (omega (arith, e))))) holds.rows.numbered_pins;
    typed_builds = typed;
  };
}

pub turn_pairs : (these : Contents) (shows all : List Row) (old new : Database) → Holds these old → Becomes 8 all old new → IsPermutation shows (map pair_row (new.trees 8))
    → Holds (record these { pairs = shows }) new
turn_pairs these shows all old new holds it rows = record {
  schema = it.schema;
  rows = record {
    meta = still meta_row these.meta (old.trees 0) (new.trees 0) (it.others.0 (λ e. absurd (omega (arith, e)))) holds.rows.meta;
    scopes = still scope_row these.scopes (old.trees 1) (new.trees 1) (it.others.1.0 (λ e. absurd (omega (arith, e)))) holds.rows.scopes;
    versions = still version_row these.versions (old.trees 3) (new.trees 3) (it.others.1.1.0 (λ e. absurd (omega (arith, e)))) holds.rows.versions;
    builds = still build_row these.builds (old.trees 6) (new.trees 6) (it.others.1.1.1.0 (λ e. absurd (omega (arith, e)))) holds.rows.builds;
    pairs = rows;
    pins = still pin_row these.pins (old.trees 10) (new.trees 10) (it.others.1.1.1.1.1.0 (λ e. absurd (omega (arith, e)))) holds.rows.pins;
    numbered_meta = subst (IsShaped Shaped) (sym (it.others.0 (λ e. absurd (omega (arith, e))))) holds.rows.numbered_meta;
    numbered_builds = subst (IsShaped Shaped) (sym (it.others.1.1.1.0 (λ e. absurd (omega (arith, e))))) holds.rows.numbered_builds;
    numbered_pairs = it.shaped holds.rows.numbered_pairs;
    numbered_pins = subst (IsShaped Shaped) (sym (it.others.1.1.1.1.1.0 (λ e. absurd (omega (arith, e))))) holds.rows.numbered_pins;
    typed_builds = subst (AllByRecursion IsBuild) (sym (it.others.1.1.1.0 (λ e. absurd (omega (arith, e))))) holds.rows.typed_builds;
  };
}

pub turn_pins : (these : Contents) (shows all : List Row) (old new : Database) → Holds these old → Becomes 10 all old new → IsPermutation shows (map pin_row (new.trees 10))
    → Holds (record these { pins = shows }) new
turn_pins these shows all old new holds it rows = record {
  schema = it.schema;
  rows = record {
    meta = still meta_row these.meta (old.trees 0) (new.trees 0) (it.others.0 (λ e. absurd (omega (arith, e)))) holds.rows.meta;
    scopes = still scope_row these.scopes (old.trees 1) (new.trees 1) (it.others.1.0 (λ e. absurd (omega (arith, e)))) holds.rows.scopes;
    versions = still version_row these.versions (old.trees 3) (new.trees 3) (it.others.1.1.0 (λ e. absurd (omega (arith, e)))) holds.rows.versions;
    builds = still build_row these.builds (old.trees 6) (new.trees 6) (it.others.1.1.1.0 (λ e. absurd (omega (arith, e)))) holds.rows.builds;
    pairs = still pair_row these.pairs (old.trees 8) (new.trees 8) (it.others.1.1.1.1.0 (λ e. absurd (omega (arith, e)))) holds.rows.pairs;
    pins = rows;
    numbered_meta = subst (IsShaped Shaped) (sym (it.others.0 (λ e. absurd (omega (arith, e))))) holds.rows.numbered_meta;
    numbered_builds = subst (IsShaped Shaped) (sym (it.others.1.1.1.0 (λ e. absurd (omega (arith, e))))) holds.rows.numbered_builds;
    numbered_pairs = subst (IsShaped Shaped) (sym (it.others.1.1.1.1.0 (λ e. absurd (omega (arith, e))))) holds.rows.numbered_pairs;
    numbered_pins = it.shaped holds.rows.numbered_pins;
    typed_builds = subst (AllByRecursion IsBuild) (sym (it.others.1.1.1.0 (λ e. absurd (omega (arith, e))))) holds.rows.typed_builds;
  };
}
