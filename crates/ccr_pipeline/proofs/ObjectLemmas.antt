-- Values that hold objects, level by level.
use Rattle.std.proofs.Common.{◌≡◌, ℕ, zero, suc, ◌-◌, ◌<◌, List, [], ◌++◌, refl, arith, Bor, drop, drop-cons, get_or, length}
use Rattle.serde_json.specs.Data.{Data}
use Rattle.ccr_pipeline.specs.declared.fault.ReadFault.{ReadFault}
use Rattle.ccr_pipeline.specs.declared.schema.Need.{Need}
use Rattle.ccr_pipeline.specs.declared.schema.Kind.{Kind}
use Rattle.ccr_pipeline.specs.declared.schema.Kind.TheVariants as kind
use Rattle.ccr_pipeline.specs.declared.schema.Schema.{Schema}
use Rattle.ccr_pipeline.specs.Faults.{Path, IsFirst}
use Rattle.ccr_pipeline.specs.Objects.{Test, broken, row_faults, key_faults, inside, value_faults}
use Rattle.ccr_pipeline.specs.Schema.{rows}
use Rattle.ccr_pipeline.specs.Unused.{unused_value}
use Rattle.ccr_pipeline.proofs.Faulted.{first_append}

pub value_first : (left : ℕ) (k : Kind) (p : Path) (whole d : Data) (e : ReadFault) → IsFirst (broken k p d) e → IsFirst (value_faults left k p whole d) e
unfolding value_faults
value_first zero k p whole d e h = h
value_first (suc n) k p whole d e h = first_append (broken k p d) (inside (value_faults n) k p whole d) e h

-- the first fault at a key of a table is the first of the keys from there on
pub rows_first : (test : Test) (names : List (List ℕ)) (table : List (Need × Kind × Bor (List ℕ))) (i : ℕ) (x : Need × Kind × Bor (List ℕ)) (p : Path) (d : Data) (e : ReadFault) → i < length table → IsFirst (row_faults test names ((get_or table i x).0, (get_or table i x).1, (get_or table i x).2.now) p d) e → IsFirst (key_faults test names (rows (drop i table)) p d) e
rows_first test names table i x p d e h first =
    rw (drop-cons table i x h) (first_append (row_faults test names ((get_or table i x).0, (get_or table i x).1, (get_or table i x).2.now) p d) _ e first)

pub value_inside : (left : ℕ) (k : Kind) (p : Path) (whole d : Data) → 0 < left → value_faults left k p whole d ≡ broken k p d ++ inside (value_faults (left - 1)) k p whole d
unfolding value_faults
value_inside zero k p whole d h = absurd (omega arith)
value_inside (suc n) k p whole d h = let e : suc n - 1 ≡ n = omega arith in rw e refl

-- a value that holds no objects
pub inside_none : (test : Test) (k : Kind) (p : Path) (whole d : Data) → (k ≡ kind.Parallel → ⊥) → ((s : Schema) → k ≡ kind.Objects s → ⊥) → ((s : Schema) → k ≡ kind.Object s → ⊥) → (k ≡ kind.OwnName → ⊥) → inside test k p whole d ≡ []
inside_none test (kind.Object s) p whole d parallel objects object own = absurd (object s refl)
inside_none test (kind.Objects s) p whole d parallel objects object own = absurd (objects s refl)
inside_none test kind.Parallel p whole d parallel objects object own = absurd (parallel refl)
inside_none test kind.OwnName p whole d parallel objects object own = absurd (own refl)
inside_none test _ p whole d parallel objects object own = refl

pub unused_none : (rec : Schema → Path → Data → List Path) (k : Kind) (p : Path) (d : Data) → (k ≡ kind.Parallel → ⊥) → ((s : Schema) → k ≡ kind.Objects s → ⊥) → ((s : Schema) → k ≡ kind.Object s → ⊥) → unused_value rec k p d ≡ []
unused_none rec (kind.Object s) p d parallel objects object = absurd (object s refl)
unused_none rec (kind.Objects s) p d parallel objects object = absurd (objects s refl)
unused_none rec kind.Parallel p d parallel objects object = absurd (parallel refl)
unused_none rec _ p d parallel objects object = refl
