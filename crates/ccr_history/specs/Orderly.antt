-- What the builds of every history keep, whatever its tables are.
use Rattle.std.specs.Prelude.{◌≡◌, ℕ, ◌≤◌, List, [], map, length, slice_get, Bool, true, false, Some, IsTrue, AllPairs}
use Rattle.std.specs.List.{AllByRecursion}
use Rattle.std.specs.List.Sorted.{IsStrictlySortedBy}
use Rattle.std.specs.Ordering.{nat_cmp}
use Rattle.std.specs.Cmp.Lexicographic.{slice_cmp}
use Rattle.ccr_history.specs.declared.builds.TheConstants.{MOST_BUILDS}
use Rattle.ccr_history.specs.declared.build.Status.TheVariants.{Running}
use Rattle.ccr_history.specs.Builds.{BuildData, is_before}
use Rattle.ccr_history.specs.History.{AreNumbered}

-- a build used each input once, by ascending name, and moved each pair once, by scope and place; while it runs it has
-- moved nothing
abbrev pub IsOrderly : BuildData → Type 0
IsOrderly b =
    IsStrictlySortedBy (slice_cmp nat_cmp) (map (λ u. u.input) b.used)
    × AllPairs (λ p q. IsTrue (is_before p q)) b.moved
    × (b.status ≡ Running → b.moved ≡ [])

-- the builds are not too many, they are numbered, and each is orderly
abbrev pub AreOrderly : List BuildData → Type 0
AreOrderly builds = (length builds ≤ MOST_BUILDS) × AreNumbered builds × AllByRecursion IsOrderly builds

-- the element at this position passes the test, and no other does
pub record IsOnly {X : Type 0} (test : X → Bool) (xs : List X) (i : ℕ) : Type 0 where
  pub it : X
  pub here : slice_get xs i ≡ Some it
  pub passes : test it ≡ true
  pub others : (k : ℕ) (x : X) → slice_get xs k ≡ Some x → (k ≡ i → ⊥) → test x ≡ false
