-- When a tree refutes each choice that is better than a bound, and when a proof is accepted.
use Rattle.std.specs.Prelude.{◌≡◌, ℕ, ◌+◌, ◌<◌, ◌⊎◌, List, [], ◌∷◌, length, slice_get, false, Option, Some, None}
use Rattle.ccr_choice.specs.Problem.{ProblemValue, BuildValue, builds_at}
use Rattle.ccr_choice.specs.Satisfies.{Satisfies}
use Rattle.ccr_proof.specs.declared.claim.Claim.{Claim}
use Rattle.ccr_proof.specs.declared.claim.Claim.TheVariants.{Best, Nothing}
use Rattle.ccr_choice.specs.Preference.{Preference}
use Rattle.ccr_choice.specs.Assignment.{Assignment, nothing_fixed, with_build}
use Rattle.ccr_choice.specs.Possible.{IsPossible, AreBoundedBy}
use Rattle.ccr_choice.specs.Dominated.{IsDominated}
use Rattle.ccr_proof.specs.Tree.{Tree, Trees, job, empty, bounded, same_as, no_child, child, are_same}

-- Input i is an input without a possible place.
abbrev pub HasNoPlace : ProblemValue → Assignment → ℕ → Type 0
HasNoPlace p a i = (i < length p.inputs) × ((place : ℕ) → ¬ IsPossible p a i place)

-- There is a bound, and the best places aren't better than it.
abbrev pub IsBounded : Preference → ProblemValue → Option (List ℕ) → Assignment → Type 0
IsBounded prefers p None a = ⊥
IsBounded prefers p (Some bound) a = AreBoundedBy prefers p a bound

-- Child k of a job node, for build b of job j, is the same case as child q: this one stands before it, isn't the same as
-- another itself, and has a build that dominates b.
pub record IsSameCase (p : ProblemValue) (j : ℕ) (all : Trees) (k : ℕ) (b : BuildValue) (q : ℕ) : Type 0 where
  pub before : q < k
  pub own : slice_get (are_same all) q ≡ Some false
  pub other : BuildValue
  pub its : slice_get (builds_at p j) q ≡ Some other
  pub dominated : IsDominated p j b other

-- Child k of a job node says that it is the same case as an earlier child, and is.
abbrev pub IsSame : ProblemValue → ℕ → Trees → ℕ → BuildValue → Tree → Type 0
IsSame p j all k b t = (q : ℕ) × (t ≡ same_as q) × IsSameCase p j all k b q

-- A tree refutes an assignment under a bound. A leaf names an input without a possible place, or says that the best
-- places aren't better than the bound. A job node names a free job, and has one child for each successful build of the
-- job, newest first; each child refutes the assignment with its build fixed, under the same bound, or is the same case as
-- an earlier child.
--
-- RefuteEach says it of the children from position k on: it knows the node's job and all its children, and goes through
-- the builds and the children that stand there.
abbrev mutual
  pub Refutes : Preference → ProblemValue → Option (List ℕ) → Assignment → Tree → Type 0
  Refutes prefers p bound a (empty i) = HasNoPlace p a i
  Refutes prefers p bound a bounded = IsBounded prefers p bound a
  Refutes prefers p bound a (same_as q) = ⊥
  Refutes prefers p bound a (job j ts) =
      (j < length p.jobs) × (a j ≡ None) × RefuteEach prefers p bound a j ts 0 (builds_at p j) ts

  pub RefuteEach : Preference → ProblemValue → Option (List ℕ) → Assignment → ℕ → Trees → ℕ → List BuildValue → Trees
      → Type 0
  RefuteEach prefers p bound a j all k [] no_child = Unit {0}
  RefuteEach prefers p bound a j all k (b ∷ bs) (child t ts) =
      (Refutes prefers p bound (with_build a j b) t ⊎ IsSame p j all k b t)
      × RefuteEach prefers p bound a j all (k + 1) bs ts
  RefuteEach prefers p bound a j all k [] (child t ts) = ⊥
  RefuteEach prefers p bound a j all k (b ∷ bs) no_child = ⊥

-- A claim with a tree is accepted. A best choice is one that satisfies, where the tree refutes what is better than its
-- places; of none it is said where the tree refutes everything.
abbrev pub IsAccepted : Preference → ProblemValue → Claim → Tree → Type 0
IsAccepted prefers p (Best c) t = Satisfies p c.places c.builds × Refutes prefers p (Some c.places) nothing_fixed t
IsAccepted prefers p Nothing t = Refutes prefers p None nothing_fixed t
