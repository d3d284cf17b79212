-- What is wrong with a proof first.
use Rattle.std.specs.Prelude.{◌≡◌, ◌≢◌, ℕ, ◌+◌, ◌<◌, ◌≤◌, ◌⊎◌, List, [], ◌∷◌, length, Option, Some, None}
use Rattle.ccr_choice.specs.Problem.{ProblemValue, BuildValue, builds_at}
use Rattle.ccr_choice.specs.Satisfies.{Satisfies, IsFirstVerdict}
use Rattle.ccr_choice.specs.declared.verdict.Verdict.{Verdict}
use Rattle.ccr_choice.specs.declared.verdict.Verdict.TheVariants as verdict
use Rattle.ccr_proof.specs.declared.claim.Claim.{Claim}
use Rattle.ccr_proof.specs.declared.claim.Claim.TheVariants.{Best, Nothing}
use Rattle.ccr_choice.specs.Preference.{Preference}
use Rattle.ccr_choice.specs.Assignment.{Assignment, nothing_fixed, with_build}
use Rattle.ccr_proof.specs.Tree.{Tree, Trees, job, empty, bounded, same_as, no_child, child, width, count}
use Rattle.ccr_proof.specs.Refutes.{HasNoPlace, IsBounded, IsSame, Refutes}
use Rattle.ccr_check.specs.declared.fault.CheckFault.{CheckFault}
use Rattle.ccr_check.specs.declared.fault.CheckFault.TheVariants.{BadChoice, NoSuchJob, JobTwice, WrongChildren, NotEmpty, NotBounded, NoSuchInput, NotSame}

-- What is wrong with a job node itself, the faults in the order of their numbers: no such job, a job with a fixed
-- build, another number of children than the job has successful builds.
abbrev pub IsJobFault : ProblemValue → Assignment → ℕ → ℕ → Trees → CheckFault → Type 0
IsJobFault p a n j ts f =
    ((f ≡ NoSuchJob n) × (length p.jobs ≤ j))
    ⊎ (((f ≡ JobTwice n) × (j < length p.jobs) × (a j ≢ None))
    ⊎ ((f ≡ WrongChildren n) × (j < length p.jobs) × (a j ≡ None) × (width ts ≢ length (builds_at p j))))

-- The first fault in preorder of a tree whose root is node n. A node's own fault comes before those of its children; a
-- child's comes where no child before it has one. A node that is the same case as a child may stand only below a job, where
-- it has no fault if it is.
--
-- IsFirstAmong says it of the children from position k on, the first of which is node n: it knows the job and all the
-- children, and goes through the builds and the children that stand there.
abbrev mutual
  pub IsFirstFault : Preference → ProblemValue → Option (List ℕ) → Assignment → ℕ → Tree → CheckFault → Type 0
  IsFirstFault prefers p bound a n (empty i) f =
      ((f ≡ NotEmpty n) × (i < length p.inputs) × ¬ HasNoPlace p a i) ⊎ ((f ≡ NoSuchInput n) × (length p.inputs ≤ i))
  IsFirstFault prefers p bound a n bounded f = (f ≡ NotBounded n) × ¬ IsBounded prefers p bound a
  IsFirstFault prefers p bound a n (same_as q) f = f ≡ NotSame n
  IsFirstFault prefers p bound a n (job j ts) f =
      IsJobFault p a n j ts f
      ⊎ ((j < length p.jobs) × (a j ≡ None) × (width ts ≡ length (builds_at p j))
      × IsFirstAmong prefers p bound a (n + 1) j ts 0 (builds_at p j) ts f)

  pub IsFirstAmong : Preference → ProblemValue → Option (List ℕ) → Assignment → ℕ → ℕ → Trees → ℕ → List BuildValue
      → Trees → CheckFault
      → Type 0
  IsFirstAmong prefers p bound a n j all k (b ∷ bs) (child t ts) f =
      (¬ IsSame p j all k b t × IsFirstFault prefers p bound (with_build a j b) n t f)
      ⊎ ((Refutes prefers p bound (with_build a j b) t ⊎ IsSame p j all k b t)
      × IsFirstAmong prefers p bound a (n + count t) j all (k + 1) bs ts f)
  IsFirstAmong prefers p bound a n j all k [] (child t ts) f = ⊥
  IsFirstAmong prefers p bound a n j all k (b ∷ bs) no_child f = ⊥
  IsFirstAmong prefers p bound a n j all k [] no_child f = ⊥

-- The choice of the claim doesn't satisfy, and this is said of it.
pub record IsBadChoice (p : ProblemValue) (places builds : List ℕ) (f : CheckFault) : Type 0 where
  pub said : Verdict
  pub is : f ≡ BadChoice said
  pub refused : said ≢ verdict.Satisfies
  pub first : IsFirstVerdict p places builds said

-- What is wrong with a claim and its tree first: the choice that the claim names, or else the first node of the tree
-- from node 0.
abbrev pub IsFault : Preference → ProblemValue → Claim → Tree → CheckFault → Type 0
IsFault prefers p (Best c) t f =
    IsBadChoice p c.places c.builds f
    ⊎ (Satisfies p c.places c.builds × IsFirstFault prefers p (Some c.places) nothing_fixed 0 t f)
IsFault prefers p Nothing t f = IsFirstFault prefers p None nothing_fixed 0 t f

-- ---- the parts of it that belong to the claim
-- The bound that a claim sets, where its choice satisfies.
abbrev pub HasBound : ProblemValue → Claim → Option (List ℕ) → Type 0
HasBound p (Best c) bound = Satisfies p c.places c.builds × (bound ≡ Some c.places)
HasBound p Nothing bound = bound ≡ None

-- What is wrong with a claim itself.
abbrev pub IsBadClaim : ProblemValue → Claim → CheckFault → Type 0
IsBadClaim p (Best c) f = IsBadChoice p c.places c.builds f
IsBadClaim p Nothing f = ⊥
