-- What the search gives, and how many nodes it may need. No public contract names these.
use Rattle.std.specs.Prelude.{◌≡◌, ◌≢◌, ℕ, zero, suc, ◌+◌, ◌*◌, ◌<◌, ◌≤◌, ◌==◌, List, [], ◌∷◌, ◌++◌, Option, Some, None, length, slice_index, if◌then◌else◌}
use Rattle.ccr_choice.specs.Problem.{ProblemValue, BuildValue, ChoiceValue, builds_at}
use Rattle.ccr_choice.specs.Satisfies.{Satisfies}
use Rattle.ccr_proof.specs.declared.node.Node.{Node}
use Rattle.ccr_choice.specs.Preference.{Preference, order_of, IsBetter}
use Rattle.ccr_choice.specs.Assignment.{Assignment, nothing_fixed}
use Rattle.ccr_choice.specs.Possible.{IsBestPlace, AreBestPlaces, AreBoundedBy}
use Rattle.ccr_proof.specs.Tree.{Tree, tree_of, count, levels}
use Rattle.ccr_proof.specs.Refutes.{HasNoPlace, IsBounded, Refutes}
use Rattle.ccr_choice.specs.Table.{assigned}
use Rattle.ccr_resolve.specs.Kinds.{kinds_from, repeats_from}
use Rattle.ccr_resolve.specs.NodeBound.{TopFits}

-- the number of a fixed build, 0 where none is fixed
abbrev pub number_or_0 : Option BuildValue → ℕ
number_or_0 None = 0
number_or_0 (Some b) = b.number

-- The numbers of the fixed builds of the jobs below n.
abbrev pub numbers_of : Assignment → ℕ → List ℕ
numbers_of a zero = []
numbers_of a (suc n) = numbers_of a n ++ number_or_0 (a n) ∷ []

-- The best places with the numbers of the fixed builds.
abbrev pub IsFull : ProblemValue → Assignment → ChoiceValue → Type 0
IsFull p a c = AreBestPlaces (order_of p) p a c.places × (c.builds ≡ numbers_of a (length p.jobs))

-- Each fixed build is one of its job.
abbrev pub FixesKnown : ProblemValue → List ℕ → Type 0
FixesKnown p table = (j : ℕ) → slice_index table j ≤ length (builds_at p j)

abbrev pub places_of : Option ChoiceValue → Option (List ℕ)
places_of None = None
places_of (Some c) = Some c.places

-- What was found satisfies.
abbrev pub FoundSatisfies : ProblemValue → Option ChoiceValue → Type 0
FoundSatisfies p None = Unit {0}
FoundSatisfies p (Some c) = Satisfies p c.places c.builds

-- ---- how many nodes may be needed below
-- the product of one plus the number of builds, over the free jobs
abbrev pub free_product : List (List BuildValue) → List ℕ → ℕ
free_product [] table = 1
free_product (job ∷ jobs) [] = (1 + length job) * free_product jobs []
free_product (job ∷ jobs) (n ∷ ns) = (if n == 0 then 1 + length job else 1) * free_product jobs ns

-- the number of builds of the free jobs
abbrev pub free_sum : List (List BuildValue) → List ℕ → ℕ
free_sum [] table = 0
free_sum (job ∷ jobs) [] = length job + free_sum jobs []
free_sum (job ∷ jobs) (n ∷ ns) = (if n == 0 then length job else 0) + free_sum jobs ns

-- the product of one plus these numbers, over the free jobs
abbrev pub free_kinds : List ℕ → List ℕ → ℕ
free_kinds [] table = 1
free_kinds (k ∷ ks) [] = (1 + k) * free_kinds ks []
free_kinds (k ∷ ks) (n ∷ ns) = (if n == 0 then 1 + k else 1) * free_kinds ks ns

-- how many nodes may be needed where builds that the inputs see as one are gone into once
abbrev pub kinds_left : ProblemValue → List ℕ → ℕ
kinds_left p table = (1 + repeats_from p 0 p.jobs) * free_kinds (kinds_from p 0 p.jobs) table

-- how many entries of the table are free
abbrev pub free_jobs : List ℕ → ℕ
free_jobs [] = 0
free_jobs (n ∷ ns) = (if n == 0 then 1 else 0) + free_jobs ns

-- The table fixes no other builds than the newest, these fit the best places, and nothing is found yet.
pub record OnPath (prefers : Preference) (p : ProblemValue) (table : List ℕ) (best : Option (List ℕ)) : Type 0 where
  pub nothing : best ≡ None
  pub top : TopFits prefers p
  pub newest : (j : ℕ) → slice_index table j ≢ 0 → slice_index table j ≡ 1

-- What is found is no worse than the best places where nothing is fixed.
abbrev pub ReachesTop : Preference → ProblemValue → Option (List ℕ) → Type 0
ReachesTop prefers p best = IsBounded prefers p best nothing_fixed

-- So many nodes are no more than the table may need.
pub record IsNeeded (prefers : Preference) (p : ProblemValue) (table : List ℕ) (best : Option (List ℕ))
    (n : ℕ) : Type 0 where
  pub product : n ≤ free_product p.jobs table
  pub kinds : n ≤ kinds_left p table
  pub lacking : (i : ℕ) → HasNoPlace p (assigned p table) i → n ≤ 1
  pub bounded : IsBounded prefers p best (assigned p table) → n ≤ 1
  pub path : OnPath prefers p table best → n ≤ 1 + free_sum p.jobs table

-- What isn't better than the first isn't better than the second.
abbrev pub IsNoWorse : Preference → Option (List ℕ) → Option (List ℕ) → Type 0
IsNoWorse prefers None found = Unit {0}
IsNoWorse prefers (Some before) None = ⊥
IsNoWorse prefers (Some before) (Some found) =
    (places : List ℕ) → ¬ IsBetter prefers places before → ¬ IsBetter prefers places found

-- A tree that refutes the table under what was found in the end, with its nodes counted.
pub record IsSearched (prefers : Preference) (p : ProblemValue) (table : List ℕ) (before after : Option ChoiceValue)
    (limit left : ℕ) (tree : Tree) : Type 0 where
  pub refuted : Refutes prefers p (places_of after) (assigned p table) tree
  pub kept : IsNoWorse prefers (places_of before) (places_of after)
  pub satisfies : FoundSatisfies p after
  pub shallow : levels tree ≤ free_jobs table
  pub used : ℕ
  pub counted : count tree ≤ used
  pub spent : limit ≡ left + used
  pub needed : IsNeeded prefers p table (places_of before) used
  pub reached : OnPath prefers p table (places_of before) → ReachesTop prefers p (places_of after)

-- No tree is given only where the limit is less than what the table may need.
abbrev pub Searched : Preference → ProblemValue → List ℕ → Option ChoiceValue → Option ChoiceValue → ℕ → ℕ
    → Option Node → Type 0
Searched prefers p table before after limit left None = IsNeeded prefers p table (places_of before) (limit + 1)
Searched prefers p table before after limit left (Some node) =
    IsSearched prefers p table before after limit left (tree_of node)

-- ---- best places that are handed down
-- For each input the best place, in a row that may be longer.
abbrev pub AreUpper : ProblemValue → Assignment → List ℕ → Type 0
AreUpper p a upper = (i : ℕ) → i < length p.inputs → IsBestPlace (order_of p) p a i (slice_index upper i)

-- The table fixes the newest build of each job, and each job has one.
pub record IsNewest (p : ProblemValue) (table : List ℕ) : Type 0 where
  pub known : FixesKnown p table
  pub all : (j : ℕ) → j < length p.jobs → slice_index table j ≡ 1
  pub newest : (j : ℕ) → slice_index table j ≢ 0 → slice_index table j ≡ 1

-- A choice that satisfies, and no best places where nothing is fixed are better than its places.
abbrev pub IsTopChoice : ProblemValue → ChoiceValue → Type 0
IsTopChoice p c = Satisfies p c.places c.builds × AreBoundedBy (order_of p) p nothing_fixed c.places
