-- A problem cut to some of its demands, so that the resolver can be asked. Public contracts name these only where such a question was over
-- its budget.
use Rattle.std.specs.Prelude.{◌≡◌, ℕ, suc, ◌+◌, ◌<◌, ◌≤◌, List, [], ◌∷◌, ◌++◌, length, map, filter, slice_index, slice_index_or, Bool, false, not, ◌&&◌, ◌||◌, ◌==◌, if◌then◌else◌, IsTrue, All, Contains}
use Rattle.std.specs.List.{list_any, list_all, range_with_len}
use Rattle.ccr_choice.specs.Problem.{ProblemValue, InputValue, BuildValue, no_input, builds_at, IsProblem}
use Rattle.ccr_choice.specs.Satisfies.{Moved}
use Rattle.ccr_resolve.specs.NodeBound.{IsBelowNodeBound}
use Rattle.ccr_explain.specs.declared.demand.Demand.{Demand}
use Rattle.ccr_explain.specs.declared.table.Table.{Table}
use Rattle.ccr_explain.specs.declared.demand.Demand.TheVariants.{Allowed, Passed}
use Rattle.ccr_choice.specs.Optimal.{HasNoChoice}
use Rattle.ccr_choice.specs.Preference.{order_of}
use Rattle.ccr_resolve.specs.Chosen.{IsChosen}
use Rattle.ccr_resolve.specs.declared.chosen.Chosen.{Chosen}
use Rattle.ccr_index.specs.Rows.{no_build}
use Rattle.ccr_explain.specs.declared.cut.Cut.{Cut}
use Rattle.ccr_explain.specs.declared.cut.Cut.TheVariants.{Left, Met as CutMet, Emptied}
use Rattle.ccr_explain.specs.declared.met.Met.{Met}
use Rattle.ccr_explain.specs.declared.met.Met.TheVariants.{Yes, No, OverBudget}
use Rattle.ccr_explain.specs.Demand.{IsDemandOf, CanBeMet, ExcludeEachOther}
use Rattle.ccr_explain.specs.Narrowed.{narrowed_from}

-- Whether a demand is that of the allowed places of input i.
abbrev pub is_allowed_of : ℕ → Demand → Bool
is_allowed_of i (Allowed n) = n == i
is_allowed_of i (Passed n m) = false

-- Whether a demand is that of input i for job j.
abbrev pub is_passed_of : ℕ → ℕ → Demand → Bool
is_passed_of i j (Allowed n) = false
is_passed_of i j (Passed n m) = n == i && m == j

-- The jobs among these that input i must still have passed.
abbrev pub jobs_left : List Demand → ℕ → List ℕ → List ℕ
jobs_left ds i js = filter (λ j. list_any (is_passed_of i j) ds) js

-- ---- the jobs that are left, in order of first mention
abbrev pub with_job : List ℕ → ℕ → List ℕ
with_job order j = if list_any (λ m. m == j) order then order else order ++ j ∷ []

abbrev pub with_jobs : List ℕ → List ℕ → List ℕ
with_jobs order [] = order
with_jobs order (j ∷ js) = with_jobs (with_job order j) js

abbrev pub order_from : List Demand → ℕ → List ℕ → List InputValue → List ℕ
order_from ds i order [] = order
order_from ds i order (x ∷ xs) = order_from ds (i + 1) (with_jobs order (jobs_left ds i x.jobs)) xs

-- How many jobs stand before this one.
abbrev pub place_in : List ℕ → ℕ → ℕ
place_in [] j = 0
place_in (m ∷ ms) j = if m == j then 0 else suc (place_in ms j)

-- ---- the cut
-- How far the places of an input go that may take any: to the top one, or to the first where it needn't have passed a job.
abbrev pub top_for : List ℕ → ℕ → ℕ
top_for [] top = 1
top_for (j ∷ js) top = top

-- Input i with what is left of its demands: where its allowed places aren't, it may take any place.
abbrev pub cut_input : List Demand → List ℕ → ℕ → ℕ → InputValue → InputValue
cut_input ds order top i x = record x {
  places = if list_any (is_allowed_of i) ds then x.places else range_with_len 1 (top_for (jobs_left ds i x.jobs) top);
  jobs = map (place_in order) (jobs_left ds i x.jobs);
}

abbrev pub cut_from : List Demand → List ℕ → ℕ → ℕ → List InputValue → List InputValue
cut_from ds order top i [] = []
cut_from ds order top i (x ∷ xs) = cut_input ds order top i x ∷ cut_from ds order top (i + 1) xs

-- The jobs that are left, in order of first mention.
unfoldable pub order_left : List Demand → ProblemValue → List ℕ
order_left ds p = order_from ds 0 [] p.inputs

-- One of these pairs has the scope of the input and one of its places.
abbrev pub has_place_of : InputValue → List (ℕ × ℕ) → Bool
has_place_of x pairs = list_any (λ r. r.0 == x.scope && list_any (λ y. y == r.1) x.places) pairs

-- A table has a mark for one of these pairs: it has the scope of the table, and its place a mark.
abbrev pub has_marked : Table → List (ℕ × ℕ) → Bool
has_marked t pairs = list_any (λ r. r.0 == t.scope && slice_index_or t.marks.items r.1 false) pairs

-- An input names job n.
abbrev pub names : ℕ → InputValue → Bool
names n x = list_any (λ m. m == n) x.jobs

-- A build of job n is of use to these inputs: each of them that names the job can have one of its places with it.
abbrev pub is_of_use : List InputValue → ℕ → BuildValue → Bool
is_of_use xs n b = list_all (λ x. not (names n x) || has_place_of x b.pairs) xs

-- The builds that are of use, of these jobs with the numbers from n on.
abbrev pub builds_from : ProblemValue → List InputValue → ℕ → List ℕ → List (List BuildValue)
builds_from p xs n [] = []
builds_from p xs n (j ∷ js) = filter (is_of_use xs n) (builds_at p j) ∷ builds_from p xs (n + 1) js

-- The inputs of the problem cut to these demands.
unfoldable pub inputs_cut : List Demand → ℕ → ProblemValue → List InputValue
inputs_cut ds top p = cut_from ds (order_left ds p) top 0 p.inputs

-- The problem of these inputs, and of the jobs that are left, with those of their builds that are of use to them.
unfoldable pub problem_with : List Demand → ProblemValue → List InputValue → ProblemValue
problem_with ds p xs = record { inputs = xs; jobs = builds_from p xs 0 (order_left ds p) }

-- No build has a pair of a place above the top one.
pub record IsTop (p : ProblemValue) (top : ℕ) : Type 0 where
  pub least : 1 ≤ top
  pub most : top ≤ 100000
  pub covers : All (λ builds. All (λ b. All (λ q. q.1 ≤ top) b.pairs) builds) p.jobs

-- A problem keeps the rules, and no build has a pair of a place above the top one.
pub record IsProblemUpTo (p : ProblemValue) (top : ℕ) : Type 0 where
  pub rules : IsProblem p
  pub is_top : IsTop p top

-- ---- builds by their places
-- The build at a place among these, the newest being at place 0.
abbrev pub build_in : List BuildValue → ℕ → BuildValue
build_in bs k = slice_index_or bs k no_build

-- At these places among the builds lie those of the others that pass a test, in their order.
pub record AreThose (test : BuildValue → Bool) (bs others : List BuildValue) (ks : List ℕ) : Type 0 where
  pub within : All (λ k. k < length bs) ks
  pub are : map (build_in bs) ks ≡ filter test others

-- ---- fewer places
-- A place for each of these inputs that it may take, and for each job a build with which the places of all inputs that name it
-- passed it.
pub record SuitsInputs (p : ProblemValue) (order : List ℕ) (xs : List InputValue) (places builds : List ℕ) : Type 0 where
  pub allowed : (i : ℕ) → i < length xs → Contains (slice_index_or xs i no_input).places (slice_index places i)
  pub passed : (i n : ℕ) → i < length xs → Contains (slice_index_or xs i no_input).jobs n
      → Moved (builds_at p (slice_index order n)) (slice_index builds n) ((slice_index_or xs i no_input).scope, slice_index places i)

-- The others are these inputs with fewer places, and whatever suits these inputs suits the others.
pub record IsNarrowed (p : ProblemValue) (order : List ℕ) (xs others : List InputValue) : Type 0 where
  pub may : ℕ → ℕ → Bool
  pub is : others ≡ narrowed_from may 0 xs
  pub keeps : (places builds : List ℕ) → SuitsInputs p order xs places builds → (i : ℕ) → i < length xs
      → IsTrue (may i (slice_index places i))

-- Of job n, at these places lie builds, and among them all that are of use.
pub record IsEnough (p : ProblemValue) (order : List ℕ) (xs : List InputValue) (n : ℕ) (ks : List ℕ) : Type 0 where
  pub within : All (λ k. k < length (builds_at p (slice_index order n))) ks
  pub all : filter (is_of_use xs n) (map (build_in (builds_at p (slice_index order n))) ks)
      ≡ filter (is_of_use xs n) (builds_at p (slice_index order n))

-- Each of these builds that has the pair has a mark.
abbrev pub MarksBuilds : List BuildValue → List Bool → ℕ × ℕ → Type 0
MarksBuilds bs marks pair =
    (k : ℕ) → k < length bs → Contains (slice_index_or bs k no_build).pairs pair → IsTrue (slice_index_or marks k false)

-- Each of these pairs that is in the scope has a mark, by its place.
abbrev pub AreMarked : ℕ → List Bool → List (ℕ × ℕ) → Type 0
AreMarked scope marks pairs =
    All (λ r. r.0 ≡ scope → r.1 < length marks → IsTrue (slice_index_or marks r.1 false)) pairs

-- The input with fewer places: each that one of these builds has, up to the top one, is still there.
pub record IsInputNarrowed (top : ℕ) (useful : List BuildValue) (x y : InputValue) : Type 0 where
  pub may : ℕ → Bool
  pub is : y ≡ record x { places = filter may x.places }
  pub keeps : (b : BuildValue) (place : ℕ) → Contains useful b → Contains b.pairs (x.scope, place) → place ≤ top
      → IsTrue (may place)

-- The problem is the one that is cut to these demands, with some top place, and without some places that no choice can have.
pub record IsCutTo (ds : List Demand) (p q : ProblemValue) : Type 0 where
  pub rules : IsProblem p
  pub top : ℕ
  pub is_top : IsTop p top
  pub inputs : List InputValue
  pub narrowed : IsNarrowed p (order_left ds p) (inputs_cut ds top p) inputs
  pub is : q ≡ problem_with ds p inputs

-- The problem that is cut to these demands has no choice.
pub record IsEmptied (ds : List Demand) (p : ProblemValue) : Type 0 where
  pub cut : ProblemValue
  pub is_cut : IsCutTo ds p cut
  pub none : HasNoChoice cut

-- What becomes of a problem that is cut to these demands: the problem that is left, a choice that meets them, or nothing, where there
-- is no choice.
abbrev pub IsCut : List Demand → ProblemValue → Cut → Type 0
IsCut ds p (Left q) = IsCutTo ds p q
IsCut ds p (CutMet c) = CanBeMet p ds
IsCut ds p Emptied = IsEmptied ds p

-- What is chosen is what is chosen for the problem cut to these demands.
pub record IsChosenOfCut (ds : List Demand) (p : ProblemValue) (budget : ℕ) (x : Chosen) : Type 0 where
  pub cut : ProblemValue
  pub is_cut : IsCutTo ds p cut
  pub chosen : IsChosen (order_of cut) cut budget x

-- A budget doesn't suffice to tell whether some choice meets these demands: it is below the node bound of the problem that is cut to them.
pub record IsOverAt (ds : List Demand) (p : ProblemValue) (budget : ℕ) : Type 0 where
  pub cut : ProblemValue
  pub is_cut : IsCutTo ds p cut
  pub below : IsBelowNodeBound (order_of cut) cut budget

-- A budget doesn't suffice to tell whether some choice meets demands of the problem that were asked about.
pub record IsOver (p : ProblemValue) (budget : ℕ) : Type 0 where
  pub asked : List Demand
  pub demands : All (IsDemandOf p) asked
  pub over : IsOverAt asked p budget

-- Whether some choice meets these demands; it is left open only where the budget doesn't suffice to tell.
abbrev pub IsMet : ProblemValue → List Demand → ℕ → Met → Type 0
IsMet p ds budget (Yes c) = CanBeMet p ds
IsMet p ds budget No = ExcludeEachOther p ds
IsMet p ds budget OverBudget = IsOverAt ds p budget
