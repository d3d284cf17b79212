-- Demands that exclude each other, in words.
use Rattle.std.specs.Prelude.{ℕ, List, [], ◌∷◌, ◌++◌, flat_map, slice_get, Bool, true, false, not, nat_lt, ◌&&◌, ◌==◌, Option, Some, None, option_and_then, codes, decimal, if◌then◌else◌}
use Rattle.std.specs.List.{list_any}
use Rattle.std.specs.Option.{option_map_or, option_or}
use Rattle.ccr_history.specs.Text.{Text}
use Rattle.ccr_pipeline.specs.Inputs.{InputData}
use Rattle.ccr_explain.specs.ClashValue.{ClashValue}
use Rattle.ccr_explain.specs.Cut.{is_allowed_of, is_passed_of}
use Rattle.ccr_explain.specs.declared.demand.Demand.{Demand}
use Rattle.ccr_explain.specs.declared.demand.Demand.TheVariants.{Allowed, Passed}
use Rattle.ccr_lines.specs.declared.asked.Asked.{Asked}
use Rattle.ccr_lines.specs.declared.asked.Asked.TheVariants as asked

-- ---- names
-- the name of input i
abbrev pub input_name : List InputData → ℕ → Text
input_name is i = option_map_or (λ x. x.name) (slice_get is i) []

-- the name of job j
abbrev pub job_name : List Text → ℕ → Text
job_name jobs j = option_map_or (λ name. name) (slice_get jobs j) []

-- ---- demands
-- which choice is asked for: any; or one in which an input takes a place, and each input before it none that is worse than
-- its own of these
pub data Question : Type 0 where
  any : Question
  taking : (input place : ℕ) (places : List ℕ) → Question

-- what a value of the program's type asks for
abbrev pub question_of : Asked → Question
question_of asked.Any = any
question_of (asked.Taking input place places) = taking input place places.now

-- that an input takes no worse place than this one
abbrev pub no_worse_words : Option ℕ → Text
no_worse_words None = codes " takes an allowed version"
no_worse_words (Some place) = codes " takes " ++ (decimal place ++ codes " or better")

-- what input i is to take, after its name
abbrev pub allowed_words : Question → ℕ → Text
allowed_words any i = codes " takes an allowed version"
allowed_words (taking input place places) i =
    if i == input then codes " takes " ++ decimal place
    else (if nat_lt i input then no_worse_words (slice_get places i) else codes " takes an allowed version")

-- a demand of the problem in which the question is asked
abbrev pub demand_words : Question → List InputData → List Text → Demand → Text
demand_words q is jobs (Allowed i) = input_name is i ++ allowed_words q i
demand_words q is jobs (Passed i j) = input_name is i ++ (codes " passed " ++ job_name jobs j)

-- the demands behind the first
abbrev pub further_words : Question → List InputData → List Text → List Demand → Text
further_words q is jobs [] = []
further_words q is jobs (d ∷ ds) = codes ", " ++ (demand_words q is jobs d ++ further_words q is jobs ds)

-- all demands, with commas between them
abbrev pub demands_words : Question → List InputData → List Text → List Demand → Text
demands_words q is jobs [] = []
demands_words q is jobs (d ∷ ds) = demand_words q is jobs d ++ further_words q is jobs ds

-- that perhaps fewer demands exclude each other, unless it is known that none can be left out
abbrev pub fewer_words : Bool → Text
fewer_words true = []
fewer_words false = codes " (perhaps fewer)"

-- demands that exclude each other
abbrev pub clash_words : Question → List InputData → List Text → ClashValue → Text
clash_words q is jobs c =
    codes "clash: " ++ (demands_words q is jobs c.demands ++ fewer_words c.is_irreducible)

-- ---- several inputs and one job
-- the job of a demand that names one
abbrev pub job_in : Demand → Option ℕ
job_in (Allowed i) = None
job_in (Passed i j) = Some j

-- the job of the first demand that names one
abbrev pub first_job : List Demand → Option ℕ
first_job [] = None
first_job (d ∷ ds) = option_or (job_in d) (first_job ds)

-- a demand names another job than j
abbrev pub names_other : ℕ → Demand → Bool
names_other j (Allowed i) = false
names_other j (Passed i n) = not (n == j)

-- a demand asks that another input than own has passed a job
abbrev pub asks_other : ℕ → Demand → Bool
asks_other own (Allowed i) = false
asks_other own (Passed i j) = not (i == own)

-- the input that a demand asks to have passed a job, unless it is own
abbrev pub other_in : ℕ → Demand → List ℕ
other_in own (Allowed i) = []
other_in own (Passed i j) = if i == own then [] else i ∷ []

-- the inputs, but for own, that demands ask to have passed a job
abbrev pub others_in : ℕ → List Demand → List ℕ
others_in own ds = flat_map (other_in own) ds

-- the demands say that the place of input own and those of others haven't passed job j together: none can be left out, they ask
-- that input own takes a place which has passed the job, and another input too, and they name no other job
abbrev pub is_together : ℕ → ClashValue → ℕ → Bool
is_together own c j =
    c.is_irreducible
    && (list_any (is_allowed_of own) c.demands
    && (list_any (is_passed_of own j) c.demands
    && (list_any (asks_other own) c.demands && not (list_any (names_other j) c.demands))))

-- the job, where they say so
abbrev pub together_job : ℕ → ClashValue → Option ℕ
together_job own c =
    option_and_then (λ j. if is_together own c j then Some j else None) (first_job c.demands)

-- that a place is as good as this one
abbrev pub or_better : Option ℕ → Text
or_better None = []
or_better (Some place) = codes " " ++ (decimal place ++ codes " or better")

-- which allowed places of another input are meant: its own or a better one, where it comes first; or any
abbrev pub allowed_other : ℕ → List ℕ → List InputData → ℕ → Text
allowed_other own places is i =
    if nat_lt i own then input_name is i ++ or_better (slice_get places i) else codes "any allowed " ++ input_name is i

-- which places of another input are meant: such allowed ones; or any at all
abbrev pub other_words : ℕ → List ℕ → List InputData → List Demand → ℕ → Text
other_words own places is ds i =
    if list_any (is_allowed_of i) ds then allowed_other own places is i else codes "any " ++ input_name is i

-- the others behind the first
abbrev pub further_others : ℕ → List ℕ → List InputData → List Demand → List ℕ → Text
further_others own places is ds [] = []
further_others own places is ds (i ∷ others) =
    codes ", " ++ (other_words own places is ds i ++ further_others own places is ds others)

-- all others, with commas between them
abbrev pub others_words : ℕ → List ℕ → List InputData → List Demand → List ℕ → Text
others_words own places is ds [] = []
others_words own places is ds (i ∷ others) =
    other_words own places is ds i ++ further_others own places is ds others

-- that the place hasn't passed a job together with those of the others
abbrev pub together_words : ℕ → List ℕ → List InputData → List Demand → Text → Text
together_words own places is ds job =
    codes "not passed " ++ (job ++ (codes " together with " ++ others_words own places is ds (others_in own ds)))

-- why input own can't take a place: it hasn't passed a job together with those of other inputs; or demands that exclude each other
abbrev pub taking_words : ℕ → ℕ → List ℕ → List InputData → List Text → ClashValue → Text
taking_words own place places is jobs c =
    option_map_or (λ j. together_words own places is c.demands (job_name jobs j)) (together_job own c)
    (clash_words (taking own place places) is jobs c)
