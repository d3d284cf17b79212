-- How many builds of each named job differ in what the inputs can see of them.
use Rattle.std.specs.Prelude.{ℕ, ◌+◌, ◌-◌, ◌*◌, max, List, [], ◌∷◌, length, filter, Bool, true, false, ◌&&◌, ◌==◌, if◌then◌else◌}
use Rattle.std.specs.List.{list_any}
use Rattle.ccr_choice.specs.Problem.{ProblemValue, BuildValue}

-- Job j is named by an input of this scope.
abbrev pub is_named_in : ProblemValue → ℕ → ℕ → Bool
is_named_in p j scope = list_any (λ i. i.scope == scope && list_any (λ m. m == j) i.jobs) p.inputs

-- The pairs of a build that count for job j: those in the scopes of inputs that name the job.
abbrev pub counting : ProblemValue → ℕ → BuildValue → List (ℕ × ℕ)
counting p j b = filter (λ q. is_named_in p j q.0) b.pairs

-- Two lists of pairs are the same.
abbrev pub are_equal : List (ℕ × ℕ) → List (ℕ × ℕ) → Bool
are_equal [] [] = true
are_equal (x ∷ xs) (y ∷ ys) = x.0 == y.0 && (x.1 == y.1 && are_equal xs ys)
are_equal [] (y ∷ ys) = false
are_equal (x ∷ xs) [] = false

-- How many of these builds of job j differ in the pairs that count from each build before them.
abbrev pub kinds_after : ProblemValue → ℕ → List BuildValue → List BuildValue → ℕ
kinds_after p j before [] = 0
kinds_after p j before (b ∷ bs) =
    (if list_any (λ c. are_equal (counting p j b) (counting p j c)) before then 0 else 1)
    + kinds_after p j (b ∷ before) bs

-- For job j and the jobs behind it, how many different sets of pairs that count its builds have.
abbrev pub kinds_from : ProblemValue → ℕ → List (List BuildValue) → List ℕ
kinds_from p j [] = []
kinds_from p j (job ∷ jobs) = kinds_after p j [] job ∷ kinds_from p (j + 1) jobs

-- The greatest number of builds by which a job of these has more builds than different sets.
abbrev pub repeats_from : ProblemValue → ℕ → List (List BuildValue) → ℕ
repeats_from p j [] = 0
repeats_from p j (job ∷ jobs) = max (length job - kinds_after p j [] job) (repeats_from p (j + 1) jobs)

-- The product of one plus each of these numbers.
abbrev pub product_of : List ℕ → ℕ
product_of [] = 1
product_of (n ∷ ns) = (1 + n) * product_of ns

-- How many nodes a proof may need where builds that the inputs see as one are gone into once.
abbrev pub kinds_bound : ProblemValue → ℕ
kinds_bound p = (1 + repeats_from p 0 p.jobs) * product_of (kinds_from p 0 p.jobs)
