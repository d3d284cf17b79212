-- What a problem and a choice are, without where they lie in memory, and the rules that every problem keeps.
use Rattle.std.specs.Prelude.{ℕ, ◌+◌, List, [], ◌∷◌, Option, Some, None, length, slice_index_or, Bool, true, not, ◌&&◌, ◌||◌, ◌==◌, nat_lt, nat_le, IsTrue, if◌then◌else◌}
use Rattle.std.specs.List.{list_any, list_all}
use Rattle.ccr_choice.specs.declared.problem.TheConstants.{MOST_INPUTS, MOST_JOBS, MOST_PLACES, MOST_BUILDS}

-- An input: the scope of its versions, its allowed places there, the jobs that its version must have passed, and the
-- place that is kept of the newest build which used it, if one is: the places after that one come first.
pub record InputValue : Type 0 where
  pub scope : ℕ
  pub places : List ℕ
  pub jobs : List ℕ
  pub after : Option ℕ

-- A successful build: its number, and the pairs of scope and place that passed its job with it.
pub record BuildValue : Type 0 where
  pub number : ℕ
  pub pairs : List (ℕ × ℕ)

-- A problem: the inputs in plan order, and for each named job its successful builds, newest first.
pub record ProblemValue : Type 0 where
  pub inputs : List InputValue
  pub jobs : List (List BuildValue)

-- A choice: a place for each input, and the number of a build for each named job.
pub record ChoiceValue : Type 0 where
  pub places : List ℕ
  pub builds : List ℕ

abbrev pub no_input : InputValue
no_input = record { scope = 0; places = []; jobs = []; after = None }

-- Input i, the first being input 0.
abbrev pub input_at : ProblemValue → ℕ → InputValue
input_at p i = slice_index_or p.inputs i no_input

-- The successful builds of job j.
abbrev pub builds_at : ProblemValue → ℕ → List BuildValue
builds_at p j = slice_index_or p.jobs j []

-- ---- the rules
-- Scopes and jobs are numbered 0, 1, 2 in order of first mention: how many are mentioned once n, a known or the next
-- one, is.
abbrev pub next_used : ℕ → ℕ → ℕ
next_used used n = if n == used then used + 1 else used

-- How many are mentioned once all of these are.
abbrev pub used_after : ℕ → List ℕ → ℕ
used_after used [] = used
used_after used (n ∷ ns) = used_after (next_used used n) ns

-- Each job is one that was mentioned before or the next one, within the limit.
abbrev pub are_numbered : ℕ → List ℕ → Bool
are_numbered used [] = true
are_numbered used (n ∷ ns) = nat_le n used && (nat_lt n MOST_JOBS && are_numbered (next_used used n) ns)

-- No number stands twice.
abbrev pub are_distinct : List ℕ → Bool
are_distinct [] = true
are_distinct (n ∷ ns) = not (list_any (λ m. m == n) ns) && are_distinct ns

-- Places strictly ascend, from above low to the greatest place.
abbrev pub are_places_after : ℕ → List ℕ → Bool
are_places_after low [] = true
are_places_after low (n ∷ ns) = nat_lt low n && (nat_le n MOST_PLACES && are_places_after n ns)

-- Pairs strictly ascend by scope and then by place, from above the pair given; their scopes are those of inputs.
abbrev pub are_pairs_after : ℕ → ℕ → ℕ → List (ℕ × ℕ) → Bool
are_pairs_after scopes scope place [] = true
are_pairs_after scopes scope place (p ∷ ps) =
    (nat_lt scope p.0 || (scope == p.0 && nat_lt place p.1))
    && (nat_lt p.0 scopes && (nat_lt 0 p.1 && (nat_le p.1 MOST_PLACES && are_pairs_after scopes p.0 p.1 ps)))

-- A place that is kept is one from 1 to the greatest place; it needn't be allowed.
abbrev pub is_after : Option ℕ → Bool
is_after None = true
is_after (Some u) = nat_lt 0 u && nat_le u MOST_PLACES

-- An input's scope is one that was mentioned before or the next one; so are its jobs, none of them twice; its places
-- ascend.
abbrev pub is_input : ℕ → ℕ → InputValue → Bool
is_input scopes jobs i =
    nat_le i.scope scopes
    && (are_distinct i.jobs && (are_numbered jobs i.jobs && (is_after i.after && are_places_after 0 i.places)))

-- Each input keeps the rules, given what the inputs before it mention.
abbrev pub are_inputs : ℕ → ℕ → List InputValue → Bool
are_inputs scopes jobs [] = true
are_inputs scopes jobs (i ∷ is) =
    is_input scopes jobs i && are_inputs (next_used scopes i.scope) (used_after jobs i.jobs) is

-- How many scopes the inputs mention.
abbrev pub scopes_after : ℕ → List InputValue → ℕ
scopes_after scopes [] = scopes
scopes_after scopes (i ∷ is) = scopes_after (next_used scopes i.scope) is

-- How many jobs the inputs mention.
abbrev pub jobs_after : ℕ → List InputValue → ℕ
jobs_after jobs [] = jobs
jobs_after jobs (i ∷ is) = jobs_after (used_after jobs i.jobs) is

-- A build's number lies between 1 and the number of the build before it; its pairs ascend.
abbrev pub is_build : ℕ → ℕ → BuildValue → Bool
is_build scopes high b = nat_lt 0 b.number && (nat_lt b.number high && are_pairs_after scopes 0 0 b.pairs)

-- The numbers of builds strictly descend, from below high.
abbrev pub are_builds_below : ℕ → ℕ → List BuildValue → Bool
are_builds_below scopes high [] = true
are_builds_below scopes high (b ∷ bs) = is_build scopes high b && are_builds_below scopes b.number bs

-- The builds of one job.
abbrev pub are_builds : ℕ → List BuildValue → Bool
are_builds scopes bs = nat_le (length bs) MOST_BUILDS && are_builds_below scopes (MOST_BUILDS + 1) bs

abbrev pub is_problem : ProblemValue → Bool
is_problem p =
    nat_le (length p.inputs) MOST_INPUTS
    && (are_inputs 0 0 p.inputs
    && (length p.jobs == jobs_after 0 p.inputs
    && list_all (are_builds (scopes_after 0 p.inputs)) p.jobs))

-- A problem keeps the rules: its inputs do, it has a list of builds for each job that they mention, and these do.
abbrev pub IsProblem : ProblemValue → Type 0
IsProblem p = IsTrue (is_problem p)
