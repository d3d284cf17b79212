-- Builds: what each used, and what it moved.
use Rattle.std.specs.Prelude.{◌≡◌, ◌≢◌, ℕ, ◌+◌, List, [], ◌∷◌, ◌++◌, map, Bool, true, false, ◌&&◌, ◌||◌, ◌==◌, nat_lt, Option, Some, None, if◌then◌else◌, count_by}
use Rattle.std.specs.List.{list_any}
use Rattle.std.specs.Ordering.{nat_cmp, match_ordering}
use Rattle.std.specs.Str.{bytes_eq}
use Rattle.std.specs.Cmp.Lexicographic.{slice_cmp}
use Rattle.ccr_history.specs.declared.build.Status.{Status}
use Rattle.ccr_history.specs.declared.build.Status.TheVariants.{Running, Succeeded, Failed, Errored, Aborted}
use Rattle.ccr_history.specs.Text.{Text}

-- a used place: the version that a build was given for one of its inputs
pub record UsedData : Type 0 where
  pub input : Text
  pub scope : ℕ
  pub place : ℕ

-- a build: what it used is fixed when it is made; what it moved, pairs of scope and place, is known at its end
pub record BuildData : Type 0 where
  pub job : Text
  pub number : ℕ
  pub status : Status
  pub used : List UsedData
  pub moved : List (ℕ × ℕ)

-- ---- orders
-- a used place comes before those of inputs whose names are greater, by bytes
abbrev pub with_used : UsedData → List UsedData → List UsedData
with_used u [] = u ∷ []
with_used u (v ∷ vs) = match_ordering (slice_cmp nat_cmp u.input v.input) (u ∷ v ∷ vs) (u ∷ v ∷ vs) (v ∷ with_used u vs)

-- used places, by input name
abbrev pub by_input : List UsedData → List UsedData
by_input [] = []
by_input (u ∷ us) = with_used u (by_input us)

-- by scope, and then by place, the first pair stands before the second
abbrev pub is_before : ℕ × ℕ → ℕ × ℕ → Bool
is_before p q = nat_lt p.0 q.0 || (p.0 == q.0 && nat_lt p.1 q.1)

-- a pair comes before those that stand behind it
abbrev pub with_moved : ℕ × ℕ → List (ℕ × ℕ) → List (ℕ × ℕ)
with_moved p [] = p ∷ []
with_moved p (q ∷ qs) = if is_before p q then p ∷ q ∷ qs else q ∷ with_moved p qs

-- pairs, by scope and then by place
abbrev pub by_place : List (ℕ × ℕ) → List (ℕ × ℕ)
by_place [] = []
by_place (p ∷ ps) = with_moved p (by_place ps)

-- ---- builds and their numbers
-- the build is one of this job
abbrev pub is_of : Text → BuildData → Bool
is_of job b = bytes_eq job b.job

-- the build is the job's build of this number
abbrev pub is_build_of : Text → ℕ → BuildData → Bool
is_build_of job number b = is_of job b && number == b.number

-- how many builds of a job were made
abbrev pub count_of : Text → List BuildData → ℕ
count_of job builds = count_by (is_of job) builds

-- a job's build of this number
abbrev pub build_of : Text → ℕ → List BuildData → Option BuildData
build_of job number [] = None
build_of job number (b ∷ bs) = if is_build_of job number b then Some b else build_of job number bs

-- a build as it begins
abbrev pub new_build : Text → ℕ → List UsedData → BuildData
new_build job number used =
    record { job = job; number = number; status = Running; used = by_input used; moved = [] }

-- the builds with a new one at the end: its number is one more than the count of its job's builds
abbrev pub with_build : Text → List UsedData → List BuildData → List BuildData
with_build job used builds = builds ++ new_build job (count_of job builds + 1) used ∷ []

-- a build that ended so
abbrev pub ended : Status → List (ℕ × ℕ) → BuildData → BuildData
ended status moved b =
    record { job = b.job; number = b.number; status = status; used = b.used; moved = by_place moved }

-- the builds, where the job's build of this number has ended so
abbrev pub with_end : Text → ℕ → Status → List (ℕ × ℕ) → List BuildData → List BuildData
with_end job number status moved builds =
    map (λ b. if is_build_of job number b then ended status moved b else b) builds

-- the positions of those that pass the test, in order
abbrev pub positions : {X : Type 0} → (X → Bool) → List X → List ℕ
positions test [] = []
positions test (x ∷ xs) =
    if test x then 0 ∷ map (λ n. n + 1) (positions test xs) else map (λ n. n + 1) (positions test xs)

-- the positions of a job's builds, oldest first
abbrev pub positions_of : Text → List BuildData → List ℕ
positions_of job builds = positions (is_of job) builds

-- ---- how they stand
-- the build has been made and has not ended
abbrev pub is_running : Status → Bool
is_running Running = true
is_running Succeeded = false
is_running Failed = false
is_running Errored = false
is_running Aborted = false

-- the job's build of this number has ended
abbrev pub HasEnded : Text → ℕ → List BuildData → Type 0
HasEnded job number builds = (b : BuildData) × (build_of job number builds ≡ Some b) × (b.status ≢ Running)

-- ---- what they passed and used
-- the build succeeded
abbrev pub is_succeeded : Status → Bool
is_succeeded Succeeded = true
is_succeeded Running = false
is_succeeded Failed = false
is_succeeded Errored = false
is_succeeded Aborted = false

-- the pairs that passed a build's job with it: what it moved, if it succeeded
abbrev pub passed_pairs : BuildData → List (ℕ × ℕ)
passed_pairs b = if is_succeeded b.status then b.moved else []

-- the two used places are one: same input, scope and place
abbrev pub is_used : UsedData → UsedData → Bool
is_used u v = bytes_eq u.input v.input && (u.scope == v.scope && u.place == v.place)

-- a build of the job, of whatever status, used this place for this input
abbrev pub has_used : Text → UsedData → List BuildData → Bool
has_used job u builds = list_any (λ b. is_of job b && list_any (is_used u) b.used) builds
