-- Which builds show that the places of a problem's inputs went through its jobs together.
use Rattle.std.specs.Prelude.{◌≡◌, ◌<◌, ℕ, List, [], ◌∷◌, length, slice_index, find, option_map, Option, Some, Bool, true, not, ◌&&◌, ◌||◌, ◌==◌}
use Rattle.std.specs.List.{list_any}
use Rattle.ccr_choice.specs.Problem.{InputValue, BuildValue, ProblemValue, builds_at}
use Rattle.ccr_lines.specs.Releases.{is_pair}

-- the input names the job of this number
abbrev pub names_job : ℕ → InputValue → Bool
names_job j x = list_any (λ n. n == j) x.jobs

-- the build passed, all together, the places of those of these inputs that name the job of this number; the inputs have
-- these places, one each
abbrev pub passed_together : ℕ → List InputValue → List ℕ → BuildValue → Bool
passed_together j [] places b = true
passed_together j (x ∷ xs) [] b = true
passed_together j (x ∷ xs) (n ∷ ns) b =
    (not (names_job j x) || list_any (is_pair (x.scope, n)) b.pairs) && passed_together j xs ns b

-- THE WITNESS OF A JOB, in a problem whose inputs have these places: the number of its newest build that passed together
-- all places of the inputs that name it, if there is such a build
abbrev pub witness : ProblemValue → List ℕ → ℕ → Option ℕ
witness q places j = option_map (λ b. b.number) (find (passed_together j q.inputs places) (builds_at q j))

-- each job of the problem has a witness, and these are they
pub record AreWitnesses (q : ProblemValue) (places builds : List ℕ) : Type 0 where
  pub each : length builds ≡ length q.jobs
  pub witness : (j : ℕ) → j < length q.jobs → witness q places j ≡ Some (slice_index builds j)
