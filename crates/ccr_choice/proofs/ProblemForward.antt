-- A problem is read from the first line to the last.
use Rattle.std.proofs.Common.{◌≡◌, ℕ, ◌+◌, ◌-◌, List, length, Bool, true, false, cond, ◌==◌, Ok, Err, refl}
use Rattle.ccr_choice.specs.declared.word.Word.{Word}
use Rattle.ccr_choice.specs.Problem.{InputValue, BuildValue, ProblemValue, is_build, scopes_after, jobs_after}
use Rattle.ccr_choice.specs.Reading.{bad_line, trailing, Read, ◌>>=◌, keep_if, one_line, whole, IsFirstBad}
use Rattle.ccr_choice.specs.ProblemText.{format_of, is_input_in, input_on, build_on, next_counts, next_input, next_build, next_inputs, next_builds, next_job, next_jobs, problem_head, input_count, job_count, build_count, next_problem, problem_in}
use Rattle.ccr_choice.proofs.Forward.{IsForward, forward_bind, forward_done, forward_line, forward_many}
use Rattle.ccr_choice.proofs.BadLines.{bad_there, bad_back}

forward_input : (format : ℕ) (used : ℕ × ℕ) → IsForward (λ k. k) (next_input format used)
unfolding next_input input_on
forward_input format used = forward_line (λ l. keep_if (is_input_in format used) (input_on l)) refl

forward_build : (scopes high : ℕ) → IsForward (λ k. k) (next_build scopes high)
unfolding next_build build_on
forward_build scopes high = forward_line (λ l. keep_if (is_build scopes high) (build_on l)) refl

forward_inputs : (format n : ℕ) → IsForward (λ k. k) (next_inputs format n)
unfolding next_inputs
forward_inputs format n = forward_many (next_input format) next_counts (forward_input format) n (0, 0)

forward_builds : (scopes n : ℕ) → IsForward (λ k. k) (next_builds scopes n)
unfolding next_builds
forward_builds scopes n = forward_many (next_build scopes) (λ high b. b.number) (forward_build scopes) n 1000001

forward_job : (scopes : ℕ) → IsForward (λ k. k) (next_job scopes)
unfolding next_job
forward_job scopes = forward_bind (λ k. k) (one_line build_count) (λ n ls. next_builds scopes n ls) (λ n. forward_builds scopes n) (forward_line build_count refl)

forward_jobs : (scopes n : ℕ) → IsForward (λ k. k) (next_jobs scopes n)
unfolding next_jobs
forward_jobs scopes n = forward_many next_job (λ s builds. s) forward_job n scopes

-- ---- the parts, from the last to the first
abbrev after_jobs : List InputValue → ℕ → List (List Word) → Read ProblemValue
after_jobs is n ls = next_jobs (scopes_after 0 is) n ls >>= λ builds. Ok (record { inputs = is; jobs = builds.0 }, builds.1)

abbrev after_inputs : ℕ → List InputValue → List (List Word) → Read ProblemValue
after_inputs format is ls = one_line (job_count (format == format_of is) (jobs_after 0 is)) ls >>= λ jobs. after_jobs is jobs.0 jobs.1

abbrev after_count : ℕ → ℕ → List (List Word) → Read ProblemValue
after_count format n ls = next_inputs format n ls >>= λ inputs. after_inputs format inputs.0 inputs.1

abbrev after_head : ℕ → List (List Word) → Read ProblemValue
after_head format ls = one_line input_count ls >>= λ count. after_count format count.0 count.1

forward_after_jobs : (is : List InputValue) (n : ℕ) → IsForward (λ k. k) (after_jobs is n)
forward_after_jobs is n =
    let made : List (List BuildValue) → ProblemValue = λ js. record { inputs = is; jobs = js } in
    forward_bind (λ k. k) (next_jobs (scopes_after 0 is) n) (λ js ls. Ok (made js, ls)) (λ js. forward_done (λ k. k) (made js)) (forward_jobs (scopes_after 0 is) n)

forward_after_inputs : (format : ℕ) (is : List InputValue) → IsForward (λ k. k) (after_inputs format is)
forward_after_inputs format is =
    let line = job_count (format == format_of is) (jobs_after 0 is) in
    forward_bind (λ k. k) (one_line line) (after_jobs is) (forward_after_jobs is) (forward_line line refl)

forward_after_count : (format n : ℕ) → IsForward (λ k. k) (after_count format n)
forward_after_count format n = forward_bind (λ k. k) (next_inputs format n) (after_inputs format) (forward_after_inputs format) (forward_inputs format n)

forward_after_head : (format : ℕ) → IsForward (λ k. k) (after_head format)
forward_after_head format = forward_bind (λ k. k) (one_line input_count) (after_count format) (forward_after_count format) (forward_line input_count refl)

forward_problem : IsForward (λ k. k) next_problem
unfolding next_problem
forward_problem = forward_bind (λ k. k) (one_line problem_head) after_head forward_after_head (forward_line problem_head refl)

-- ---- what is told of the whole
no_bad : {A : Type 0} (b : Bool) (x : A) (m : ℕ) → cond b (Ok x) (Err trailing) ≡ Err (bad_line m) → ⊥
no_bad true x m h = cc
no_bad false x m h = cc

pub only_bad : {A : Type 0} (n m : ℕ) (r : Read A) → whole bad_line trailing n r ≡ Err (bad_line m) → (k : ℕ) × (r ≡ Err k) × (n + 1 - k ≡ m)
only_bad n m (Err k) h = (k, refl, cc (h))
only_bad n m (Ok x) h = absurd (no_bad (length x.1 == 0) x.0 m h)

pub problem_bad : (bs : List ℕ) (n : ℕ) → problem_in bs ≡ Err (bad_line n) → IsFirstBad problem_in bad_line bs n
unfolding problem_in
problem_bad bs n h = bad_there (λ k. k) (λ j k e. e) bad_line (whole bad_line trailing) (λ m k. refl) only_bad next_problem forward_problem bs n h

pub problem_bad_back : (bs : List ℕ) (n : ℕ) → IsFirstBad problem_in bad_line bs n → problem_in bs ≡ Err (bad_line n)
unfolding problem_in
problem_bad_back bs n h = bad_back (λ k. k) (λ j k e. e) bad_line (whole bad_line trailing) (λ m k. refl) only_bad next_problem forward_problem bs n h
