-- What is read keeps the rules of a problem.
use Rattle.std.proofs.Common.{◌≡◌, ℕ, zero, suc, List, [], ◌∷◌, length, Bool, true, false, cond, not, ◌&&◌, ◌||◌, ◌==◌, nat_le, Option, Some, None, Result, Ok, Err, IsTrue, ap, ◌∙◌, ◌≤◌, refl, sym, arith, eq-eqb}
use Rattle.std.specs.Prelude.{is_some}
use Rattle.std.specs.List.{list_all}
use Rattle.std.proofs.lemmas.Bool.{and_parts, and_from, le-leb}
use Rattle.ccr_choice.specs.declared.word.Word.{Word}
use Rattle.ccr_choice.specs.Problem.{InputValue, BuildValue, ProblemValue, is_input, are_inputs, is_build, are_builds, are_builds_below, jobs_after, scopes_after, is_problem}
use Rattle.ccr_choice.specs.Reading.{◌>>=◌, keep_if, or_broken, one_line, next_many}
use Rattle.ccr_choice.specs.ProblemText.{format_of, is_input_in, next_counts, input_on, build_on, next_input, next_build, next_inputs, next_builds, next_job, next_jobs, build_count, builds_number, problem_head, input_count, job_count, next_problem}

pub bind_ok : {A B E : Type 0} (r : Result A E) (f : A → Result B E) (y : B) → (r >>= f) ≡ Ok y → (x : A) × (r ≡ Ok x) × (f x ≡ Ok y)
bind_ok (Ok x) f y h = (x, refl, h)
bind_ok (Err e) f y h = cc

-- each passes the test, where each may change what is asked of the next
abbrev pub all_along : {S A : Type 0} → (S → A → Bool) → (S → A → S) → S → List A → Bool
all_along test next s [] = true
all_along test next s (x ∷ xs) = test s x && all_along test next (next s x) xs

pub many_keeps : {S A : Type 0} (item : S → List (List Word) → Result (A × List (List Word)) ℕ) (next : S → A → S) (test : S → A → Bool)
    → ((s : S) (ls : List (List Word)) (x : A × List (List Word)) → item s ls ≡ Ok x → test s x.0 ≡ true)
    → (n : ℕ) (s : S) (ls : List (List Word)) (xs : List A × List (List Word)) → next_many item next n s ls ≡ Ok xs
    → (all_along test next s xs.0 ≡ true) × (length xs.0 ≡ n)
many_keeps item next test each zero s ls xs h = let e : xs.0 ≡ [] = cc in (rw e refl, rw e refl)
many_keeps item next test each (suc n) s ls xs h =
    let first = bind_ok (item s ls) _ xs h in
    let others = bind_ok (next_many item next n (next s first.0.0) first.0.1) _ xs first.2 in
    let rest = many_keeps item next test each n (next s first.0.0) first.0.1 others.0 others.1 in
    let e : xs.0 ≡ first.0.0 ∷ others.0.0 = cc in
    (rw e (and_from _ _ (each s ls first.0 first.1) rest.0), rw e (ap suc rest.1))

guard_some : {A : Type 0} (b : Bool) (y x : A) → cond b (Some y) None ≡ Some x → (b ≡ true) × (y ≡ x)
guard_some true y x h = (refl, cc)
guard_some false y x h = cc

pub kept : {A : Type 0} (test : A → Bool) (o : Option A) (x : A) → keep_if test o ≡ Some x → test x ≡ true
kept test None x h = cc
kept test (Some y) x h = let g = guard_some (test y) y x h in ap test (sym g.1) ∙ g.0

pub or_ok : {A : Type 0} (o : Option A) (ls : List (List Word)) (x : A) → or_broken ls o ≡ Ok x → o ≡ Some x
or_ok None ls x h = cc
or_ok (Some y) ls x h = cc

pub one_kept : {A : Type 0} (test : A → Bool) (rule : List Word → Option A) (ls : List (List Word)) (x : A × List (List Word))
    → one_line (λ l. keep_if test (rule l)) ls ≡ Ok x → test x.0 ≡ true
one_kept test rule [] x h = cc
one_kept test rule (l ∷ ls) x h =
    let b = bind_ok (or_broken ls (keep_if test (rule l))) (λ y. Ok (y, ls)) x h in
    let e : (b.0, ls) ≡ x = cc in
    ap (λ p. test p.0) (sym e) ∙ kept test (rule l) b.0 (or_ok _ ls b.0 b.1)

inputs_are : (format : ℕ) (s : ℕ × ℕ) (is : List InputValue) → all_along (is_input_in format) next_counts s is ≡ true → are_inputs s.0 s.1 is ≡ true
inputs_are format s [] h = refl
inputs_are format s (i ∷ is) h =
    let a = and_parts (is_input_in format s i) (all_along (is_input_in format) next_counts (next_counts s i) is) h in
    and_from (is_input s.0 s.1 i) _ (and_parts (format == 2 || not (is_some i.after)) (is_input s.0 s.1 i) a.0).1 (inputs_are format (next_counts s i) is a.1)

pub inputs_keep : (format n : ℕ) (ls : List (List Word)) (x : List InputValue × List (List Word)) → next_inputs format n ls ≡ Ok x
    → (are_inputs 0 0 x.0 ≡ true) × (length x.0 ≡ n)
unfolding next_inputs next_input
inputs_keep format n ls x h =
    let k = many_keeps (next_input format) next_counts (is_input_in format) (λ s ls x h. one_kept (is_input_in format s) input_on ls x h) n (0, 0) ls x h in
    (inputs_are format (0, 0) x.0 k.0, k.1)

pub builds_are : (scopes high : ℕ) (bs : List BuildValue) → all_along (is_build scopes) (λ high b. b.number) high bs ≡ are_builds_below scopes high bs
builds_are scopes high [] = refl
builds_are scopes high (b ∷ bs) = ap (λ t. is_build scopes high b && t) (builds_are scopes b.number bs)

pub builds_keep : (scopes n : ℕ) (ls : List (List Word)) (x : List BuildValue × List (List Word)) → next_builds scopes n ls ≡ Ok x
    → (are_builds_below scopes 1000001 x.0 ≡ true) × (length x.0 ≡ n)
unfolding next_builds next_build
builds_keep scopes n ls x h =
    let k = many_keeps (next_build scopes) (λ high b. b.number) (is_build scopes) (λ high ls x h. one_kept (is_build scopes high) build_on ls x h) n 1000001 ls x h in
    (sym (builds_are scopes 1000001 x.0) ∙ k.0, k.1)

job_keeps : (scopes : ℕ) (ls : List (List Word)) (x : List BuildValue × List (List Word)) → next_job scopes ls ≡ Ok x → are_builds scopes x.0 ≡ true
unfolding next_job
job_keeps scopes ls x h =
    let b = bind_ok (one_line build_count ls) (λ count. next_builds scopes count.0 count.1) x h in
    let small : nat_le b.0.0 1000000 ≡ true = one_kept (λ n. nat_le n 1000000) builds_number ls b.0 b.1 in
    let k = builds_keep scopes b.0.0 b.0.1 x b.2 in
    and_from _ _ (ap (λ n. nat_le n 1000000) k.1 ∙ small) k.0

pub jobs_are : (scopes : ℕ) (js : List (List BuildValue)) → all_along are_builds (λ s builds. s) scopes js ≡ list_all (are_builds scopes) js
jobs_are scopes [] = refl
jobs_are scopes (j ∷ js) = ap (λ t. are_builds scopes j && t) (jobs_are scopes js)

pub jobs_keep : (scopes n : ℕ) (ls : List (List Word)) (x : List (List BuildValue) × List (List Word)) → next_jobs scopes n ls ≡ Ok x
    → (list_all (are_builds scopes) x.0 ≡ true) × (length x.0 ≡ n)
unfolding next_jobs
jobs_keep scopes n ls x h =
    let k = many_keeps next_job (λ s builds. s) are_builds job_keeps n scopes ls x h in
    (sym (jobs_are scopes x.0) ∙ k.0, k.1)

pub problem_keeps : (format inputs jobs : ℕ) (a b : List (List Word)) (is : List InputValue) (rest : List (List Word)) (js : List (List BuildValue)) (after : List (List Word))
    → inputs ≤ 32 → next_inputs format inputs a ≡ Ok (is, rest) → jobs ≡ jobs_after 0 is → next_jobs (scopes_after 0 is) jobs b ≡ Ok (js, after)
    → IsTrue (is_problem (record { inputs = is; jobs = js }))
problem_keeps format inputs jobs a b is rest js after few i mentioned j =
    let front = inputs_keep format inputs a (is, rest) i in
    let back = jobs_keep (scopes_after 0 is) jobs b (js, after) j in
    and_from _ _ (le-leb _ _ (omega (arith, front.1, few))) (and_from _ _ front.0 (and_from _ _ (eq-eqb _ _ (back.1 ∙ mentioned)) back.0))

-- the parts of a problem that are read one after the other
pub problem_read : (ls r1 r2 r3 r4 r5 : List (List Word)) (k n m scopes jobs : ℕ) (written : Bool) (is : List InputValue) (js : List (List BuildValue)) (p : ProblemValue)
    → one_line problem_head ls ≡ Ok (k, r1) → one_line input_count r1 ≡ Ok (n, r2) → next_inputs k n r2 ≡ Ok (is, r3)
    → scopes ≡ scopes_after 0 is → jobs ≡ jobs_after 0 is → written ≡ (k == format_of is)
    → one_line (job_count written jobs) r3 ≡ Ok (m, r4) → next_jobs scopes m r4 ≡ Ok (js, r5) → p ≡ record { inputs = is; jobs = js }
    → next_problem ls ≡ Ok (p, r5)
unfolding next_problem
problem_read ls r1 r2 r3 r4 r5 k n m scopes jobs written is js p head count inputs s j told job builds e =
    let job' = rw (told, j) at job in
    let builds' = rw s at builds in
    rw e (rw head (rw count (rw inputs (rw job' (rw builds' refl)))))
