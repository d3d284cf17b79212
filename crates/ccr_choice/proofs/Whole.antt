-- A problem's lines, both ways.
use Rattle.std.proofs.Common.{◌≡◌, ℕ, zero, suc, ◌≤◌, List, [], ◌∷◌, ◌++◌, length, map, Bool, true, false, cond, not, ◌&&◌, ◌||◌, ◌==◌, ◌≢◌, inl, inr, arith, nat_le, Option, Some, None, option_and_then, Result, Ok, ap, ◌∙◌, refl, sym, append_assoc}
use Rattle.std.specs.Prelude.{is_some}
use Rattle.std.specs.List.{flat_map, list_all, list_any}
use Rattle.std.proofs.lemmas.Bool.{and_parts, and_from, or_left, or_right, eqb-true, eq-eqb, leb-true, cases_eq, cases_Bool, cond-true, cond-false}
use Rattle.std.proofs.lemmas.List.Concat.{flat_map_single}
use Rattle.ccr_choice.specs.declared.word.Word.{Word}
use Rattle.ccr_choice.specs.declared.word.Word.TheVariants.{Number, Problem, Inputs, Jobs, Builds, Pairs}
use Rattle.ccr_choice.specs.Problem.{InputValue, BuildValue, ProblemValue, is_input, is_build, are_builds, are_builds_below, are_inputs, jobs_after, scopes_after, is_problem}
use Rattle.ccr_choice.specs.Reading.{◌>>=◌, keep_if, or_broken, one_line, next_many}
use Rattle.ccr_choice.specs.ProblemText.{format_of, is_input_in, next_counts, pair_words, input_line, build_line, job_lines, problem_lines, pairs_on, input_on, build_on, next_input, next_build, next_inputs, next_builds, next_job, next_jobs, next_problem, problem_head, input_count, job_count, build_count, problem_number, inputs_number, jobs_number, builds_number}
use Rattle.ccr_choice.proofs.Keeps.{bind_ok, all_along, or_ok, one_kept, builds_keep, inputs_keep, jobs_keep, builds_are, jobs_are, problem_keeps, problem_read}
use Rattle.ccr_choice.proofs.Found.{input_again, input_found}

pub pairs_again : (ps : List (ℕ × ℕ)) → pairs_on (pair_words ps) ≡ Some ps
pairs_again [] = refl
pairs_again (p ∷ ps) = ap (option_and_then (λ qs. Some (p ∷ qs))) (pairs_again ps)

then_some : {A B : Type 0} (o : Option A) (f : A → B) (y : B) → option_and_then (λ x. Some (f x)) o ≡ Some y → (x : A) × (o ≡ Some x) × (f x ≡ y)
then_some None f y h = cc
then_some (Some x) f y h = (x, refl, cc)

pub pairs_found : (ws : List Word) (ps : List (ℕ × ℕ)) → pairs_on ws ≡ Some ps → ws ≡ pair_words ps
pairs_found [] ps h = let e : [] ≡ ps = cc in ap pair_words e
pairs_found (Number scope ∷ Number place ∷ ws) ps h =
    let t = then_some (pairs_on ws) (λ qs. (scope, place) ∷ qs) ps h in
    ap (λ vs. Number scope ∷ Number place ∷ vs) (pairs_found ws t.0 t.1) ∙ ap pair_words t.2
pairs_found (w ∷ ws) ps h = cc

pub build_again : (b : BuildValue) → build_on (build_line b) ≡ Some b
unfolding build_on
build_again b = ap (option_and_then (λ ps. Some (record { number = b.number; pairs = ps }))) (pairs_again b.pairs)

pub build_found : (ws : List Word) (b : BuildValue) → build_on ws ≡ Some b → ws ≡ build_line b
unfolding build_on
build_found (Number n ∷ Pairs ∷ ws) b h =
    let make : List (ℕ × ℕ) → BuildValue = λ ps. record { number = n; pairs = ps } in
    let t = then_some (pairs_on ws) make b h in
    ap (λ vs. Number n ∷ Pairs ∷ vs) (pairs_found ws t.0 t.1) ∙ ap build_line t.2
build_found [] b h = cc
build_found (w ∷ ws) b h = cc

-- ---- one line, and many things
one_again : {A : Type 0} (test : A → Bool) (rule : List Word → Option A) (l : List Word) (x : A) (rest : List (List Word))
    → rule l ≡ Some x → test x ≡ true → one_line (λ l. keep_if test (rule l)) (l ∷ rest) ≡ Ok (x, rest)
one_again test rule l x rest h t =
    ap (λ o. or_broken rest (keep_if test o) >>= λ y. Ok (y, rest)) h ∙ ap (λ b. or_broken rest (cond b (Some x) None) >>= λ y. Ok (y, rest)) t

keep_some : {A : Type 0} (test : A → Bool) (o : Option A) (x : A) → keep_if test o ≡ Some x → o ≡ Some x
keep_some test None x h = cc
keep_some test (Some y) x h = pick (test y) h
  where
    pick : (b : Bool) → cond b (Some y) None ≡ Some x → Some y ≡ Some x
    pick true e = e
    pick false e = cc

one_found : {A : Type 0} (test : A → Bool) (rule : List Word → Option A) (line : A → List Word) → ((l : List Word) (x : A) → rule l ≡ Some x → l ≡ line x)
    → (ls : List (List Word)) (x : A × List (List Word)) → one_line (λ l. keep_if test (rule l)) ls ≡ Ok x → ls ≡ line x.0 ∷ x.1
one_found test rule line found [] x h = cc
one_found test rule line found (l ∷ ls) x h =
    let b = bind_ok (or_broken ls (keep_if test (rule l))) (λ y. Ok (y, ls)) x h in
    let e : (b.0, ls) ≡ x = cc in
    ap (λ v. v ∷ ls) (found l b.0 (keep_some test (rule l) b.0 (or_ok _ ls b.0 b.1))) ∙ ap (λ p. line p.0 ∷ p.1) e

many_again : {S A : Type 0} (item : S → List (List Word) → Result (A × List (List Word)) ℕ) (next : S → A → S) (test : S → A → Bool) (lines : A → List (List Word))
    → ((s : S) (x : A) (rest : List (List Word)) → test s x ≡ true → item s (lines x ++ rest) ≡ Ok (x, rest))
    → (s : S) (xs : List A) (rest : List (List Word)) → all_along test next s xs ≡ true → next_many item next (length xs) s (flat_map lines xs ++ rest) ≡ Ok (xs, rest)
many_again item next test lines each s [] rest h = refl
many_again item next test lines each s (x ∷ xs) rest h =
    let p = and_parts (test s x) (all_along test next (next s x) xs) h in
    ap (λ ls. next_many item next (suc (length xs)) s ls) (append_assoc (lines x) (flat_map lines xs) rest)
    ∙ ap (λ r. r >>= λ y. next_many item next (length xs) (next s y.0) y.1 >>= λ more. Ok (y.0 ∷ more.0, more.1)) (each s x (flat_map lines xs ++ rest) p.0)
    ∙ ap (λ r. r >>= λ more. Ok (x ∷ more.0, more.1)) (many_again item next test lines each (next s x) xs rest p.1)

many_found : {S A : Type 0} (item : S → List (List Word) → Result (A × List (List Word)) ℕ) (next : S → A → S) (lines : A → List (List Word))
    → ((s : S) (ls : List (List Word)) (x : A × List (List Word)) → item s ls ≡ Ok x → ls ≡ lines x.0 ++ x.1)
    → (n : ℕ) (s : S) (ls : List (List Word)) (xs : List A × List (List Word)) → next_many item next n s ls ≡ Ok xs → ls ≡ flat_map lines xs.0 ++ xs.1
many_found item next lines each zero s ls xs h = let e : ([], ls) ≡ xs = cc in ap (λ p. flat_map lines p.0 ++ p.1) e
many_found item next lines each (suc n) s ls xs h =
    let first = bind_ok (item s ls) (λ x. next_many item next n (next s x.0) x.1 >>= λ more. Ok (x.0 ∷ more.0, more.1)) xs h in
    let others = bind_ok (next_many item next n (next s first.0.0) first.0.1) (λ more. Ok (first.0.0 ∷ more.0, more.1)) xs first.2 in
    let e : (first.0.0 ∷ others.0.0, others.0.1) ≡ xs = cc in
    each s ls first.0 first.1
    ∙ ap (λ r. lines first.0.0 ++ r) (many_found item next lines each n (next s first.0.0) first.0.1 others.0 others.1)
    ∙ sym (append_assoc (lines first.0.0) (flat_map lines others.0.0) others.0.1)
    ∙ ap (λ p. flat_map lines p.0 ++ p.1) e

-- ---- the parts of a problem
-- inputs keep the rules of their own format
inputs_in : (format : ℕ) (s : ℕ × ℕ) (is : List InputValue) → (format ≡ 1 → list_any (λ i. is_some i.after) is ≡ false) → (format ≢ 1 → format ≡ 2)
    → are_inputs s.0 s.1 is ≡ true → all_along (is_input_in format) next_counts s is ≡ true
inputs_in format s [] plain other h = refl
inputs_in format s (i ∷ is) plain other h =
    let a = and_parts (is_input s.0 s.1 i) (are_inputs (next_counts s i).0 (next_counts s i).1 is) h in
    let none : format ≡ 1 → (is_some i.after ≡ false) × (list_any (λ i. is_some i.after) is ≡ false) = λ e. or_none (is_some i.after) _ (plain e) in
    and_from _ _ (and_from _ _ (elim (cases_eq format 1) [
      | inl e ↦ or_right (format == 2) (not (is_some i.after)) (ap not (none e).0)
      | inr e ↦ or_left (format == 2) (not (is_some i.after)) (eq-eqb format 2 (other e))
    ]) a.0) (inputs_in format (next_counts s i) is (λ e. (none e).1) other a.1)
  where
    or_none : (a b : Bool) → (a || b) ≡ false → (a ≡ false) × (b ≡ false)
    or_none true b h = absurd (cc (h))
    or_none false b h = (refl, h)

formatted : (is : List InputValue) → are_inputs 0 0 is ≡ true → all_along (is_input_in (format_of is)) next_counts (0, 0) is ≡ true
formatted is h =
    elim (cases_Bool (list_any (λ i. is_some i.after) is)) [
      | inl e ↦ (let two : format_of is ≡ 2 = cond-true _ 2 1 e in inputs_in (format_of is) (0, 0) is (λ one. absurd (omega (arith, one, two))) (λ ne. two) h)
      | inr e ↦ (let one : format_of is ≡ 1 = cond-false _ 2 1 e in inputs_in (format_of is) (0, 0) is (λ same. e) (λ ne. absurd (ne one)) h)
    ]

known_format : (is : List InputValue) → (format_of is == 1 || format_of is == 2) ≡ true
known_format is = pick (list_any (λ i. is_some i.after) is)
  where
    pick : (b : Bool) → (cond b 2 1 == 1 || cond b 2 1 == 2) ≡ true
    pick true = refl
    pick false = refl

pub inputs_again : (is : List InputValue) (rest : List (List Word)) → are_inputs 0 0 is ≡ true
    → next_inputs (format_of is) (length is) (map input_line is ++ rest) ≡ Ok (is, rest)
unfolding next_inputs next_input
inputs_again is rest h =
    let format : ℕ = format_of is in
    ap (λ ls. next_many (next_input format) next_counts (length is) (0, 0) (ls ++ rest)) (sym (flat_map_single input_line is))
    ∙ many_again (next_input format) next_counts (is_input_in format) (λ i. input_line i ∷ [])
    (λ s x rest t. one_again (is_input_in format s) input_on (input_line x) x rest (input_again x) t) (0, 0) is rest (formatted is h)

pub builds_again : (scopes : ℕ) (bs : List BuildValue) (rest : List (List Word)) → are_builds_below scopes 1000001 bs ≡ true → next_builds scopes (length bs) (map build_line bs ++ rest) ≡ Ok (bs, rest)
unfolding next_builds next_build
builds_again scopes bs rest h =
    ap (λ ls. next_many (next_build scopes) (λ high b. b.number) (length bs) 1000001 (ls ++ rest)) (sym (flat_map_single build_line bs))
    ∙ many_again (next_build scopes) (λ high b. b.number) (is_build scopes) (λ b. build_line b ∷ [])
    (λ s x rest t. one_again (is_build scopes s) build_on (build_line x) x rest (build_again x) t) 1000001 bs rest (builds_are scopes 1000001 bs ∙ h)

pub job_again : (scopes : ℕ) (bs : List BuildValue) (rest : List (List Word)) → are_builds scopes bs ≡ true → next_job scopes (job_lines bs ++ rest) ≡ Ok (bs, rest)
unfolding next_job
job_again scopes bs rest h =
    let p = and_parts (nat_le (length bs) 1000000) (are_builds_below scopes 1000001 bs) h in
    ap (λ r. r >>= λ count. next_builds scopes count.0 count.1)
    (one_again (λ n. nat_le n 1000000) builds_number (Builds ∷ Number (length bs) ∷ []) (length bs) (map build_line bs ++ rest) refl p.0)
    ∙ builds_again scopes bs rest p.1

pub jobs_again : (scopes : ℕ) (js : List (List BuildValue)) (rest : List (List Word)) → list_all (are_builds scopes) js ≡ true → next_jobs scopes (length js) (flat_map job_lines js ++ rest) ≡ Ok (js, rest)
unfolding next_jobs
jobs_again scopes js rest h = many_again next_job (λ s builds. s) are_builds job_lines job_again scopes js rest (jobs_are scopes js ∙ h)

pub problem_again : (p : ProblemValue) (rest : List (List Word)) → is_problem p ≡ true → next_problem (problem_lines p ++ rest) ≡ Ok (p, rest)
problem_again p rest h =
    let a = and_parts (nat_le (length p.inputs) 32) _ h in
    let b = and_parts (are_inputs 0 0 p.inputs) _ a.1 in
    let c = and_parts (length p.jobs == jobs_after 0 p.inputs) (list_all (are_builds (scopes_after 0 p.inputs)) p.jobs) b.1 in
    let back = flat_map job_lines p.jobs in
    let line : List Word = Jobs ∷ Number (length p.jobs) ∷ [] in
    let format : ℕ = format_of p.inputs in
    let written : Bool = format == format in
    let same : written ≡ true = eq-eqb format format refl in
    let front : List (List Word) = map input_line p.inputs ++ (line ∷ back) ++ rest in
    problem_read (problem_lines p ++ rest) ((Inputs ∷ Number (length p.inputs) ∷ []) ∷ front) front (line ∷ (back ++ rest)) (back ++ rest) rest format (length p.inputs) (length p.jobs) _ _ written p.inputs p.jobs p
    (one_again (λ n. n == 1 || n == 2) problem_number (Problem ∷ Number format ∷ []) format _ refl (known_format p.inputs))
    (one_again (λ n. nat_le n 32) inputs_number (Inputs ∷ Number (length p.inputs) ∷ []) (length p.inputs) _ refl a.0)
    (ap (next_inputs format (length p.inputs)) (append_assoc (map input_line p.inputs) (line ∷ back) rest) ∙ inputs_again p.inputs (line ∷ (back ++ rest)) b.0)
    refl refl refl
    (one_again (λ n. written && n == jobs_after 0 p.inputs) jobs_number line (length p.jobs) (back ++ rest) refl (and_from _ _ same c.0))
    (jobs_again (scopes_after 0 p.inputs) p.jobs rest c.1)
    refl

ok_same : {A E : Type 0} (x y : A) → ◌≡◌ {A = Result A E} (Ok x) (Ok y) → x ≡ y
ok_same x y h = cc

problem_line : (l : List Word) (n : ℕ) → problem_number l ≡ Some n → l ≡ Problem ∷ Number n ∷ []
problem_line (Problem ∷ Number m ∷ []) n h = let e : m ≡ n = cc in ap (λ k. Problem ∷ Number k ∷ []) e
problem_line [] n h = cc
problem_line (w ∷ ws) n h = cc

inputs_line : (l : List Word) (n : ℕ) → inputs_number l ≡ Some n → l ≡ Inputs ∷ Number n ∷ []
inputs_line (Inputs ∷ Number m ∷ []) n h = let e : m ≡ n = cc in ap (λ k. Inputs ∷ Number k ∷ []) e
inputs_line [] n h = cc
inputs_line (w ∷ ws) n h = cc

jobs_line : (l : List Word) (n : ℕ) → jobs_number l ≡ Some n → l ≡ Jobs ∷ Number n ∷ []
jobs_line (Jobs ∷ Number m ∷ []) n h = let e : m ≡ n = cc in ap (λ k. Jobs ∷ Number k ∷ []) e
jobs_line [] n h = cc
jobs_line (w ∷ ws) n h = cc

builds_line : (l : List Word) (n : ℕ) → builds_number l ≡ Some n → l ≡ Builds ∷ Number n ∷ []
builds_line (Builds ∷ Number m ∷ []) n h = let e : m ≡ n = cc in ap (λ k. Builds ∷ Number k ∷ []) e
builds_line [] n h = cc
builds_line (w ∷ ws) n h = cc

inputs_found : (format n : ℕ) (ls : List (List Word)) (x : List InputValue × List (List Word)) → next_inputs format n ls ≡ Ok x → ls ≡ map input_line x.0 ++ x.1
unfolding next_inputs next_input
inputs_found format n ls x h =
    many_found (next_input format) next_counts (λ i. input_line i ∷ []) (λ s ls y k. one_found (is_input_in format s) input_on input_line input_found ls y k) n (0, 0) ls x h
    ∙ ap (λ vs. vs ++ x.1) (flat_map_single input_line x.0)

builds_found : (scopes n : ℕ) (ls : List (List Word)) (x : List BuildValue × List (List Word)) → next_builds scopes n ls ≡ Ok x → ls ≡ map build_line x.0 ++ x.1
unfolding next_builds next_build
builds_found scopes n ls x h =
    many_found (next_build scopes) (λ high b. b.number) (λ b. build_line b ∷ []) (λ s ls y k. one_found (is_build scopes s) build_on build_line build_found ls y k) n 1000001 ls x h
    ∙ ap (λ vs. vs ++ x.1) (flat_map_single build_line x.0)

job_found : (scopes : ℕ) (ls : List (List Word)) (x : List BuildValue × List (List Word)) → next_job scopes ls ≡ Ok x → ls ≡ job_lines x.0 ++ x.1
unfolding next_job
job_found scopes ls x h =
    let b = bind_ok (one_line build_count ls) (λ count. next_builds scopes count.0 count.1) x h in
    one_found (λ n. nat_le n 1000000) builds_number (λ n. Builds ∷ Number n ∷ []) builds_line ls b.0 b.1
    ∙ ap (λ n. (Builds ∷ Number n ∷ []) ∷ b.0.1) (sym (builds_keep scopes b.0.0 b.0.1 x b.2).1)
    ∙ ap (λ vs. (Builds ∷ Number (length x.0) ∷ []) ∷ vs) (builds_found scopes b.0.0 b.0.1 x b.2)

jobs_found : (scopes n : ℕ) (ls : List (List Word)) (x : List (List BuildValue) × List (List Word)) → next_jobs scopes n ls ≡ Ok x → ls ≡ flat_map job_lines x.0 ++ x.1
unfolding next_jobs
jobs_found scopes n ls x h = many_found next_job (λ s builds. s) job_lines job_found n scopes ls x h

pub problem_found : (ls : List (List Word)) (x : ProblemValue × List (List Word)) → next_problem ls ≡ Ok x → ls ≡ problem_lines x.0 ++ x.1
unfolding next_problem
problem_found ls x h =
    let b1 = bind_ok (one_line problem_head ls) _ x h in
    let b2 = bind_ok (one_line input_count b1.0.1) _ x b1.2 in
    let b3 = bind_ok (next_inputs b1.0.0 b2.0.0 b2.0.1) _ x b2.2 in
    let written : Bool = b1.0.0 == format_of b3.0.0 in
    let jobs : ℕ = jobs_after 0 b3.0.0 in
    let b4 = bind_ok (one_line (job_count written jobs) b3.0.1) _ x b3.2 in
    let b5 = bind_ok (next_jobs (scopes_after 0 b3.0.0) b4.0.0 b4.0.1) _ x b4.2 in
    let told = and_parts written (b4.0.0 == jobs) (one_kept (λ n. written && n == jobs) jobs_number b3.0.1 b4.0 b4.1) in
    let made : (record { inputs = b3.0.0; jobs = b5.0.0 }, b5.0.1) ≡ x = ok_same _ x b5.2 in
    one_found (λ n. n == 1 || n == 2) problem_number (λ n. Problem ∷ Number n ∷ []) problem_line ls b1.0 b1.1
    ∙ ap (λ n. (Problem ∷ Number n ∷ []) ∷ b1.0.1) (eqb-true _ _ told.0)
    ∙ ap (λ r. (Problem ∷ Number (format_of b3.0.0) ∷ []) ∷ r)
    (one_found (λ n. nat_le n 32) inputs_number (λ n. Inputs ∷ Number n ∷ []) inputs_line b1.0.1 b2.0 b2.1
    ∙ ap (λ n. (Inputs ∷ Number n ∷ []) ∷ b2.0.1) (sym (inputs_keep b1.0.0 b2.0.0 b2.0.1 b3.0 b3.1).1)
    ∙ ap (λ r. (Inputs ∷ Number (length b3.0.0) ∷ []) ∷ r)
    (inputs_found b1.0.0 b2.0.0 b2.0.1 b3.0 b3.1
    ∙ ap (λ r. map input_line b3.0.0 ++ r)
    (one_found (λ n. written && n == jobs) jobs_number (λ n. Jobs ∷ Number n ∷ []) jobs_line b3.0.1 b4.0 b4.1
    ∙ ap (λ n. (Jobs ∷ Number n ∷ []) ∷ b4.0.1) (sym (jobs_keep (scopes_after 0 b3.0.0) b4.0.0 b4.0.1 b5.0 b5.1).1)
    ∙ ap (λ r. (Jobs ∷ Number (length b5.0.0) ∷ []) ∷ r) (jobs_found (scopes_after 0 b3.0.0) b4.0.0 b4.0.1 b5.0 b5.1))
    ∙ sym (append_assoc (map input_line b3.0.0) ((Jobs ∷ Number (length b5.0.0) ∷ []) ∷ flat_map job_lines b5.0.0) b5.0.1)))
    ∙ ap (λ q. problem_lines q.0 ++ q.1) made

-- what is read keeps the rules
pub problem_kept : (ls : List (List Word)) (x : ProblemValue × List (List Word)) → next_problem ls ≡ Ok x → is_problem x.0 ≡ true
unfolding next_problem
problem_kept ls x h =
    let b1 = bind_ok (one_line problem_head ls) _ x h in
    let b2 = bind_ok (one_line input_count b1.0.1) _ x b1.2 in
    let b3 = bind_ok (next_inputs b1.0.0 b2.0.0 b2.0.1) _ x b2.2 in
    let written : Bool = b1.0.0 == format_of b3.0.0 in
    let jobs : ℕ = jobs_after 0 b3.0.0 in
    let b4 = bind_ok (one_line (job_count written jobs) b3.0.1) _ x b3.2 in
    let b5 = bind_ok (next_jobs (scopes_after 0 b3.0.0) b4.0.0 b4.0.1) _ x b4.2 in
    let few : b2.0.0 ≤ 32 = leb-true _ _ (one_kept (λ n. nat_le n 32) inputs_number b1.0.1 b2.0 b2.1) in
    let told = and_parts written (b4.0.0 == jobs) (one_kept (λ n. written && n == jobs) jobs_number b3.0.1 b4.0 b4.1) in
    let made : (record { inputs = b3.0.0; jobs = b5.0.0 }, b5.0.1) ≡ x = ok_same _ x b5.2 in
    ap (λ y. is_problem y.0) (sym made) ∙ problem_keeps b1.0.0 b2.0.0 b4.0.0 b2.0.1 b4.0.1 b3.0.0 b3.0.1 b5.0.0 b5.0.1 few b3.1 (eqb-true _ _ told.1) b5.1
