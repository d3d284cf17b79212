-- The laws of a problem's text: what is read is written so, what is written so is read, and no text begins another.
use Rattle.std.proofs.Common.{◌≡◌, ℕ, ◌+◌, ◌^◌, ◌<◌, ◌≤◌, List, [], ◌∷◌, ◌++◌, length, map, Bool, true, false, cond, Option, Some, None, Result, Ok, Err, IfOk, ap, ◌∙◌, refl, sym, arith}
use Rattle.std.specs.Prelude.{is_some}
use Rattle.std.specs.List.{flat_map, list_all, list_any, AllByRecursion}
use Rattle.std.proofs.lemmas.Bool.{and_parts, ltb-true, leb-true}
use Rattle.ccr_choice.specs.declared.word.Word.{Word}
use Rattle.ccr_choice.specs.declared.fault.ProblemFault.{ProblemFault}
use Rattle.ccr_choice.specs.declared.fault.ProblemFault.TheVariants.{BadLine, Trailing, NoMemory}
use Rattle.ccr_choice.specs.Problem.{InputValue, BuildValue, ProblemValue, IsProblem, is_problem, is_after, is_input, are_inputs, are_builds, are_builds_below, are_numbered, are_places_after, are_pairs_after, next_used, used_after, scopes_after}
use Rattle.ccr_choice.specs.Text.{IsWord, lines_of}
use Rattle.ccr_choice.specs.Reading.{Refusal, bad_line, trailing, whole, number_words}
use Rattle.ccr_choice.specs.ProblemText.{format_of, after_words, pair_words, input_line, build_line, job_lines, problem_lines, problem_text, next_problem, problem_in, IsRead, IsReadAs, NothingFollows}
use Rattle.ccr_choice.proofs.Texts.{IsLine}
use Rattle.ccr_choice.proofs.Formats.{IsFormat, text_read, text_found, text_again, text_alone}
use Rattle.ccr_choice.proofs.Bounds.{rules_of, next_used-more}
use Rattle.ccr_choice.proofs.Whole.{problem_found, problem_again, problem_kept}

-- ---- each line of a problem has a spelling
abbrev AreSmall : List ℕ → Type 0
AreSmall ns = AllByRecursion (λ n. n < 2 ^ 32) ns

spelled_numbers : (ns : List ℕ) (ws : List Word) → AreSmall ns → AllByRecursion IsWord ws → AllByRecursion IsWord (number_words ns ++ ws)
spelled_numbers [] ws h k = k
spelled_numbers (n ∷ ns) ws h k = (h.0, spelled_numbers ns ws h.1 k)

spelled_last : (ns : List ℕ) → AreSmall ns → AllByRecursion IsWord (number_words ns)
spelled_last [] h = tt
spelled_last (n ∷ ns) h = (h.0, spelled_last ns h.1)

small_jobs : (used : ℕ) (ns : List ℕ) → are_numbered used ns ≡ true → AreSmall ns
small_jobs used [] h = tt
small_jobs used (n ∷ ns) h =
    let a = and_parts _ _ h in
    let b = and_parts _ _ a.1 in
    let few : n < 32 = ltb-true _ _ b.0 in
    (omega (arith, few), small_jobs (next_used used n) ns b.1)

small_places : (low : ℕ) (ns : List ℕ) → are_places_after low ns ≡ true → AreSmall ns
small_places low [] h = tt
small_places low (n ∷ ns) h =
    let a = and_parts _ _ h in
    let b = and_parts _ _ a.1 in
    let few : n ≤ 100000 = leb-true _ _ b.0 in
    (omega (arith, few), small_places n ns b.1)

after_spelled : (after : Option ℕ) (ws : List Word) → is_after after ≡ true → AllByRecursion IsWord ws → AllByRecursion IsWord (after_words after ++ ws)
after_spelled None ws h k = k
after_spelled (Some u) ws h k = let few : u ≤ 100000 = leb-true _ _ (and_parts _ _ h).1 in (tt, (omega (arith, few), k))

input_spelled : (scopes jobs : ℕ) (i : InputValue) → scopes ≤ 64 → is_input scopes jobs i ≡ true → IsLine (input_line i)
input_spelled scopes jobs i few h =
    let a = and_parts _ _ h in
    let b = and_parts _ _ a.1 in
    let c = and_parts _ _ b.1 in
    let d = and_parts _ _ c.1 in
    let low : i.scope ≤ scopes = leb-true _ _ a.0 in
    let places = spelled_last i.places (small_places 0 i.places d.1) in
    (omega arith, (omega (arith, low, few), (tt, spelled_numbers i.jobs _ (small_jobs jobs i.jobs c.0) (after_spelled i.after _ d.0 (tt, places)))))

inputs_spelled : (scopes jobs : ℕ) (is : List InputValue) (ls : List (List Word)) → scopes + length is ≤ 64 → are_inputs scopes jobs is ≡ true
    → AllByRecursion IsLine ls → AllByRecursion IsLine (map input_line is ++ ls)
inputs_spelled scopes jobs [] ls few h k = k
inputs_spelled scopes jobs (i ∷ is) ls few h k =
    let a = and_parts _ _ h in (
      input_spelled scopes jobs i (omega arith) a.0,
      inputs_spelled (next_used scopes i.scope) (used_after jobs i.jobs) is ls (omega (arith, next_used-more scopes i.scope)) a.1 k,
    )

pairs_spelled : (scopes scope place : ℕ) (ps : List (ℕ × ℕ)) → scopes ≤ 64 → are_pairs_after scopes scope place ps ≡ true → AllByRecursion IsWord (pair_words ps)
pairs_spelled scopes scope place [] few h = tt
pairs_spelled scopes scope place (p ∷ ps) few h =
    let a = and_parts _ _ h in
    let b = and_parts _ _ a.1 in
    let c = and_parts _ _ b.1 in
    let d = and_parts _ _ c.1 in
    let low : p.0 < scopes = ltb-true _ _ b.0 in
    let least : p.1 ≤ 100000 = leb-true _ _ d.0 in
    (omega (arith, low, few), (omega (arith, least), pairs_spelled scopes p.0 p.1 ps few d.1))

builds_spelled : (scopes high : ℕ) (bs : List BuildValue) (ls : List (List Word)) → scopes ≤ 64 → high ≤ 1000001 → are_builds_below scopes high bs ≡ true
    → AllByRecursion IsLine ls → AllByRecursion IsLine (map build_line bs ++ ls)
builds_spelled scopes high [] ls few small h k = k
builds_spelled scopes high (b ∷ bs) ls few small h k =
    let a = and_parts _ _ h in
    let c = and_parts _ _ a.0 in
    let d = and_parts _ _ c.1 in
    let low : b.number < high = ltb-true _ _ d.0 in (
      (omega arith, (omega (arith, low, small), (tt, pairs_spelled scopes 0 0 b.pairs few d.1))),
      builds_spelled scopes b.number bs ls few (omega (arith, low, small)) a.1 k,
    )

jobs_spelled : (scopes : ℕ) (js : List (List BuildValue)) → scopes ≤ 64 → list_all (are_builds scopes) js ≡ true → AllByRecursion IsLine (flat_map job_lines js)
jobs_spelled scopes [] few h = tt
jobs_spelled scopes (j ∷ js) few h =
    let a = and_parts _ _ h in
    let b = and_parts _ _ a.0 in
    let small : length j ≤ 1000000 = leb-true _ _ b.0 in
    ((omega arith, (tt, (omega (arith, small), tt))), builds_spelled scopes 1000001 j (flat_map job_lines js) few (omega arith) b.1 (jobs_spelled scopes js few a.1))

small_format : (is : List InputValue) → format_of is < 2 ^ 32
small_format is = pick (list_any (λ i. is_some i.after) is)
  where
    pick : (b : Bool) → cond b 2 1 < 2 ^ 32
    pick true = omega arith
    pick false = omega arith

pub problem_spelled : (p : ProblemValue) → is_problem p ≡ true → AllByRecursion IsLine (problem_lines p)
problem_spelled p h =
    let r = rules_of p h in (
      (omega arith, (tt, (small_format p.inputs, tt))),
      (
        (omega arith, (tt, (omega (arith, r.few_inputs), tt))),
        inputs_spelled 0 0 p.inputs _ (omega (arith, r.few_inputs)) r.inputs
            ((omega arith, (tt, (omega (arith, r.few_jobs), tt))), jobs_spelled (scopes_after 0 p.inputs) p.jobs (omega (arith, r.few_scopes)) r.builds),
      ),
    )

-- ---- both ways
-- a problem's lines are a format
pub problem_lines_format : IsFormat next_problem problem_lines IsProblem
problem_lines_format =
    record { found = problem_found; again = λ p rest rules. problem_again p rest rules; spelled = λ p rules. problem_spelled p rules }

problem_is : (bs : List ℕ) → problem_in bs ≡ whole bad_line trailing (length (lines_of bs)) (next_problem (lines_of bs))
unfolding problem_in
problem_is bs = refl

-- what is read keeps the rules
pub problem_text_kept : (bs : List ℕ) (p : ProblemValue) → problem_in bs ≡ Ok p → is_problem p ≡ true
problem_text_kept bs p h =
    problem_kept (lines_of bs) (p, []) (text_read bad_line trailing (length (lines_of bs)) (next_problem (lines_of bs)) p (sym (problem_is bs) ∙ h))

-- what is read is written so
pub problem_text_found : (bs : List ℕ) (p : ProblemValue) → is_problem p ≡ true → problem_in bs ≡ Ok p → bs ≡ problem_text p
problem_text_found bs p rules h = text_found problem_lines_format bad_line trailing bs p rules (sym (problem_is bs) ∙ h)

-- what is written is read so
pub problem_text_again : (p : ProblemValue) → is_problem p ≡ true → problem_in (problem_text p) ≡ Ok p
problem_text_again p rules = problem_is (problem_text p) ∙ text_again problem_lines_format bad_line trailing p rules

-- no problem's text begins another's
pub nothing_follows : (bs : List ℕ) (p : ProblemValue) → is_problem p ≡ true → bs ≡ problem_text p → NothingFollows bs
nothing_follows bs p rules e q more rules' f = text_alone problem_lines_format bs p q more rules rules' e f

-- a text of a problem is read as it, whatever the reader answers
pub read_as : (result : Result ProblemValue ProblemFault) (bs : List ℕ) (p : ProblemValue) → IsRead result (problem_in bs) → is_problem p ≡ true → bs ≡ problem_text p → IsReadAs result p
read_as result bs p h rules e = answered result (problem_in bs) (ap problem_in e ∙ problem_text_again p rules) h
  where
    answered : (result : Result ProblemValue ProblemFault) (read : Result ProblemValue Refusal) → read ≡ Ok p → IsRead result read → IsReadAs result p
    answered (Ok q) read e h = cc
    answered (Err NoMemory) read e h = refl
    answered (Err (BadLine n)) read e h = cc
    answered (Err Trailing) read e h = cc

-- the text of what was read
pub found_of : (result : Result ProblemValue ProblemFault) (bs : List ℕ) → IsRead result (problem_in bs) → IfOk result IsProblem → IfOk result (λ p. bs ≡ problem_text p)
found_of (Ok p) bs read kept = problem_text_found bs p kept read
found_of (Err e) bs read kept = tt

pub alone_of : (result : Result ProblemValue ProblemFault) (bs : List ℕ) → IsRead result (problem_in bs) → IfOk result IsProblem → IfOk result (λ _. NothingFollows bs)
alone_of (Ok p) bs read kept = nothing_follows bs p kept (problem_text_found bs p kept read)
alone_of (Err e) bs read kept = tt
