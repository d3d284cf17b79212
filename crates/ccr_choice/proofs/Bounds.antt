-- How large the numbers of a problem are.
use Rattle.std.proofs.Common.{◌≡◌, ℕ, zero, suc, ◌+◌, ◌<◌, ◌≤◌, List, [], ◌∷◌, length, slice_index_or, ap, ◌∙◌, true, arith, subst, sym}
use Rattle.std.specs.List.{list_all, AllByRecursion}
use Rattle.std.proofs.lemmas.Bool.{and_parts, ltb-true, leb-true, eqb-true}
use Rattle.ccr_choice.specs.Problem.{InputValue, BuildValue, ProblemValue, is_problem, builds_at, are_inputs, are_builds, are_numbered, next_used, used_after, scopes_after, jobs_after}

-- ---- how many scopes and jobs are mentioned
next_used-few : (used n : ℕ) → n < 32 → used ≤ 32 → next_used used n ≤ 32
next_used-few used n few h = grind arith

pub next_used-more : (used n : ℕ) → next_used used n ≤ used + 1
next_used-more used n = grind arith

used_after-few : (used : ℕ) (ns : List ℕ) → are_numbered used ns ≡ true → used ≤ 32 → used_after used ns ≤ 32
used_after-few used [] h few = few
used_after-few used (n ∷ ns) h few =
    let a = and_parts _ _ h in
    let b = and_parts _ _ a.1 in
    used_after-few (next_used used n) ns b.1 (next_used-few used n (ltb-true _ _ b.0) few)

jobs_after-few : (scopes jobs : ℕ) (is : List InputValue) → are_inputs scopes jobs is ≡ true → jobs ≤ 32 → jobs_after jobs is ≤ 32
jobs_after-few scopes jobs [] h few = few
jobs_after-few scopes jobs (i ∷ is) h few =
    let a = and_parts _ _ h in
    let b = and_parts _ _ a.0 in
    let c = and_parts _ _ b.1 in
    let d = and_parts _ _ c.1 in
    jobs_after-few (next_used scopes i.scope) (used_after jobs i.jobs) is a.1 (used_after-few jobs i.jobs d.0 few)

scopes_after-few : (scopes : ℕ) (is : List InputValue) → scopes_after scopes is ≤ scopes + length is
scopes_after-few scopes [] = omega arith
scopes_after-few scopes (i ∷ is) = omega (arith, scopes_after-few (next_used scopes i.scope) is, next_used-more scopes i.scope)

-- the parts of the rules of a problem
pub record Rules (p : ProblemValue) : Type 0 where
  pub few_inputs : length p.inputs ≤ 32
  pub inputs : are_inputs 0 0 p.inputs ≡ true
  pub counted : length p.jobs ≡ jobs_after 0 p.inputs
  pub few_jobs : length p.jobs ≤ 32
  pub few_scopes : scopes_after 0 p.inputs ≤ 32
  pub builds : list_all (are_builds (scopes_after 0 p.inputs)) p.jobs ≡ true

pub rules_of : (p : ProblemValue) → is_problem p ≡ true → Rules p
rules_of p h =
    let a = and_parts _ _ h in
    let b = and_parts _ _ a.1 in
    let c = and_parts _ _ b.1 in
    let few : length p.inputs ≤ 32 = leb-true _ _ a.0 in
    let counted : length p.jobs ≡ jobs_after 0 p.inputs = eqb-true _ _ c.0 in
    record {
      few_inputs = few;
      inputs = b.0;
      counted = counted;
      few_jobs = omega (arith, counted, jobs_after-few 0 0 p.inputs b.0 (omega arith));
      few_scopes = omega (arith, few, scopes_after-few 0 p.inputs);
      builds = c.1;
    }

-- each job has few builds
pub few_builds : (scopes : ℕ) (js : List (List BuildValue)) → list_all (are_builds scopes) js ≡ true → AllByRecursion (λ bs. length bs ≤ 1000000) js
few_builds scopes [] h = tt
few_builds scopes (j ∷ js) h =
    let a = and_parts _ _ h in
    let b = and_parts _ _ a.0 in
    (leb-true _ _ b.0, few_builds scopes js a.1)

pub builds_few : (p : ProblemValue) (js : List (List BuildValue)) → js ≡ p.jobs → is_problem p ≡ true → AllByRecursion (λ bs. length bs ≤ 1000000) js
builds_few p js e h =
    let P : List (List BuildValue) → Type 0 = λ xs. AllByRecursion (λ bs. length bs ≤ 1000000) xs in
    subst P (sym e) (few_builds (scopes_after 0 p.inputs) p.jobs (rules_of p h).builds)

kept_at : (scopes : ℕ) (js : List (List BuildValue)) (k : ℕ) → k < length js → list_all (are_builds scopes) js ≡ true → are_builds scopes (slice_index_or js k []) ≡ true
kept_at scopes [] k within h = absurd (omega arith)
kept_at scopes (j ∷ js) zero within h = (and_parts _ _ h).0
kept_at scopes (j ∷ js) (suc k) within h = kept_at scopes js k (omega arith) (and_parts _ _ h).1

-- the builds of each job keep the rules
pub builds_kept : (p : ProblemValue) (k : ℕ) (bs : List BuildValue) → is_problem p ≡ true → k < length p.jobs → bs ≡ builds_at p k → are_builds (scopes_after 0 p.inputs) bs ≡ true
builds_kept p k bs h within e = ap (are_builds (scopes_after 0 p.inputs)) e ∙ kept_at (scopes_after 0 p.inputs) p.jobs k within (rules_of p h).builds

pub few_inputs : (is xs : List InputValue) (js : List (List BuildValue)) → is_problem (record { inputs = is; jobs = js }) ≡ true → xs ≡ is → length xs ≤ 32
few_inputs is xs js h e = omega (arith, (rules_of (record { inputs = is; jobs = js }) h).few_inputs, ap length e)

pub few_jobs : (is : List InputValue) (js xs : List (List BuildValue)) → is_problem (record { inputs = is; jobs = js }) ≡ true → xs ≡ js → length xs ≤ 32
few_jobs is js xs h e = omega (arith, (rules_of (record { inputs = is; jobs = js }) h).few_jobs, ap length e)
