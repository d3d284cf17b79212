-- Where no fault is present in a plan, its attempts keep the limits.
use Rattle.std.proofs.Common.{◌≡◌, ℕ, zero, suc, ◌*◌, ◌≤◌, List, [], ◌∷◌, true, false, ◌&&◌, nat_le, refl, Option, Some, None, arith, option_and_then, codes, if◌then◌else◌}
use Rattle.std.proofs.lemmas.Bool.Decides.{nat_tests}
use Rattle.std.specs.List.{AllByRecursion}
use Rattle.std.specs.Option.{IfSome}
use Rattle.serde_json.specs.Data.{Data}
use Rattle.serde_json.specs.Find.{as_number, as_u64}
use Rattle.ccr_pipeline.specs.declared.fault.Rule.{Rule}
use Rattle.ccr_pipeline.specs.declared.fault.Rule.TheVariants as rule
use Rattle.ccr_pipeline.specs.declared.step.When.{When}
use Rattle.ccr_pipeline.specs.Faults.{Path, unless}
use Rattle.ccr_pipeline.specs.Keys.{at_key, or_else, path_below}
use Rattle.ccr_pipeline.specs.Limits.{tries, TriesFit, AllTriesFit}
use Rattle.ccr_pipeline.specs.Places.{tries_below}
use Rattle.ccr_pipeline.specs.Plans.{plan_from}
use Rattle.ccr_pipeline.specs.Steps.{step_tree, with_attempts, action}
use Rattle.ccr_pipeline.specs.StepRules.{closing_faults, no_count, parallel_rest}
use Rattle.ccr_pipeline.specs.Tree.{Tree, trees_of, attempts, hook}
use Rattle.ccr_pipeline.proofs.Joined.{and_first, and_last}
use Rattle.ccr_pipeline.proofs.Kept.{Holds, Leaves, action-kept, hooks-kept, plan-kept}
use Rattle.ccr_pipeline.proofs.Rows.{nil_right, passes}
use Rattle.ccr_pipeline.proofs.Unfaulted.{Unfaulted, Opened, opened, Planned}

-- attempts that keep the limits below this product
pub record Few (t n : ℕ) : Type 0 where
  pub some : nat_le 1 n ≡ true
  pub few : nat_le n 100 ≡ true
  pub all : nat_le (t * n) 10000 ≡ true

few_number : (t : ℕ) (p : Path) (r : Rule) (o : Option ℕ) → or_else o (unless false r p) (λ n. unless (nat_le 1 n && (nat_le n 100 && nat_le (t * n) 10000)) rule.Attempts p) ≡ [] → IfSome o (Few t)
few_number t p r None e = absurd (cc (e))
few_number t p r (Some n) e =
    let all = passes _ rule.Attempts p e in
    let rest = and_last (nat_le 1 n) _ all in
    record { some = and_first _ _ all; few = and_first _ _ rest; all = and_last (nat_le n 100) _ rest }

few_attempts : (t : ℕ) (p : Path) (o : Option Data) → or_else o [] (λ found. or_else (option_and_then as_u64 (as_number found)) (unless false (no_count found) p) (λ n. unless (nat_le 1 n && (nat_le n 100 && nat_le (t * n) 10000)) rule.Attempts p)) ≡ [] → IfSome (option_and_then as_u64 (option_and_then as_number o)) (Few t)
few_attempts t p None e = tt
few_attempts t p (Some found) e = few_number t p (no_count found) (option_and_then as_u64 (as_number found)) e

-- what attempts count
abbrev pub own : Option ℕ → ℕ
own o = or_else o 1 (λ n. if nat_le 1 n && nat_le n 100 then n else 1)

-- those that keep the limits count themselves
pub own-some : (t n : ℕ) → Few t n → own (Some n) ≡ n
own-some t n few = rw (few.some, few.few) refl

-- with them the product is no more than it may be
pub bounded : (t : ℕ) (o : Option ℕ) → t ≤ 10000 → IfSome o (Few t) → t * own o ≤ 10000
bounded t None h few = let one : t * 1 ≡ t = omega arith in rw one h
bounded t (Some n) h few = rw (own-some t n few) (grind (arith, nat_tests, few.all))

-- a step in its attempts, below this product of attempts
abbrev Tried : ℕ → Option ℕ → Tree → Type 0
Tried t o s = TriesFit t s × (tries s ≡ own o)

-- a step without attempts of its own
abbrev Plain : ℕ → Tree → Type 0
Plain t s = TriesFit t s × (tries s ≡ 1)

all_fit : (t : ℕ) (ts : List Tree) → AllByRecursion (TriesFit t) ts → AllTriesFit t (trees_of ts)
all_fit t [] h = tt
all_fit t (s ∷ ts) h = (h.0, all_fit t ts h.1)

holds : (t : ℕ) → Holds (Plain t) (TriesFit t)
holds t = record { order = λ ts h. (all_fit t ts h, refl); parallel = λ ts fast h. (all_fit t ts h, refl); trying = λ s h. (h, refl) }

leaves : (t : ℕ) (d : Data) → Leaves (Plain t) d
leaves t d = record { getting = λ a. (tt, refl); putting = λ a b. (tt, refl); doing = λ a b c. (tt, refl) }

in_attempts : (t : ℕ) (o : Option ℕ) (s : Tree) → IfSome o (Few t) → Plain (t * own o) s → Tried t o (or_else o s (λ n. attempts n s))
in_attempts t None s few h = let one : t * 1 ≡ t = omega arith in (rw one at h.0, h.1)
in_attempts t (Some n) s few h =
    let is : own (Some n) ≡ n = own-some t n few in
    let below : TriesFit (t * n) s = rw is at h.0 in
    let one : n * 1 ≡ n = omega arith in
    (((grind (arith, nat_tests, few.some), grind (arith, nat_tests, few.few)), (grind (arith, nat_tests, few.all), below)), rw (h.1, one, is) refl)

tried_hook : (t : ℕ) (o : Option ℕ) (w : When) (s h : Tree) → Tried t o s → TriesFit (t * own o) h → Tried t o (hook w s h)
tried_hook t o w s h a b = ((a.0, rw a.1 b), a.1)

closed_few : (p : Path) (t : ℕ) (d : Data) → closing_faults p t d ≡ [] → IfSome (option_and_then as_u64 (option_and_then as_number (at_key (codes "attempts") d))) (Few t)
unfolding closing_faults
closed_few p t d e = few_attempts t (path_below p (codes "attempts")) (at_key (codes "attempts") d) (nil_right (parallel_rest p d) _ e)

fit : (n t : ℕ) (d : Data) → t ≤ 10000 → Unfaulted n t d → TriesFit t (step_tree n d)
unfolding step_tree
fit zero t d h u = tt
fit (suc n) t d h u =
    let o : Opened n t d = opened n t d u in
    let rec : Data → Tree = step_tree n in
    let number : Option ℕ = option_and_then as_u64 (option_and_then as_number (at_key (codes "attempts") d)) in
    let few : IfSome number (Few t) = closed_few o.path t d o.closing in
    let most : t * own number ≤ 10000 = bounded t number h few in
    let is : tries_below t d ≡ t * own number = grind (arith, most) in
    let down : (c : Data) → Unfaulted n (tries_below t d) c → TriesFit (t * own number) (rec c) = λ c v. fit n (t * own number) c most (rw is at v) in
    let acted : Plain (t * own number) (action rec d) = action-kept (Unfaulted n (tries_below t d)) (Plain (t * own number)) (TriesFit (t * own number)) rec down (holds (t * own number)) d (leaves (t * own number) d) o.own in
    let tried : Tried t number (with_attempts d (action rec d)) = in_attempts t number _ few acted in
    (hooks-kept (Unfaulted n (tries_below t d)) (Tried t number) (TriesFit (t * own number)) rec down (tried_hook t number) d _ o.hooks tried).0

pub few_tries : (d : Data) → Planned d → TriesFit 1 (plan_from d)
unfolding plan_from
few_tries d plan =
    (plan-kept (Unfaulted 30 1) (Plain 1) (TriesFit 1) (step_tree 30) (λ c v. fit 30 1 c (omega arith) v) (holds 1) (λ w s h a b. ((a.0, rw a.1 b), a.1)) d plan.steps plan.hooks).0
