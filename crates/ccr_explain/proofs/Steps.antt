-- One turn of a loop, and its end.
use Rattle.std.proofs.Common.{◌≡◌, ◌↔◌, ◌==◌, inl, inr, IsTrue, ℕ, zero, suc, ◌+◌, ◌<◌, ◌≤◌, Bool, true, List, [], ◌∷◌, ◌++◌, length, map, take, drop, get_or, slice_index_or, Result, Ok, Err, sym, ap, ◌∙◌, subst, arith}
use Rattle.std.specs.Prelude.{All, Contains, IfOk}
use Rattle.std.specs.List.{list_any, range_with_len}
use Rattle.std.proofs.lemmas.Bool.{and_parts, cases_Bool, false_from_ne_true, false≢true}
use Rattle.std.proofs.lemmas.List.{append-nil, append_assoc, take_all, drop_more, drop_all, get_or_default}
use Rattle.std.proofs.lemmas.List.Elements.{All-same, All-cons, All-append, All-map, All-more, All-weaker}
use Rattle.ccr_choice.specs.Problem.{ProblemValue, InputValue, BuildValue, no_input, input_at, is_problem, are_builds}
use Rattle.ccr_choice.specs.Preference.{order_of}
use Rattle.ccr_choice.specs.Optimal.{IsOptimal}
use Rattle.ccr_choice.proofs.Orders.{is_order}
use Rattle.ccr_index.proofs.TopLaws.{Below, weaker}
use Rattle.ccr_explain.specs.declared.demand.Demand.{Demand}
use Rattle.ccr_explain.specs.declared.demand.Demand.TheVariants.{Allowed, Passed}
use Rattle.ccr_explain.specs.declared.met.Met.{Met}
use Rattle.ccr_explain.specs.declared.met.Met.TheVariants.{No}
use Rattle.ccr_explain.specs.declared.explanation.Explanation.{Explanation}
use Rattle.ccr_explain.specs.declared.explanation.Explanation.TheVariants.{Clash, Fits, OverBudget}
use Rattle.ccr_choice.specs.Problem.{ChoiceValue}
use Rattle.ccr_explain.specs.Demand.{IsDemandOf, demands_from}
use Rattle.ccr_explain.specs.Clash.{IsClash, IsExplanation}
use Rattle.ccr_explain.specs.WhyNot.{may_take, narrowed_from, asked, IsWhyNot}
use Rattle.ccr_explain.specs.Cut.{order_from, order_left, cut_from, builds_from, inputs_cut, problem_with, IsNarrowed, IsMet}
use Rattle.ccr_explain.proofs.Lists.{all_contained}
use Rattle.ccr_explain.proofs.Orders.{has_it, it_has}
use Rattle.ccr_explain.proofs.CutRules.{builds_places}
use Rattle.ccr_explain.proofs.WhyLaws.{asked_rules, takes_of, clash_shows, better_costs}

pub all_taken : {X : Type 0} (P : X → Type 0) (xs : List X) (i : ℕ) → length xs ≤ i → All P (take i xs) → All P xs
all_taken P xs i end all = All-same P xs (take i xs) (sym (take_all i xs end)) all

-- ---- the top place
-- one job more
pub jobs_more : (jobs : List (List BuildValue)) (i a b : ℕ) (bs : List BuildValue) → i < length jobs → a ≤ b → bs ≡ get_or jobs i [] → All (Below b) bs
    → All (λ cs. All (Below a) cs) (take i jobs) → All (λ cs. All (Below b) cs) (take (i + 1) jobs)
jobs_more jobs i a b bs within up is here all =
    All-more (λ cs. All (Below b) cs) jobs i [] within
    (All-weaker (λ cs. All (Below a) cs) (λ cs. All (Below b) cs) (λ cs h. All-weaker (Below a) (Below b) (weaker a b up) cs h) (take i jobs) all)
    (All-same (Below b) (get_or jobs i []) bs (sym is) here)

pub kept_places : (scopes : ℕ) (bs : List BuildValue) → are_builds scopes bs ≡ true → All (Below 100000) bs
kept_places scopes bs kept =
    All-weaker (λ b. All (λ r. (0 < r.1) × (r.1 ≤ 100000)) b.pairs) (Below 100000)
    (λ b h. All-weaker (λ r. (0 < r.1) × (r.1 ≤ 100000)) (λ r. r.1 ≤ 100000) (λ r both. both.1) b.pairs h)
    bs (builds_places _ _ bs (and_parts _ _ kept).1)

-- ---- the cut
pub order_is : (ds : List Demand) (p : ProblemValue) (i : ℕ) (order : List ℕ) → length p.inputs ≤ i
    → order_from ds i order (drop i p.inputs) ≡ order_from ds 0 [] p.inputs → order ≡ order_left ds p
unfolding order_left
order_is ds p i order end e = sym (ap (λ ys. order_from ds i order ys) (drop_all i p.inputs end)) ∙ e

range_more : (a n : ℕ) → range_with_len a (suc n) ≡ range_with_len a n ++ (a + n) ∷ []
range_more a zero = ap (λ k. k ∷ []) (omega arith)
range_more a (suc n) = ap (λ xs. a ∷ xs) (range_more (a + 1) n ∙ ap (λ k. range_with_len (a + 1) n ++ k ∷ []) (omega arith))

pub places_more : (n : ℕ) (xs ys : List ℕ) → xs ≡ range_with_len 1 n → ys ≡ xs ++ (n + 1) ∷ [] → ys ≡ range_with_len 1 (n + 1)
places_more n xs ys e f =
    let one : n + 1 ≡ suc n = omega arith in
    let last : 1 + n ≡ n + 1 = omega arith in
    f ∙ ap (λ zs. zs ++ (n + 1) ∷ []) e ∙ sym (ap (λ k. range_with_len 1 k) one ∙ range_more 1 n ∙ ap (λ k. range_with_len 1 n ++ k ∷ []) last)

pub cut_is : (ds : List Demand) (p : ProblemValue) (order twice : List ℕ) (inputs kept : List InputValue) (jobs : List (List BuildValue)) → order ≡ order_left ds p → twice ≡ order
    → kept ≡ inputs → jobs ≡ builds_from p kept 0 twice → record { inputs = inputs; jobs = jobs } ≡ problem_with ds p inputs
unfolding problem_with
cut_is ds p order twice inputs kept jobs is second same other =
    let g : List (List BuildValue) → ProblemValue = λ js. record { inputs = inputs; jobs = js } in
    ap g (other ∙ ap (λ o. builds_from p kept 0 o) (second ∙ is) ∙ ap (λ xs. builds_from p xs 0 (order_left ds p)) same)

pub inputs_are : (ds : List Demand) (top : ℕ) (p : ProblemValue) (order once : List ℕ) (inputs : List InputValue) → order ≡ order_left ds p → once ≡ order
    → inputs ≡ cut_from ds once top 0 p.inputs → inputs ≡ inputs_cut ds top p
unfolding inputs_cut
inputs_are ds top p order once inputs is first one = one ∙ ap (λ o. cut_from ds o top 0 p.inputs) (first ∙ is)

pub narrowed_cut : (ds : List Demand) (top : ℕ) (p : ProblemValue) (order once twice : List ℕ) (inputs others : List InputValue) → order ≡ order_left ds p → once ≡ order → twice ≡ order
    → inputs ≡ cut_from ds once top 0 p.inputs → IsNarrowed p twice inputs others → IsNarrowed p (order_left ds p) (inputs_cut ds top p) others
narrowed_cut ds top p order once twice inputs others is first second one narrowed =
    let P : List ℕ → Type 0 = λ o. IsNarrowed p o inputs others in
    let Q : List InputValue → Type 0 = λ xs. IsNarrowed p (order_left ds p) xs others in
    subst Q (inputs_are ds top p order once inputs is first one) (subst P (second ∙ is) narrowed)

-- a test that a fact decides is that of a list
pub same_test : (b : Bool) (x : ℕ) (xs : List ℕ) → (IsTrue b ↔ Contains xs x) → b ≡ list_any (λ m. m == x) xs
same_test b x xs decides =
    elim (cases_Bool b) [
      | inl holds ↦ holds ∙ sym (it_has xs x (decides.0 holds))
      | inr fails ↦ fails ∙ sym (false_from_ne_true (list_any (λ m. m == x) xs) (λ h. false≢true (sym fails ∙ decides.1 (has_it xs x h))))
    ]

-- ---- the demands
pub demands_more : (i : ℕ) (xs : List InputValue) (x : InputValue) (ds more : List Demand) → i < length xs → x ≡ slice_index_or xs i x
    → more ≡ ds ++ Allowed i ∷ map (λ j. Passed i j) x.jobs → more ++ demands_from (i + 1) (drop (i + 1) xs) ≡ ds ++ demands_from i (drop i xs)
demands_more i xs x ds more within is added =
    let rest = demands_from (i + 1) (drop (i + 1) xs) in
    let f : InputValue → List Demand = λ y. ds ++ Allowed i ∷ (map (λ j. Passed i j) y.jobs ++ rest) in
    ap (λ ys. ys ++ rest) added
    ∙ append_assoc ds (Allowed i ∷ map (λ j. Passed i j) x.jobs) rest
    ∙ ap f (is ∙ get_or_default xs i x no_input within)
    ∙ sym (ap (λ ys. ds ++ demands_from i ys) (drop_more xs i no_input within))

-- the demands of one more input are demands of the problem
pub demands_pushed : (xs : List InputValue) (js : List (List BuildValue)) (i : ℕ) (x : InputValue) (ds more : List Demand) → i < length xs → x ≡ slice_index_or xs i x
    → more ≡ ds ++ Allowed i ∷ map (λ j. Passed i j) x.jobs
    → All (IsDemandOf (record { inputs = xs; jobs = js })) ds → All (IsDemandOf (record { inputs = xs; jobs = js })) more
demands_pushed xs js i x ds more within is added all =
    let p : ProblemValue = record { inputs = xs; jobs = js } in
    let same : x ≡ input_at p i = is ∙ get_or_default xs i x no_input within in
    let P : List Demand → Type 0 = λ ys. All (IsDemandOf p) ys in
    let J : InputValue → Type 0 = λ y. All (λ j. (i < length xs) × Contains y.jobs j) x.jobs in
    subst P (sym added) (All-append (IsDemandOf p) ds (Allowed i ∷ map (λ j. Passed i j) x.jobs) all
    (All-cons (IsDemandOf p) (Allowed i) (map (λ j. Passed i j) x.jobs) within
    (All-map (IsDemandOf p) (λ j. Passed i j) x.jobs (subst J same (all_contained (λ j. (i < length xs) × Contains x.jobs j) x.jobs (λ j h. (within, h)))))))

-- demands that no choice meets are a clash
pub none_met : (p : ProblemValue) (ds tried : List Demand) (budget : ℕ) (met : Met) → All (IsDemandOf p) ds → tried ≡ ds → IsMet p tried budget met → met ≡ No → IsClash p ds
none_met p ds tried budget met all same told is =
    let P : Met → Type 0 = λ x. IsMet p tried budget x in
    let Q : List Demand → Type 0 = λ xs. IsMet p xs budget No in
    record { demands = all; exclude = subst Q same (subst P is told) }

-- ---- the question
pub asked_at_last : (p : ProblemValue) (places : List ℕ) (i place k : ℕ) (xs : List InputValue) → is_problem p ≡ true → length p.inputs ≤ k
    → xs ++ narrowed_from (may_take (order_of p) places i place) k (drop k p.inputs) ≡ narrowed_from (may_take (order_of p) places i place) 0 p.inputs
    → is_problem (record p { inputs = xs }) ≡ true
asked_at_last p places i place k xs rules end e =
    let may = may_take (order_of p) places i place in
    let f : List InputValue → ProblemValue = λ ys. record p { inputs = ys } in
    let same : xs ≡ narrowed_from may 0 p.inputs = sym (ap (λ ys. xs ++ narrowed_from may k ys) (drop_all k p.inputs end) ∙ append-nil xs) ∙ e in
    let P : ProblemValue → Type 0 = λ q. is_problem q ≡ true in
    subst P (sym (ap f same)) (asked_rules (order_of p) p places i place rules)

pub why_shown : (p q : ProblemValue) (places : List ℕ) (i place budget : ℕ) (e : Explanation) → i < length p.inputs → q ≡ asked (order_of p) p places i place
    → IsExplanation (order_of q) q budget e → IsWhyNot (order_of p) p places i place budget e
why_shown p q places i place budget e inside same h =
    let P : ProblemValue → Type 0 = λ r. IsExplanation (order_of r) r budget e in
    of e (subst P same h)
  where
    of : (e : Explanation) → IsExplanation (order_of (asked (order_of p) p places i place)) (asked (order_of p) p places i place) budget e → IsWhyNot (order_of p) p places i place budget e
    of (Clash c) h = (clash_shows (order_of p) p places i place c.demands h.clash, h)
    of (Fits c) h = takes_of (order_of p) p places i place inside c.places c.builds h.satisfies
    of (OverBudget n) h = h

pub why_result : {E : Type 0} (p q : ProblemValue) (places : List ℕ) (i place budget : ℕ) (r : Result Explanation E) → i < length p.inputs → q ≡ asked (order_of p) p places i place
    → IfOk r (IsExplanation (order_of q) q budget) → IfOk r (IsWhyNot (order_of p) p places i place budget)
why_result p q places i place budget (Ok e) inside same h = why_shown p q places i place budget e inside same h
why_result p q places i place budget (Err e) inside same h = h

pub not_the_best : {E : Type 0} (p : ProblemValue) (places builds : List ℕ) (i place budget : ℕ) (r : Result Explanation E) → i < length p.inputs → IfOk r (IsWhyNot (order_of p) p places i place budget)
    → IsOptimal (order_of p) p places builds → order_of p i place (get_or places i 0) ≡ true → (other : ChoiceValue) → r ≡ Ok (Fits other) → ⊥
not_the_best {E = E} p places builds i place budget r inside shown best preferred other is =
    let P : Result Explanation E → Type 0 = λ x. IfOk x (IsWhyNot (order_of p) p places i place budget) in
    better_costs (order_of p) (is_order p) p places builds best i place inside preferred other.places other.builds (subst P is shown)
