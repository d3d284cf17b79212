-- A tree at the front of a text, read line by line.
use Rattle.std.proofs.Common.{◌≡◌, ℕ, suc, ◌+◌, ◌-◌, ◌*◌, ◌/◌, ◌%◌, ◌<◌, ◌≤◌, ◌^◌, List, [], ◌∷◌, ◌++◌, length, take, drop, take-append-drop, get_or, inl, Option, Some, None, Result, Ok, refl, sym, ap, ◌∙◌, subst, arith, append_assoc, drop-cons, add-one, codes, true, false, cond}
use Rattle.std.specs.Char.{is_ascii_digit}
use Rattle.std.specs.Fmt.{decimal}
use Rattle.std.proofs.lemmas.Bool.{or_from}
use Rattle.std.proofs.lemmas.Bool.Decides.{nat_tests}
use Rattle.std.proofs.lemmas.Fmt.{decimal_digit, decimal_step}
use Rattle.std.proofs.lemmas.Grind.{flat_map-append}
use Rattle.std.proofs.lemmas.List.{append-nil, drop_all}
use Rattle.ccr_choice.specs.Problem.{ProblemValue, BuildValue, builds_at}
use Rattle.ccr_choice.specs.Assignment.{Assignment, nothing_fixed, with_build}
use Rattle.ccr_choice.specs.Preference.{order_of}
use Rattle.ccr_choice.specs.declared.word.Word.{Word}
use Rattle.ccr_choice.specs.Text.{line_text, text_of}
use Rattle.ccr_proof.specs.declared.claim.Claim.{Claim}
use Rattle.ccr_proof.specs.Claim.{IsClaim}
use Rattle.ccr_proof.specs.ClaimText.{claim_line, claim_text}
use Rattle.ccr_proof.specs.Tree.{Tree, Trees, job, empty, bounded, no_child, child, width, has_same, have_same}
use Rattle.ccr_proof.specs.ProofText.{ProofRefusal, tree_lines, trees_lines, format_of, proof_text, proof_in}
use Rattle.ccr_proof.specs.Refutes.{HasNoPlace, IsBounded, RefuteEach}
use Rattle.ccr_proof.proofs.ProofLaws.{proof_text_again}
use Rattle.ccr_check.specs.declared.node_line.NodeLine.TheVariants.{Job, Empty, Bounded}
use Rattle.ccr_check.specs.Fault.{HasBound}
use Rattle.ccr_check.specs.Judged.{accepted_line, IsProofJudged}
use Rattle.ccr_check.specs.Streamed.{words_on, IsCase, AreCases, IsShown, IsStreamed}
use Rattle.ccr_check.proofs.Claims.{accepted_from}

-- ---- numbers
pub digit_low : (b : ℕ) → is_ascii_digit b ≡ true → 48 ≤ b
digit_low b h = grind (arith, nat_tests)

pub digit_high : (b : ℕ) → is_ascii_digit b ≡ true → b < 58
digit_high b h = grind (arith, nat_tests)

-- one digit
pub number_starts : (text rest : List ℕ) (c v : ℕ) → text ≡ c ∷ rest → v ≡ c - 48 → 48 ≤ c → c < 58 → text ≡ decimal v ++ rest
number_starts text rest c v is worth low high =
    let digit : c ≡ 48 + v = omega (arith, worth) in
    is ∙ ap (λ d. d ∷ rest) digit ∙ ap (λ ds. ds ++ rest) (sym (decimal_digit v (omega (arith, worth))))

-- and one more
pub number_goes_on : (text rest others : List ℕ) (v d n : ℕ) → text ≡ decimal v ++ rest → rest ≡ d ∷ others → n ≡ v * 10 + (d - 48) → 0 < v → 48 ≤ d → d < 58 → n < 4294967296
    → text ≡ decimal n ++ others
number_goes_on text rest others v d n is next worth some low high small =
    let front : n / 10 ≡ v = omega (arith, worth) in
    let digit : 48 + n % 10 ≡ d = omega (arith, worth) in
    let step : decimal n ≡ decimal v ++ d ∷ [] = decimal_step n (omega (arith, worth)) (omega arith) ∙ ap (λ m. decimal m ++ (48 + n % 10) ∷ []) front ∙ ap (λ m. decimal v ++ m ∷ []) digit in
    is ∙ ap (λ r. decimal v ++ r) next ∙ sym (append_assoc (decimal v) (d ∷ []) others) ∙ ap (λ ds. ds ++ others) (sym step)

-- ---- trees
one_line : (ws : List Word) (text rest : List ℕ) → text ≡ line_text ws ++ rest → text ≡ text_of (ws ∷ []) ++ rest
one_line ws text rest is = is ∙ ap (λ x. x ++ rest) (sym (append-nil (line_text ws)))

module _ (p : ProblemValue) (bound : Option (List ℕ)) (a : Assignment) where
  pub case_empty : (most nodes i : ℕ) (text rest : List ℕ) → text ≡ line_text (words_on (Empty i)) ++ rest → i < 2 ^ 32 → nodes < 1000000 → HasNoPlace p a i
      → IsCase p bound a most nodes (nodes + 1) text rest
  case_empty most nodes i text rest is small few none =
      let kept : nodes + 1 ≤ 1000000 = omega (arith, few) in
      record {
        tree = empty i;
        begins = one_line (words_on (Empty i)) text rest is;
        numbers = small;
        shallow = omega arith;
        plain = refl;
        counted = refl;
        few = kept;
        refutes = none;
      }

  pub case_bounded : (most nodes : ℕ) (text rest : List ℕ) → text ≡ line_text (words_on Bounded) ++ rest → nodes < 1000000 → IsBounded (order_of p) p bound a
      → IsCase p bound a most nodes (nodes + 1) text rest
  case_bounded most nodes text rest is few under =
      let kept : nodes + 1 ≤ 1000000 = omega (arith, few) in
      record {
        tree = bounded;
        begins = one_line (words_on Bounded) text rest is;
        numbers = tt;
        shallow = omega arith;
        plain = refl;
        counted = refl;
        few = kept;
        refutes = under;
      }

  -- a job's line with its children
  pub case_job : (most nodes next j k : ℕ) (text behind rest : List ℕ) → text ≡ line_text (words_on (Job j k)) ++ behind → k ≡ length (builds_at p j) → 0 < most → j < 2 ^ 32 → j < length p.jobs
      → a j ≡ None → next ≤ 1000000 → AreCases p bound a (most - 1) j 0 (builds_at p j) (nodes + 1) next behind rest → IsCase p bound a most nodes next text rest
  case_job most nodes next j k text behind rest is wide some small within free few cases =
      let ts = cases.trees in
      let front = line_text (words_on (Job j (width ts))) in
      record {
        tree = job j ts;
        begins = is ∙ ap (λ n. line_text (words_on (Job j n)) ++ behind) (wide ∙ sym cases.each) ∙ ap (λ r. front ++ r) cases.begins ∙ sym (append_assoc front (text_of (trees_lines ts)) rest);
        numbers = (small, cases.numbers);
        shallow = omega (arith, cases.shallow, some);
        plain = cases.plain;
        counted = omega (arith, cases.counted);
        few = few;
        refutes = (within, free, cases.refute ts);
      }

  -- ---- children, one after the other
  pub cases_end : (most j k nodes : ℕ) (bs : List BuildValue) (text : List ℕ) → length bs ≤ k → AreCases p bound a most j k (drop k bs) nodes nodes text text
  cases_end most j k nodes bs text done =
      let P : List BuildValue → Type 0 = λ xs. AreCases p bound a most j k xs nodes nodes text text in
      subst P (sym (drop_all k bs done)) (record {
        trees = no_child;
        begins = refl;
        numbers = tt;
        shallow = omega arith;
        plain = refl;
        counted = omega arith;
        each = refl;
        refute = λ all. tt;
      })

  cases_more : (most j k nodes mid next : ℕ) (b : BuildValue) (bs : List BuildValue) (text behind rest : List ℕ) → IsCase p bound (with_build a j b) most nodes mid text behind
      → AreCases p bound a most j (k + 1) bs mid next behind rest → AreCases p bound a most j k (b ∷ bs) nodes next text rest
  cases_more most j k nodes mid next b bs text behind rest first more =
      let t = first.tree in
      let ts = more.trees in
      record {
        trees = child t ts;
        begins = first.begins ∙ ap (λ r. text_of (tree_lines t) ++ r) more.begins
            ∙ sym (append_assoc (text_of (tree_lines t)) (text_of (trees_lines ts)) rest)
            ∙ ap (λ x. x ++ rest) (sym (flat_map-append line_text (tree_lines t) (trees_lines ts)));
        numbers = (first.numbers, more.numbers);
        shallow = omega (arith, first.shallow, more.shallow);
        plain = or_from (has_same t) (have_same ts) first.plain more.plain;
        counted = omega (arith, first.counted, more.counted);
        each = ap suc more.each;
        refute = λ all. (inl first.refutes, more.refute all);
      }

  pub cases_step : (most j k nodes mid next : ℕ) (b : BuildValue) (bs : List BuildValue) (text behind rest : List ℕ) → k < length bs → b ≡ get_or bs k b
      → IsCase p bound (with_build a j b) most nodes mid text behind → AreCases p bound a most j (k + 1) (drop (k + 1) bs) mid next behind rest
      → AreCases p bound a most j k (drop k bs) nodes next text rest
  cases_step most j k nodes mid next b bs text behind rest within at first more =
      let P : List BuildValue → Type 0 = λ xs. AreCases p bound a most j k xs nodes next text rest in
      let here : drop k bs ≡ b ∷ drop (k + 1) bs = cc (drop-cons bs k b within, add-one k, at) in
      subst P (sym here) (cases_more most j k nodes mid next b (drop (k + 1) bs) text behind rest first more)

-- ---- the whole text
nothing : (xs : List ℕ) → length xs ≡ 0 → xs ≡ []
nothing [] h = refl
nothing (x ∷ xs) h = absurd (omega (arith, h))

-- nothing is left behind the tree
pub shown : (p : ProblemValue) (c : Claim) (bound : Option (List ℕ)) (a : Assignment) (next : ℕ) (text rest : List ℕ) → a ≡ nothing_fixed → HasBound p c bound → length rest ≡ 0
    → IsCase p bound a 32 0 next text rest → IsShown p c text
shown p c bound a next text rest none has done case =
    let done = nothing rest done in
    let few : next ≤ 1000000 = case.few in
    record {
      tree = case.tree;
      whole = case.begins ∙ ap (λ r. text_of (tree_lines case.tree) ++ r) done ∙ append-nil (text_of (tree_lines case.tree));
      numbers = case.numbers;
      shallow = case.shallow;
      few = omega (arith, case.counted, few);
      plain = case.plain;
      accepted = accepted_from p c case.tree bound a none has case.refutes;
    }

plain_text : (c : Claim) (t : Tree) → has_same t ≡ false → codes "proof 1\n" ++ (claim_text c ++ text_of (tree_lines t)) ≡ proof_text c t
plain_text c t plain =
    let tree = text_of (tree_lines t) in
    ap (λ x. codes "proof 1\n" ++ (x ++ tree)) (append-nil (line_text (claim_line c)))
    ∙ ap (λ ds. codes "proof " ++ (ds ++ 10 ∷ []) ++ (line_text (claim_line c) ++ tree)) (sym (decimal_digit 1 (omega arith)))
    ∙ ap (λ b. codes "proof " ++ (decimal (cond b 2 1) ++ 10 ∷ []) ++ (line_text (claim_line c) ++ tree)) (sym plain)

pub streamed : (p : ProblemValue) (c : Claim) (n : ℕ) (text rest line tree : List ℕ) → text ≡ codes "proof 1\n" ++ rest → line ≡ take n rest → tree ≡ drop n rest → IsClaim c → line ≡ claim_text c → IsShown p c tree
    → IsStreamed p c text
streamed p c n text rest line tree is front behind claim named shows =
    let t = shows.tree in
    let parts : rest ≡ line ++ tree = sym (take-append-drop n rest) ∙ ap (λ x. x ++ drop n rest) (sym front) ∙ ap (λ x. line ++ x) (sym behind) in
    record {
      tree = t;
      is_proof = record { claim = claim; numbers = shows.numbers; few_nodes = shows.few; shallow = shows.shallow };
      whole = is ∙ ap (λ r. codes "proof 1\n" ++ r) (parts ∙ ap (λ l. l ++ tree) named ∙ ap (λ x. claim_text c ++ x) shows.whole) ∙ plain_text c t shows.plain;
      accepted = shows.accepted;
    }

-- what is accepted as it is read is judged so
pub streamed_judged : (p : ProblemValue) (c : Claim) (text : List ℕ) → IsStreamed p c text → IsProofJudged p (proof_in text) (accepted_line c, 0)
streamed_judged p c text h =
    let P : Result (Claim × Tree) ProofRefusal → Type 0 = λ r. IsProofJudged p r (accepted_line c, 0) in
    let read : proof_in text ≡ Ok (c, h.tree) = ap proof_in h.whole ∙ proof_text_again (c, h.tree) h.is_proof in
    subst P (sym read) (inl (h.accepted, refl))
