-- The greatest place of builds, once there is one build more.
use Rattle.std.proofs.Common.{◌≡◌, ℕ, suc, ◌≤◌, List, ◌∷◌, max, sym, arith, subst, All}
use Rattle.std.proofs.lemmas.List.Elements.{All-cons, All-weaker}
use Rattle.ccr_choice.specs.Problem.{BuildValue}
use Rattle.ccr_index.specs.Rows.{IsTopPlace}

abbrev pub Below : ℕ → BuildValue → Type 0
Below top b = All (λ q. q.1 ≤ top) b.pairs

pub weaker : (a b : ℕ) → a ≤ b → (c : BuildValue) → Below a c → Below b c
weaker a b up c all = All-weaker (λ q. q.1 ≤ a) (λ q. q.1 ≤ b) (λ q h. omega arith) c.pairs all

added : (b : BuildValue) (bs : List BuildValue) (top more next : ℕ) → IsTopPlace bs top → Below more b → ((n : ℕ) → Below n b → more ≤ n)
    → next ≡ max top more → IsTopPlace (b ∷ bs) next
added b bs top more next is covers least e =
    let low : top ≤ next = omega (arith, e) in
    let high : more ≤ next = omega (arith, e) in
    record {
      covers = All-cons (Below next) b bs (weaker more next high b covers) (All-weaker (Below top) (Below next) (weaker top next low) bs is.covers);
      least = λ n all.
          let first = least n (all 0 b (omega arith)) in
          let others = is.least n (λ k d within. all (suc k) d (omega (arith, within))) in
          omega (arith, e, first, others);
    }

-- what `add` makes of it
pub top_added : (others : List BuildValue) (b : BuildValue) (bs : List BuildValue) (top more next : ℕ) → IsTopPlace bs top → Below more b → ((n : ℕ) → Below n b → more ≤ n)
    → next ≡ max top more → others ≡ b ∷ bs → IsTopPlace others next
top_added others b bs top more next is covers least e same =
    let P : List BuildValue → Type 0 = λ cs. IsTopPlace cs next in
    subst P (sym same) (added b bs top more next is covers least e)

pub top_same : (others bs : List BuildValue) (top : ℕ) → IsTopPlace bs top → others ≡ bs → IsTopPlace others top
top_same others bs top is same =
    let P : List BuildValue → Type 0 = λ cs. IsTopPlace cs top in
    subst P (sym same) is
