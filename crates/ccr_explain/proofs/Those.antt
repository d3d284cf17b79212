-- Builds by their places: those that pass a test, one after the other.
use Rattle.std.proofs.Common.{◌≡◌, ℕ, ◌+◌, ◌<◌, ◌≤◌, Bool, true, false, List, [], ◌∷◌, ◌++◌, length, map, take, get_or, refl, sym, ap, ◌∙◌, subst}
use Rattle.std.specs.Prelude.{All, filter}
use Rattle.std.proofs.lemmas.List.{map-append, take_all, get_or_default}
use Rattle.std.proofs.lemmas.List.Elements.{All-nil, All-cons, All-append}
use Rattle.ccr_choice.specs.Problem.{BuildValue}
use Rattle.ccr_index.specs.Rows.{no_build}
use Rattle.ccr_explain.specs.Cut.{build_in, AreThose}
use Rattle.ccr_explain.proofs.Lists.{filter_takes, filter_leaves}

pub none_yet : (test : BuildValue → Bool) (bs others : List BuildValue) (ks : List ℕ) → ks ≡ [] → AreThose test bs (take 0 others) ks
none_yet test bs others ks none =
    let P : List ℕ → Type 0 = λ xs. AreThose test bs (take 0 others) xs in
    subst P (sym none) (record { within = All-nil (λ k. k < length bs); are = refl })

module _ (test : BuildValue → Bool) (bs others : List BuildValue) (i k : ℕ) (ks : List ℕ) (inside : i < length others) (at : build_in bs k ≡ get_or others i (build_in bs k))
    (h : AreThose test bs (take i others) ks) where
  pub those_more : (more : List ℕ) → k < length bs → more ≡ ks ++ k ∷ [] → test (build_in bs k) ≡ true → AreThose test bs (take (i + 1) others) more
  those_more more within added passes =
      let P : ℕ → Type 0 = λ n. n < length bs in
      let Q : List ℕ → Type 0 = λ xs. All P xs in
      record {
        within = subst Q (sym added) (All-append P ks (k ∷ []) h.within (All-cons P k [] within (All-nil P)));
        are = ap (map (build_in bs)) added ∙ map-append (build_in bs) ks (k ∷ []) ∙ ap (λ ys. ys ++ build_in bs k ∷ []) h.are
            ∙ filter_takes test others i (build_in bs k) inside at passes;
      }

  pub those_same : (more : List ℕ) → more ≡ ks → test (build_in bs k) ≡ false → AreThose test bs (take (i + 1) others) more
  those_same more same fails =
      let P : List ℕ → Type 0 = λ xs. AreThose test bs (take (i + 1) others) xs in
      subst P (sym same) (record { within = h.within; are = h.are ∙ filter_leaves test others i (build_in bs k) inside at fails })

pub those_all : (test : BuildValue → Bool) (bs others : List BuildValue) (i : ℕ) (ks : List ℕ) → length others ≤ i → AreThose test bs (take i others) ks → AreThose test bs others ks
those_all test bs others i ks end h = record { within = h.within; are = h.are ∙ ap (filter test) (take_all i others end) }

-- each build stands at its place
pub at_itself : (bs : List BuildValue) (k : ℕ) → k < length bs → build_in bs k ≡ get_or bs k (build_in bs k)
at_itself bs k within = sym (get_or_default bs k (build_in bs k) no_build within)
