-- One more tab.
use Rattle.std.proofs.Common.{◌≡◌, ℕ, ◌+◌, ◌<◌, ◌≤◌, ◌⊎◌, true, false, List, [], ◌∷◌, ◌++◌, length, inl, inr, refl, sym, ap, ◌∙◌, subst, arith}
use Rattle.std.specs.Prelude.{Contains, is_some}
use Rattle.std.specs.declared.vec.Vec.{Vec}
use Rattle.std.proofs.lemmas.Bool.{cases_lt, false≢true}
use Rattle.std.proofs.lemmas.List.Elements.{All-nil, All-push, All-weaker, All-get_or, Contains-append_left, Contains-push}
use Rattle.std.proofs.lemmas.List.Quantifiers.{all_pairs_push}
use Rattle.ccr_layout.specs.declared.graph.Node.{Node}
use Rattle.ccr_layout.specs.declared.span.Span.{Span}
use Rattle.ccr_layout.specs.declared.band.Band.{Band}
use Rattle.ccr_layout.specs.declared.picture.Tab.{Tab}
use Rattle.ccr_layout.specs.Ends.{tab_in}
use Rattle.ccr_layout.specs.Drawing.{tab_of, HasTabs}

module _ {A : Type 0} (spans : List Span) (bands : List Band) (tops : List (Vec ℕ A)) (nodes : List Node) where
  pub tabs_none : HasTabs spans bands tops nodes 0 0 []
  tabs_none = record {
    each = All-nil (λ t. (t ≡ tab_of spans bands tops t.node t.port) × (is_some (tab_in nodes t.node t.port) ≡ true) × (t.node < length nodes));
    early = All-nil (λ t. (t.node < 0) ⊎ ((t.node ≡ 0) × (t.port < 0)));
    order = λ i j d less within. absurd (omega (arith, within));
    before = λ k p less is. absurd (omega (arith, less));
    here = λ p less is. absurd (omega (arith, less));
  }

  module _ (node port : ℕ) (tabs : List Tab) (has : HasTabs spans bands tops nodes node port tabs) where
    pub tabs_more : node < length nodes → is_some (tab_in nodes node port) ≡ true → HasTabs spans bands tops nodes node (port + 1) (tabs ++ tab_of spans bands tops node port ∷ [])
    tabs_more within is =
        let new : Tab = tab_of spans bands tops node port in
        let R : Tab → Tab → Type 0 = λ s t. (s.node < t.node) ⊎ ((s.node ≡ t.node) × (s.port < t.port)) in
        let E : Tab → Type 0 = λ t. (t.node < node) ⊎ ((t.node ≡ node) × (t.port < port)) in
        let F : Tab → Type 0 = λ t. (t.node < node) ⊎ ((t.node ≡ node) × (t.port < port + 1)) in
        record {
          each = All-push (λ t. (t ≡ tab_of spans bands tops t.node t.port) × (is_some (tab_in nodes t.node t.port) ≡ true) × (t.node < length nodes)) tabs new has.each (refl, is, within);
          early = All-push F tabs new (All-weaker E F (λ t e. weaker t e) tabs has.early) (inr (refl, omega arith));
          order = all_pairs_push R tabs new has.order (λ k d less. All-get_or E tabs k d less has.early);
          before = λ k p less some. Contains-append_left tabs (new ∷ []) (tab_of spans bands tops k p) (has.before k p less some);
          here = λ p less some. elim (cases_lt p port) [
            | inl inside ↦ Contains-append_left tabs (new ∷ []) (tab_of spans bands tops node p) (has.here p inside some)
            | inr past ↦ (let e : port ≡ p = omega (arith, past, less) in
                let P : ℕ → Type 0 = λ n. Contains (tabs ++ new ∷ []) (tab_of spans bands tops node n) in
                subst P e (Contains-push tabs new))
          ];
        }
      where
        weaker : (t : Tab) → (t.node < node) ⊎ ((t.node ≡ node) × (t.port < port)) → (t.node < node) ⊎ ((t.node ≡ node) × (t.port < port + 1))
        weaker t (inl less) = inl less
        weaker t (inr same) = inr (same.0, omega (arith, same.1))

    pub tabs_same : is_some (tab_in nodes node port) ≡ false → HasTabs spans bands tops nodes node (port + 1) tabs
    tabs_same none = record {
      each = has.each;
      early = All-weaker (λ t. (t.node < node) ⊎ ((t.node ≡ node) × (t.port < port))) (λ t. (t.node < node) ⊎ ((t.node ≡ node) × (t.port < port + 1))) (λ t e. weaker t e) tabs has.early;
      order = has.order;
      before = has.before;
      here = λ p less some. elim (cases_lt p port) [
        | inl inside ↦ has.here p inside some
        | inr past ↦ (let e : p ≡ port = omega (arith, past, less) in absurd (false≢true (sym none ∙ sym (ap (λ n. is_some (tab_in nodes node n)) e) ∙ some)))
      ];
    }
      where
        weaker : (t : Tab) → (t.node < node) ⊎ ((t.node ≡ node) × (t.port < port)) → (t.node < node) ⊎ ((t.node ≡ node) × (t.port < port + 1))
        weaker t (inl less) = inl less
        weaker t (inr same) = inr (same.0, omega (arith, same.1))

    pub tabs_next : ((p : ℕ) → port ≤ p → is_some (tab_in nodes node p) ≡ false) → HasTabs spans bands tops nodes (node + 1) 0 tabs
    tabs_next none = record {
      each = has.each;
      early = All-weaker (λ t. (t.node < node) ⊎ ((t.node ≡ node) × (t.port < port))) (λ t. (t.node < node + 1) ⊎ ((t.node ≡ node + 1) × (t.port < 0))) (λ t e. passed t e) tabs has.early;
      order = has.order;
      before = λ k p less some. elim (cases_lt k node) [
        | inl inside ↦ has.before k p inside some
        | inr reached ↦ (let e : k ≡ node = omega (arith, reached, less) in
            let P : ℕ → Type 0 = λ n. Contains tabs (tab_of spans bands tops n p) in
            let some' : is_some (tab_in nodes node p) ≡ true = sym (ap (λ n. is_some (tab_in nodes n p)) e) ∙ some in
            subst P (sym e) (elim (cases_lt p port) [
              | inl within ↦ has.here p within some'
              | inr past ↦ absurd (false≢true (sym (none p past) ∙ some'))
            ]))
      ];
      here = λ p less some. absurd (omega (arith, less));
    }
      where
        passed : (t : Tab) → (t.node < node) ⊎ ((t.node ≡ node) × (t.port < port)) → (t.node < node + 1) ⊎ ((t.node ≡ node + 1) × (t.port < 0))
        passed t (inl less) = inl (omega (arith, less))
        passed t (inr same) = inl (omega (arith, same.0))
