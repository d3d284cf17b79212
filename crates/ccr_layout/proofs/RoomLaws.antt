-- Room for one more node.
use Rattle.std.proofs.Common.{◌≡◌, ◌≢◌, ℕ, ◌+◌, ◌-◌, ◌<◌, ◌≤◌, Option, Some, None, List, [], ◌∷◌, ◌++◌, length, min, max, get_or, inl, inr, sym, ap, ◌∙◌, subst, arith}
use Rattle.std.proofs.lemmas.Bool.{cases_lt}
use Rattle.std.proofs.lemmas.Option.{none-some}
use Rattle.std.proofs.lemmas.List.{get_or-map, get_or_default, get_or_past, get_or_append_left, get_or_push}
use Rattle.ccr_layout.specs.declared.graph.Node.{Node}
use Rattle.ccr_layout.specs.declared.span.Span.{Span}
use Rattle.ccr_layout.specs.declared.band.Band.{Band}
use Rattle.ccr_layout.specs.Ends.{tab_in}
use Rattle.ccr_layout.specs.Spans.{span_in}
use Rattle.ccr_layout.specs.Bands.{band_in, HasRoom, AreRoomy}

-- no tab is wider, of so many
abbrev pub IsWidest : List (Option ℕ) → ℕ → ℕ → Type 0
IsWidest tabs count widest = (p w : ℕ) → p < count → get_or tabs p None ≡ Some w → min w 1000 ≤ widest

pub widest_all : (tabs : List (Option ℕ)) (count widest : ℕ) → length tabs ≤ count → IsWidest tabs count widest → (p w : ℕ) → get_or tabs p None ≡ Some w → min w 1000 ≤ widest
widest_all tabs count widest whole is p w at =
    elim (cases_lt p (length tabs)) [
      | inl within ↦ is p w (omega (arith, within, whole)) at
      | inr past ↦ absurd (none-some w (sym (get_or_past tabs p None past) ∙ at))
    ]

-- the tabs of a node, by its position
tabs_at : (nodes : List Node) (n p : ℕ) (x : Node) → n < length nodes → x ≡ get_or nodes n x → tab_in nodes n p ≡ get_or x.tabs.items p None
tabs_at nodes n p x within read = ap (λ ts. get_or ts p None) (get_or-map (λ y. y.tabs.items) nodes n x [] within ∙ ap (λ y. y.tabs.items) (sym read))

pub room_none : (nodes : List Node) (spans : List Span) (column tabs boxes : ℕ) → HasRoom nodes spans 0 column tabs boxes
room_none nodes spans column tabs boxes = record { tab = λ k p w less same at. absurd (omega (arith, less)); box = λ k d less same. absurd (omega (arith, less)) }

module _ (nodes : List Node) (spans : List Span) (n column tabs boxes : ℕ) (is : HasRoom nodes spans n column tabs boxes) where
  pub room_same : (span_in spans n).column ≢ column → HasRoom nodes spans (n + 1) column tabs boxes
  room_same other = record {
    tab = λ k p w less same at. elim (cases_lt k n) [
      | inl earlier ↦ is.tab k p w earlier same at
      | inr past ↦ (let e : n ≡ k = omega (arith, past, less) in absurd (other (ap (λ m. (span_in spans m).column) e ∙ same)))
    ];
    box = λ k d less same. elim (cases_lt k n) [
      | inl earlier ↦ is.box k d earlier same
      | inr past ↦ (let e : n ≡ k = omega (arith, past, less) in absurd (other (ap (λ m. (span_in spans m).column) e ∙ same)))
    ];
  }

  pub room_more : (x : Node) (widest tabs' boxes' : ℕ) → n < length nodes → x ≡ get_or nodes n x → ((p w : ℕ) → get_or x.tabs.items p None ≡ Some w → min w 1000 ≤ widest)
      → tabs' ≡ max widest tabs → boxes' ≡ max (min x.width 1000) boxes → HasRoom nodes spans (n + 1) column tabs' boxes'
  room_more x widest tabs' boxes' within read wide t b = record {
    tab = λ k p w less same at. elim (cases_lt k n) [
      | inl earlier ↦ omega (arith, is.tab k p w earlier same at, t)
      | inr past ↦ (let e : n ≡ k = omega (arith, past, less) in
          let at' = sym (tabs_at nodes n p x within read) ∙ ap (λ m. tab_in nodes m p) e ∙ at in
          omega (arith, wide p w at', t))
    ];
    box = λ k d less same. elim (cases_lt k n) [
      | inl earlier ↦ omega (arith, is.box k d earlier same, b)
      | inr past ↦ (let e : k ≡ n = omega (arith, past, less) in
          let f = ap (λ m. (get_or nodes m d).width) e ∙ ap (λ y. y.width) (get_or_default nodes n d x within ∙ sym read) in
          omega (arith, f, b))
    ];
  }

-- one column more
pub roomy_more : (nodes : List Node) (spans : List Span) (bands bands' : List Band) (column : ℕ) (b : Band) → length bands ≡ column → AreRoomy nodes spans bands column
    → HasRoom nodes spans (length nodes) column (b.inner - b.left) (b.right - b.inner) → bands' ≡ bands ++ b ∷ [] → AreRoomy nodes spans bands' (column + 1)
roomy_more nodes spans bands bands' column b long are new grown c less =
    let P : Band → Type 0 = λ x. HasRoom nodes spans (length nodes) c (x.inner - x.left) (x.right - x.inner) in
    let Q : List Band → Type 0 = λ xs. P (band_in xs c) in
    subst Q (sym grown) (elim (cases_lt c column) [
      | inl inside ↦ subst P (sym (get_or_append_left bands (b ∷ []) (record { left = 0; inner = 0; right = 0 }) c (omega (arith, inside, long)))) (are c inside)
      | inr past ↦ (let e : column ≡ c = omega (arith, past, less) in
          let R : ℕ → Type 0 = λ m. HasRoom nodes spans (length nodes) m (b.inner - b.left) (b.right - b.inner) in
          subst P (sym (get_or_push bands b (record { left = 0; inner = 0; right = 0 }) c (long ∙ e))) (subst R e new))
    ])

-- the room is as large as what it was made for
pub room_is : (nodes : List Node) (spans : List Span) (count column tabs boxes tabs' boxes' : ℕ) → HasRoom nodes spans count column tabs boxes → tabs ≤ tabs' → boxes ≤ boxes' → HasRoom nodes spans count column tabs' boxes'
room_is nodes spans count column tabs boxes tabs' boxes' is t b = record {
  tab = λ k p w less same at. omega (arith, is.tab k p w less same at, t);
  box = λ k d less same. omega (arith, is.box k d less same, b);
}
