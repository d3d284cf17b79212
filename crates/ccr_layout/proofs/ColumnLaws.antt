-- One more edge that says where a resource stands.
use Rattle.std.proofs.Common.{◌≡◌, ℕ, ◌+◌, ◌<◌, ◌≤◌, List, [], ◌∷◌, ◌++◌, Option, Some, None, length, get_or, set, slice_index, min, max, inl, inr, sym, ap, ◌∙◌, subst, arith, length-set, replicate}
use Rattle.std.specs.Prelude.{All, unwrap_or}
use Rattle.std.proofs.lemmas.Bool.{cases_lt, cases_eq}
use Rattle.std.proofs.lemmas.Option.{same_Some, none-some}
use Rattle.std.proofs.lemmas.List.{get_or-set_same, get_or-set_other, get_or-replicate, get_or_past, length-replicate, length_push, set_past}
use Rattle.std.proofs.lemmas.List.Elements.{All-set, All-replicate, All-push}
use Rattle.ccr_layout.specs.declared.graph.Kind.{Kind}
use Rattle.ccr_layout.specs.declared.graph.Kind.TheVariants.{Resource, Job}
use Rattle.ccr_layout.specs.declared.graph.Node.{Node}
use Rattle.ccr_layout.specs.declared.graph.Edge.{Edge}
use Rattle.ccr_layout.specs.Nodes.{IsJob, IsResource}
use Rattle.ccr_layout.specs.Passed.{kind_in, edge_in, IsGotten}
use Rattle.ccr_layout.specs.Columns.{AreGotten, ArePut, AreStood}
use Rattle.ccr_layout.proofs.PlaceLaws.{low_at}
use Rattle.ccr_layout.proofs.StepLaws.{push_more}

-- nothing is both
pub not_both : (k : Kind) → IsResource k → IsJob k → ⊥
not_both Resource r j = j
not_both Job r j = r

-- ---- what is gotten
abbrev none : Option ℕ
none = None

none_read : (n r : ℕ) → get_or (replicate n none) r none ≡ none
none_read n r =
    elim (cases_lt r n) [
      | inl within ↦ get_or-replicate n r none none within
      | inr past ↦ get_or_past (replicate n none) r none (omega (arith, past, length-replicate n none))
    ]

pub gotten_none : (nodes : List Node) (edges : List Edge) (layers : List ℕ) → AreGotten nodes edges layers 0 (replicate (length nodes) None)
gotten_none nodes edges layers = record {
  long = length-replicate (length nodes) None;
  least = λ k less job within. absurd (omega (arith, less));
  only = λ r c is. absurd (none-some c (sym (none_read (length nodes) r) ∙ is));
  few = λ n r c low is. absurd (none-some c (sym (none_read (length nodes) r) ∙ is));
}

module _ (nodes : List Node) (edges : List Edge) (layers : List ℕ) (gotten : List (Option ℕ)) (i : ℕ) (is : AreGotten nodes edges layers i gotten) (within : i < length edges) where
  pub gotten_same : IsResource (kind_in nodes (edge_in edges i).target) → AreGotten nodes edges layers (i + 1) gotten
  gotten_same resource = record {
    long = is.long;
    least = λ k less job inside. elim (cases_lt k i) [
      | inl earlier ↦ is.least k earlier job inside
      | inr past ↦ (let f : k ≡ i = omega (arith, past, less) in
          let P : ℕ → Type 0 = λ n. IsJob (kind_in nodes (edge_in edges n).target) in
          absurd (not_both (kind_in nodes (edge_in edges i).target) resource (subst P f job)))
    ];
    only = is.only;
    few = is.few;
  }

  module _ (job : IsJob (kind_in nodes (edge_in edges i).target)) where
    abbrev layer : ℕ
    layer = slice_index layers (edge_in edges i).target

    abbrev noted : ℕ
    noted = min (unwrap_or (get_or gotten (edge_in edges i).source None) layer) layer

    least' : (k : ℕ) → k < i + 1 → IsJob (kind_in nodes (edge_in edges k).target) → (edge_in edges k).source < length nodes
        → (c : ℕ) × ((get_or (set gotten (edge_in edges i).source (Some noted)) (edge_in edges k).source None ≡ Some c) × (c ≤ slice_index layers (edge_in edges k).target))
    least' k less target inside =
        elim (cases_lt k i) [
          | inl earlier ↦ (let old = is.least k earlier target inside in
              elim (cases_eq (edge_in edges k).source (edge_in edges i).source) [
                | inl same ↦ (let f = ap (λ r. unwrap_or (get_or gotten r None) layer) same in
                    let g = ap (λ o. unwrap_or o layer) old.1.0 in
                    let h = get_or-set_same gotten (edge_in edges i).source (Some noted) None (omega (arith, inside, same, is.long)) in
                    (noted, (ap (λ r. get_or (set gotten (edge_in edges i).source (Some noted)) r None) same ∙ h, omega (arith, f, g, old.1.1))))
                | inr other ↦ (old.0, (get_or-set_other gotten (edge_in edges i).source (edge_in edges k).source (Some noted) None other ∙ old.1.0, old.1.1))
              ])
          | inr past ↦ (let f : i ≡ k = omega (arith, past, less) in
              let P : ℕ → Type 0 = λ n. (c : ℕ) × ((get_or (set gotten (edge_in edges i).source (Some noted)) (edge_in edges n).source None ≡ Some c) × (c ≤ slice_index layers (edge_in edges n).target)) in
              let s = ap (λ n. (edge_in edges n).source) f in
              subst P f (noted, (get_or-set_same gotten (edge_in edges i).source (Some noted) None (omega (arith, inside, s, is.long)), omega arith)))
        ]

    only' : (r c : ℕ) → get_or (set gotten (edge_in edges i).source (Some noted)) r None ≡ Some c → IsGotten nodes edges r
    only' r c at =
        elim (cases_eq r (edge_in edges i).source) [
          | inl same ↦ (i, (within, sym same, job))
          | inr other ↦ is.only r c (sym (get_or-set_other gotten (edge_in edges i).source r (Some noted) None other) ∙ at)
        ]

    few' : (n r c : ℕ) → All (λ l. l ≤ n) layers → get_or (set gotten (edge_in edges i).source (Some noted)) r None ≡ Some c → c ≤ n
    few' n r c low at =
        elim (cases_eq r (edge_in edges i).source) [
          | inl same ↦ elim (cases_lt (edge_in edges i).source (length gotten)) [
            | inl inside ↦ (let h = get_or-set_same gotten (edge_in edges i).source (Some noted) None inside in
                let f = ap (λ k. get_or (set gotten (edge_in edges i).source (Some noted)) k None) same in
                let e : noted ≡ c = same_Some noted c (sym h ∙ sym f ∙ at) in
                omega (arith, e, low_at n layers (edge_in edges i).target low))
            | inr past ↦ is.few n r c low (sym (ap (λ xs. get_or xs r None) (set_past gotten (edge_in edges i).source (Some noted) past)) ∙ at)
          ]
          | inr other ↦ is.few n r c low (sym (get_or-set_other gotten (edge_in edges i).source r (Some noted) None other) ∙ at)
        ]

    pub gotten_more : AreGotten nodes edges layers (i + 1)
        (set gotten (edge_in edges i).source (Some (min (unwrap_or (get_or gotten (edge_in edges i).source None) (slice_index layers (edge_in edges i).target)) (slice_index layers (edge_in edges i).target))))
    gotten_more = record { long = length-set gotten (edge_in edges i).source (Some noted) ∙ is.long; least = least'; only = only'; few = few' }

-- ---- what is put
pub put_none : (nodes : List Node) (edges : List Edge) (layers : List ℕ) → ArePut nodes edges layers 0 (replicate (length nodes) 0)
put_none nodes edges layers = record {
  long = length-replicate (length nodes) 0;
  greatest = λ k less resource within. absurd (omega (arith, less));
  low = All-replicate (λ c. c ≤ 402) (length nodes) 0 (omega arith);
  few = λ n low. All-replicate (λ c. c ≤ n + 2) (length nodes) 0 (omega arith);
}

module _ (nodes : List Node) (edges : List Edge) (layers put : List ℕ) (i : ℕ) (is : ArePut nodes edges layers i put) where
  pub put_same : IsJob (kind_in nodes (edge_in edges i).target) → ArePut nodes edges layers (i + 1) put
  put_same job = record {
    long = is.long;
    greatest = λ k less resource inside. elim (cases_lt k i) [
      | inl earlier ↦ is.greatest k earlier resource inside
      | inr past ↦ (let f : k ≡ i = omega (arith, past, less) in
          let P : ℕ → Type 0 = λ n. IsResource (kind_in nodes (edge_in edges n).target) in
          absurd (not_both (kind_in nodes (edge_in edges i).target) (subst P f resource) job))
    ];
    low = is.low;
    few = is.few;
  }

  abbrev column : ℕ
  column = slice_index layers (edge_in edges i).source + 2

  abbrev raised : List ℕ
  raised = set put (edge_in edges i).target (max (slice_index put (edge_in edges i).target) column)

  grows : (j : ℕ) → slice_index put j ≤ slice_index raised j
  grows j =
      elim (cases_eq j (edge_in edges i).target) [
        | inl same ↦ elim (cases_lt (edge_in edges i).target (length put)) [
          | inl inside ↦ (let h = get_or-set_same put (edge_in edges i).target (max (slice_index put (edge_in edges i).target) column) 0 inside in
              let f = ap (slice_index raised) same in
              let g = ap (slice_index put) same in
              omega (arith, h, f, g))
          | inr past ↦ omega (arith, ap (λ xs. slice_index xs j) (set_past put (edge_in edges i).target (max (slice_index put (edge_in edges i).target) column) past))
        ]
        | inr other ↦ omega (arith, get_or-set_other put (edge_in edges i).target j (max (slice_index put (edge_in edges i).target) column) 0 other)
      ]

  greatest' : (k : ℕ) → k < i + 1 → IsResource (kind_in nodes (edge_in edges k).target) → (edge_in edges k).target < length nodes
      → slice_index layers (edge_in edges k).source + 2 ≤ slice_index raised (edge_in edges k).target
  greatest' k less resource inside =
      elim (cases_lt k i) [
        | inl earlier ↦ omega (arith, is.greatest k earlier resource inside, grows (edge_in edges k).target)
        | inr past ↦ (let f : i ≡ k = omega (arith, past, less) in
            let P : ℕ → Type 0 = λ n. slice_index layers (edge_in edges n).source + 2 ≤ slice_index raised (edge_in edges n).target in
            let t = ap (λ n. (edge_in edges n).target) f in
            let h = get_or-set_same put (edge_in edges i).target (max (slice_index put (edge_in edges i).target) column) 0 (omega (arith, inside, t, is.long)) in
            subst P f (omega (arith, h)))
      ]

  pub put_more : All (λ l. l ≤ 400) layers
      → ArePut nodes edges layers (i + 1) (set put (edge_in edges i).target (max (slice_index put (edge_in edges i).target) (slice_index layers (edge_in edges i).source + 2)))
  put_more low = record {
    long = length-set put (edge_in edges i).target (max (slice_index put (edge_in edges i).target) column) ∙ is.long;
    greatest = greatest';
    low = (let a = low_at 400 layers (edge_in edges i).source low in
        let b = low_at 402 put (edge_in edges i).target is.low in
        All-set (λ c. c ≤ 402) put (edge_in edges i).target (max (slice_index put (edge_in edges i).target) column) (omega (arith, a, b)) is.low);
    few = λ n all. (let a = low_at n layers (edge_in edges i).source all in
        let b = low_at (n + 2) put (edge_in edges i).target (is.few n all) in
        All-set (λ c. c ≤ n + 2) put (edge_in edges i).target (max (slice_index put (edge_in edges i).target) column) (omega (arith, a, b)) (is.few n all));
  }

-- ---- where nodes stand
pub stood_more : (nodes : List Node) (layers : List ℕ) (gotten : List (Option ℕ)) (put columns columns' : List ℕ) (n column : ℕ) → AreStood nodes layers gotten put columns n
    → column ≤ 402 → ((m : ℕ) → All (λ l. l ≤ m) layers → column ≤ m + 2)
    → (IsJob (kind_in nodes n) → column ≡ slice_index layers n + 1)
    → (IsResource (kind_in nodes n) → (c : ℕ) → get_or gotten n None ≡ Some c → column ≤ c)
    → (IsResource (kind_in nodes n) → get_or gotten n None ≡ None → column ≡ slice_index put n)
    → columns' ≡ columns ++ column ∷ [] → AreStood nodes layers gotten put columns' (n + 1)
stood_more nodes layers gotten put columns columns' n column is low few job get puts grown =
    let P : List ℕ → Type 0 = λ xs. AreStood nodes layers gotten put xs (n + 1) in
    subst P (sym grown) (record {
      long = length_push columns column ∙ ap (λ m. m + 1) is.long;
      low = All-push (λ c. c ≤ 402) columns column is.low low;
      few = λ m all. All-push (λ c. c ≤ m + 2) columns column (is.few m all) (few m all);
      jobs = push_more (λ k y. IsJob (kind_in nodes k) → y ≡ slice_index layers k + 1) columns column 0 n is.long is.jobs job;
      gets = push_more (λ k y. IsResource (kind_in nodes k) → (c : ℕ) → get_or gotten k None ≡ Some c → y ≤ c) columns column 0 n is.long is.gets get;
      puts = push_more (λ k y. IsResource (kind_in nodes k) → get_or gotten k None ≡ None → y ≡ slice_index put k) columns column 0 n is.long is.puts puts;
    })
