-- One more lane.
use Rattle.std.proofs.Common.{◌≡◌, ℕ, ◌+◌, ◌<◌, ◌≤◌, Bool, true, false, List, [], ◌∷◌, ◌++◌, length, get_or, set, slice_index, replicate, inl, inr, refl, sym, ap, ◌∙◌, subst, arith, length-set}
use Rattle.std.proofs.lemmas.Bool.{cases_lt, cases_eq, false≢true}
use Rattle.std.proofs.lemmas.List.{get_or-set_same, get_or-set_other, get_or_append_left, get_or_push, length_push, length-replicate}
use Rattle.ccr_layout.specs.declared.graph.Edge.{Edge}
use Rattle.ccr_layout.specs.declared.span.Span.{Span}
use Rattle.ccr_layout.specs.Spans.{span_in}
use Rattle.ccr_layout.specs.Passed.{edge_in}
use Rattle.ccr_layout.specs.Lanes.{IsBackward, AreMarked, AreLanes}

-- ---- marks
pub marked_none : (spans : List Span) (edges : List Edge) → AreMarked spans edges 0 (replicate (length spans) false)
marked_none spans edges = record {
  long = length-replicate (length spans) false;
  each = λ k less back within. absurd (omega (arith, less));
}

module _ (spans : List Span) (edges : List Edge) (marks : List Bool) (i : ℕ) (is : AreMarked spans edges i marks) where
  pub marked_same : (span_in spans (edge_in edges i).source).column < (span_in spans (edge_in edges i).target).column → AreMarked spans edges (i + 1) marks
  marked_same forward = record {
    long = is.long;
    each = λ k less back within. elim (cases_lt k i) [
      | inl earlier ↦ is.each k earlier back within
      | inr past ↦ (let f : k ≡ i = omega (arith, past, less) in
          let P : ℕ → Type 0 = λ n. IsBackward spans (edge_in edges n) in
          let here : IsBackward spans (edge_in edges i) = subst P f back in
          absurd (omega (arith, here, forward)))
    ];
  }

  pub marked_more : AreMarked spans edges (i + 1) (set marks (edge_in edges i).target true)
  marked_more = record {
    long = length-set marks (edge_in edges i).target true ∙ is.long;
    each = λ k less back within. elim (cases_eq (edge_in edges k).target (edge_in edges i).target) [
      | inl same ↦ ap (λ n. get_or (set marks (edge_in edges i).target true) n true) same ∙ get_or-set_same marks (edge_in edges i).target true true (omega (arith, within, same, is.long))
      | inr other ↦ elim (cases_lt k i) [
        | inl earlier ↦ get_or-set_other marks (edge_in edges i).target (edge_in edges k).target true true other ∙ is.each k earlier back within
        | inr past ↦ (let f : k ≡ i = omega (arith, past, less) in absurd (other (ap (λ n. (edge_in edges n).target) f)))
      ]
    ];
  }

-- ---- lanes
pub lanes_none : (marks : List Bool) (bottom : ℕ) → AreLanes marks bottom [] 0 (bottom + 16) bottom
lanes_none marks bottom = record {
  long = refl;
  from = omega arith;
  low = omega arith;
  above = omega arith;
  within = omega arith;
  below = λ k less. absurd (omega (arith, less));
  ends = λ k less is. absurd (omega (arith, less));
  apart = λ j k lj lk mj mk differ. absurd (omega (arith, lj));
}

module _ (marks : List Bool) (bottom : ℕ) (lanes : List ℕ) (count next end : ℕ) (is : AreLanes marks bottom lanes count next end) where
  old : (k : ℕ) → k < count → slice_index (lanes ++ next ∷ []) k ≡ slice_index lanes k
  old k less = get_or_append_left lanes (next ∷ []) 0 k (omega (arith, less, is.long))

  new : (k : ℕ) → count ≤ k → k < count + 1 → slice_index (lanes ++ next ∷ []) k ≡ next
  new k low high = get_or_push lanes next 0 k (is.long ∙ omega (arith, low, high))

  below' : (k : ℕ) → k < count + 1 → bottom + 16 ≤ slice_index (lanes ++ next ∷ []) k
  below' k less =
      elim (cases_lt k count) [
        | inl inside ↦ omega (arith, old k inside, is.below k inside)
        | inr past ↦ omega (arith, new k past less, is.from)
      ]

  long' : length (lanes ++ next ∷ []) ≡ count + 1
  long' = length_push lanes next ∙ ap (λ n. n + 1) is.long

  pub lanes_marked : AreLanes marks bottom (lanes ++ next ∷ []) (count + 1) (next + 14) (next + 14)
  lanes_marked = record {
    long = long';
    from = omega (arith, is.from);
    low = omega (arith, is.low);
    above = omega (arith, is.from);
    within = omega (arith, is.low);
    below = below';
    ends = λ k less m. elim (cases_lt k count) [
      | inl inside ↦ (let h = (is.ends k inside m).0 in (omega (arith, old k inside, h), omega (arith, old k inside, h)))
      | inr past ↦ (omega (arith, new k past less), omega (arith, new k past less))
    ];
    apart = λ j k lj lk mj mk differ. elim (cases_lt j count) [
      | inl ij ↦ elim (cases_lt k count) [
        | inl ik ↦ elim (is.apart j k ij ik mj mk differ) [
          | inl h ↦ inl (omega (arith, old j ij, old k ik, h))
          | inr h ↦ inr (omega (arith, old j ij, old k ik, h))
        ]
        | inr pk ↦ inl (omega (arith, old j ij, new k pk lk, (is.ends j ij mj).0))
      ]
      | inr pj ↦ elim (cases_lt k count) [
        | inl ik ↦ inr (omega (arith, new j pj lj, old k ik, (is.ends k ik mk).0))
        | inr pk ↦ absurd (differ (omega (arith, pj, lj, pk, lk)))
      ]
    ];
  }

  pub lanes_unmarked : get_or marks count true ≡ false → AreLanes marks bottom (lanes ++ next ∷ []) (count + 1) next end
  lanes_unmarked not = record {
    long = long';
    from = is.from;
    low = omega (arith, is.low);
    above = is.above;
    within = omega (arith, is.within);
    below = below';
    ends = λ k less m. elim (cases_lt k count) [
      | inl inside ↦ (let h = is.ends k inside m in (omega (arith, old k inside, h.0), omega (arith, old k inside, h.1)))
      | inr past ↦ absurd (marked_not k past less m)
    ];
    apart = λ j k lj lk mj mk differ. elim (cases_lt j count) [
      | inl ij ↦ elim (cases_lt k count) [
        | inl ik ↦ elim (is.apart j k ij ik mj mk differ) [
          | inl h ↦ inl (omega (arith, old j ij, old k ik, h))
          | inr h ↦ inr (omega (arith, old j ij, old k ik, h))
        ]
        | inr pk ↦ absurd (marked_not k pk lk mk)
      ]
      | inr pj ↦ absurd (marked_not j pj lj mj)
    ];
  }
    where
      marked_not : (k : ℕ) → count ≤ k → k < count + 1 → get_or marks k true ≡ true → ⊥
      marked_not k past less m = let e : count ≡ k = omega (arith, past, less) in false≢true (sym not ∙ ap (λ n. get_or marks n true) e ∙ m)
