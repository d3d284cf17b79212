-- The builds that have a pair, one after the other, until one dominates.
use Rattle.std.proofs.Common.{◌≡◌, ◌≢◌, ℕ, ◌+◌, ◌-◌, ◌<◌, ◌≤◌, inl, inr, List, Bool, IsTrue, ◌↔◌, length, drop, slice_index_or, sym, ◌∙◌, subst, arith}
use Rattle.std.specs.Prelude.{Contains}
use Rattle.std.proofs.lemmas.Bool.{cases_lt}
use Rattle.std.proofs.lemmas.List.Elements.{All-contains}
use Rattle.ccr_choice.specs.Problem.{ProblemValue, BuildValue, builds_at}
use Rattle.ccr_choice.specs.Dominated.{IsNamedIn, IsDominated}
use Rattle.ccr_index.specs.Rows.{no_build, last_with}
use Rattle.ccr_index.specs.Alike.{does_count, AreAmong}
use Rattle.ccr_index.proofs.RowLaws.{last_within, last_has, none_newer}
use Rattle.ccr_resolve.proofs.WantedLaws.{step_low, step_has, step_none}

module _ (p : ProblemValue) (j build : ℕ) where
  abbrev pub at : ℕ → BuildValue
  at k = slice_index_or (builds_at p j) k no_build

  -- of the newer builds that have the pair, those up to the last one looked at don't dominate
  pub record IsSearchedTo (pair : ℕ × ℕ) (last : ℕ) : Type 0 where
    pub low : last ≤ length (builds_at p j)
    pub has : last ≢ 0 → Contains (at (length (builds_at p j) - last)).pairs pair
    pub done : (q : ℕ) → q + last < length (builds_at p j) → IsDominated p j (at build) (at q) → ⊥

  -- what dominates has each pair that counts
  pub dominator_has : (pair : ℕ × ℕ) (q : ℕ) → Contains (at build).pairs pair → IsNamedIn p j pair.0 → IsDominated p j (at build) (at q) → Contains (at q).pairs pair
  dominator_has pair q has named dominated = All-contains (λ r. IsNamedIn p j r.0 → Contains (at q).pairs r) (at build).pairs pair dominated has named

  module _ (pair : ℕ × ℕ) (has : Contains (at build).pairs pair) (named : IsNamedIn p j pair.0) where
    pub search_first : (last : ℕ) → last ≡ last_with (builds_at p j) pair → IsSearchedTo pair last
    search_first last e =
        let bs = builds_at p j in
        let low = last_within bs pair in
        record {
          low = omega (arith, low, e);
          has = λ some. last_has bs pair (length bs - last) no_build (λ z. some (e ∙ z)) (omega (arith, low, e));
          done = λ q less dominated. absurd (none_newer bs pair q no_build (omega (arith, less, e)) (dominator_has pair q has named dominated));
        }

    pub search_inside : (last newer : ℕ) → IsSearchedTo pair last → last ≢ 0 → newer ≡ length (builds_at p j) - last → newer < length (builds_at p j)
    search_inside last newer so some e =
        elim (cases_lt 0 last) [ inl more ↦ omega (arith, more, so.low, e) | inr none ↦ absurd (some (omega (arith, none))) ]

    pub search_has : (last newer : ℕ) → IsSearchedTo pair last → last ≢ 0 → newer ≡ length (builds_at p j) - last → Contains (at newer).pairs pair
    search_has last newer so some e = let P : ℕ → Type 0 = λ n. Contains (at n).pairs pair in subst P (sym e) (so.has some)

    pub search_less : (last next newer : ℕ) → IsSearchedTo pair last → last ≢ 0 → newer ≡ length (builds_at p j) - last → next ≡ last_with (drop (newer + 1) (builds_at p j)) pair → next < last
    search_less last next newer so some e is =
        let low = step_low (builds_at p j) pair newer next (search_inside last newer so some e) is in omega (arith, low, so.low, e)

    pub search_next : (last next newer : ℕ) → IsSearchedTo pair last → last ≢ 0 → newer ≡ length (builds_at p j) - last → next ≡ last_with (drop (newer + 1) (builds_at p j)) pair
        → (IsDominated p j (at build) (at newer) → ⊥) → IsSearchedTo pair next
    search_next last next newer so some e is never =
        let bs = builds_at p j in
        let inside = search_inside last newer so some e in
        let low = step_low bs pair newer next inside is in
        record {
          low = omega (arith, low);
          has = step_has bs pair newer next inside is;
          done = λ q less dominated. elim (cases_lt (q + last) (length bs)) [
            | inl old ↦ so.done q old dominated
            | inr reached ↦ elim (cases_lt newer q) [
              | inl beyond ↦ absurd (step_none bs pair newer next q inside is beyond less (dominator_has pair q has named dominated))
              | inr le ↦ (let now : q ≡ newer = omega (arith, le, reached, e, so.low) in
                  let P : ℕ → Type 0 = λ n. IsDominated p j (at build) (at n) in never (subst P now dominated))
            ]
          ];
        }

  -- no newer build dominates, where all that have the pair were looked at
  pub search_end : (pair : ℕ × ℕ) (last q : ℕ) → IsSearchedTo pair last → q + last < length (builds_at p j) → IsDominated p j (at build) (at q) → ⊥
  search_end pair last q so less dominated = so.done q less dominated

-- what dominates a build has all its pairs that count
pub dominated_among : (p : ProblemValue) (j : ℕ) (scopes : List Bool) (b c : BuildValue) → ((scope : ℕ) → IsTrue (does_count scopes scope) ↔ IsNamedIn p j scope) → IsDominated p j b c → AreAmong scopes b.pairs c.pairs
dominated_among p j scopes b c counted dominated = λ k d within t. dominated k d within ((counted (slice_index_or b.pairs k d).0).0 t)
