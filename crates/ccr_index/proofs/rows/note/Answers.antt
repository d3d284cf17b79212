use Rattle.std.proofs.Common.{◌≡◌, ◌<◌, ◌+◌, ◌++◌, ◌∷◌, ◌∙◌, ◌||◌, ℕ, List, [], Option, Some, true, false, cond, max, length, map, take, get_or, inl, inr, sym, ap, ap₂, arith, Result, Ok, Err}
use Rattle.std.specs.Prelude.{is_ok, unwrap_or, OnOk}
use Rattle.std.proofs.lemmas.Bool.{cases_Bool, cond-true, cond-false, false≢true}
use Rattle.std.proofs.lemmas.List.{map_more, append_assoc}
use Rattle.std.proofs.lemmas.List.Folds.{list_any_more}
use Rattle.std.proofs.lemmas.Grind.{common_steps}
use Rattle.std.specs.HashMap.{get}
use Rattle.ccr_index.specs.declared.rows.Seen.{Seen}
use Rattle.ccr_index.specs.Rows.{pair_eq, is_among, number_for, size_for}
use Rattle.ccr_index.proofs.RowLaws.{equal_pairs, not_among}
use Rattle.ccr_index.proofs.rows.note.Goals as goal

ok_holds : {T E : Type 0} (r : Result T E) (P : Type 0) → is_ok r ≡ true → OnOk r P → P
ok_holds (Ok x) P e h = h
ok_holds (Err y) P e h = absurd (false≢true e)

-- whether a pair is among those read once one more is
more : (xs : List (ℕ × ℕ)) (i : ℕ) (q : ℕ × ℕ) → i < length xs → is_among (take (i + 1) xs) q ≡ cond (pair_eq (get_or xs i (0, 0)) q) true (is_among (take i xs) q)
more xs i q within =
    let a = is_among (take i xs) q in
    let b = pair_eq (get_or xs i (0, 0)) q in
    list_any_more (λ p. pair_eq p q) xs i (0, 0) within ∙ elim (cases_Bool b) [
      | inl t ↦ ap (λ y. a || y) t ∙ elim (cases_Bool a) [ inl u ↦ ap (λ y. y || true) u ∙ sym (cond-true b true a t) | inr u ↦ ap (λ y. y || true) u ∙ sym (cond-true b true a t) ]
      | inr f ↦ ap (λ y. a || y) f ∙ elim (cases_Bool a) [ inl u ↦ ap (λ y. y || false) u ∙ sym (cond-false b true a f ∙ u) | inr u ↦ ap (λ y. y || false) u ∙ sym (cond-false b true a f ∙ u) ]
    ]

pub loop-pair-preserved : goal.loop-pair-preserved
loop-pair-preserved c =
    let xs = c.args.pairs.now in
    let i = c.loop-pair.pair-index in
    let x = get_or xs i (0, 0) in
    let within : i < length xs = c.loop-pair-test.true in
    let is = c.loop-pair.invariant in
    let row = c.args.row in
    let size = c.args.size in
    let init = c.args.seen.now in
    let old = c.loop-pair.seen in
    let made : Seen = record { row = row; size = c.max.result } in
    let apart = not_among xs i (0, 0) c.requires.ascending within in
    let has_room : is_ok c.push.result ≡ true = grind (arith, common_steps) in
    let has_place : is_ok c.insert.result ≡ true = grind (arith, common_steps) in
    let updates = ok_holds c.insert.result _ has_place c.insert.ensures.updates in
    let seen : c.unwrap_or-before.result ≡ unwrap_or (get pair_eq old x) (record { row = 0; size = 0 }) = c.unwrap_or-before.ensures ∙ ap (λ (o : Option Seen). unwrap_or o (record { row = 0; size = 0 })) (c.copied.ensures ∙ c.get.ensures.value) in
    let row_before : c.unwrap_or-before.result.row ≡ number_for init x = ap (λ (s : Seen). s.row) seen ∙ is.0 x ∙ cond-false (is_among (take i xs) x) row (number_for init x) apart in
    let size_before : c.unwrap_or-before.result.size ≡ size_for init x = ap (λ (s : Seen). s.size) seen ∙ is.1 x ∙ cond-false (is_among (take i xs) x) (max (size_for init x) size) (size_for init x) apart in
    let pushed = c.push.ensures.items ∙ cond-true (is_ok c.push.result) _ _ has_room in (
      λ q. elim (cases_Bool (pair_eq x q)) [
        | inl t ↦ ap (λ (o : Option Seen). (unwrap_or o (record { row = 0; size = 0 })).row) (updates.0 q ∙ cond-true (pair_eq x q) (Some made) (get pair_eq old q) t)
            ∙ sym (cond-true (is_among (take (i + 1) xs) q) row (number_for init q) (more xs i q within ∙ cond-true (pair_eq x q) true (is_among (take i xs) q) t))
        | inr f ↦ ap (λ (o : Option Seen). (unwrap_or o (record { row = 0; size = 0 })).row) (updates.0 q ∙ cond-false (pair_eq x q) (Some made) (get pair_eq old q) f)
            ∙ is.0 q ∙ ap (λ b. cond b row (number_for init q)) (sym (more xs i q within ∙ cond-false (pair_eq x q) true (is_among (take i xs) q) f))
      ],
      λ q. elim (cases_Bool (pair_eq x q)) [
        | inl t ↦ ap (λ (o : Option Seen). (unwrap_or o (record { row = 0; size = 0 })).size) (updates.0 q ∙ cond-true (pair_eq x q) (Some made) (get pair_eq old q) t)
            ∙ c.max.ensures ∙ ap (λ n. max n size) (size_before ∙ ap (λ p. size_for init p) ((equal_pairs q x).0 t))
            ∙ sym (cond-true (is_among (take (i + 1) xs) q) (max (size_for init q) size) (size_for init q) (more xs i q within ∙ cond-true (pair_eq x q) true (is_among (take i xs) q) t))
        | inr f ↦ ap (λ (o : Option Seen). (unwrap_or o (record { row = 0; size = 0 })).size) (updates.0 q ∙ cond-false (pair_eq x q) (Some made) (get pair_eq old q) f)
            ∙ is.1 q ∙ ap (λ b. cond b (max (size_for init q) size) (size_for init q)) (sym (more xs i q within ∙ cond-false (pair_eq x q) true (is_among (take i xs) q) f))
      ],
      pushed ∙ ap₂ (λ ys n. ys ++ n ∷ []) is.2 row_before ∙ append_assoc c.args.earlier.now.items (map (λ q. number_for init q) (take i xs)) (number_for init x ∷ [])
          ∙ ap (λ ys. c.args.earlier.now.items ++ ys) (sym (map_more (λ q. number_for init q) xs i (0, 0) within)),
      grind (arith, common_steps),
      grind (arith, common_steps),
      grind (arith, common_steps),
      grind (arith, common_steps),
    )
