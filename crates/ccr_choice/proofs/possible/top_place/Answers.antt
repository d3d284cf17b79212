use Rattle.std.proofs.Common.{ℕ, ◌≡◌, ◌<◌, ◌≤◌, length, slice_index, nat_le, Bool, Option, Some, None, [], ◌∙◌, sym, subst, arith, rules}
use Rattle.std.specs.Prelude.{MatchOption}
use Rattle.std.proofs.lemmas.Bool.{leb-true, leb-false}
use Rattle.std.proofs.lemmas.List.{get_or_default}
use Rattle.std.proofs.lemmas.List.Sorted.{IsPartitionPoint-from_clause}
use Rattle.ccr_choice.specs.Preference.{prefers_after, IsMostPreferred}
use Rattle.ccr_choice.proofs.Places.{last_of, first_most, low_front}
use Rattle.ccr_choice.proofs.possible.top_place.Goals as goal

pub returns-in-None : goal.returns-in-None
returns-in-None c =
    let P : Option ℕ → Type 0 = λ o. MatchOption c.copied.result (c.args.places.now ≡ []) (IsMostPreferred (prefers_after o) c.args.places.now) in
    subst P (sym c.in-None.is) (last_of c.args.places.now c.requires None c.copied.result (c.copied.ensures ∙ c.last.ensures.value) (λ k within. tt))

pub returns-in-Some-get : goal.returns-in-Some-get
returns-in-Some-get c =
    let xs = c.args.places.now in
    let u = c.in-Some.kept in
    let at = c.partition_point-above.result in
    let x = c.in-Some-get.first.now in
    let test : ℕ → Bool = λ y. nat_le y u in
    let point = IsPartitionPoint-from_clause test xs _ c.partition_point-above.ensures.partitioned (low_front xs c.requires u) (λ a r q k. search rules) in
    let within : at < length xs = c.in-Some-get.ensures.lookup.3.0 in
    let here : slice_index xs at ≡ x = sym (c.in-Some-get.ensures.lookup.1 ∙ get_or_default xs at _ 0 within) in
    let P : Option ℕ → Type 0 = λ o. IsMostPreferred (prefers_after o) xs x in
    subst P (sym c.in-Some.is) (first_most xs c.requires u at x (λ k less. leb-true _ _ (point.0 k 0 (omega arith) less)) within here
    (let more = leb-false _ _ (point.1 at 0 (omega arith) within) in omega (arith, more, here)))

pub returns-in-None-get : goal.returns-in-None-get
returns-in-None-get c =
    let xs = c.args.places.now in
    let u = c.in-Some.kept in
    let at = c.partition_point-above.result in
    let test : ℕ → Bool = λ y. nat_le y u in
    let point = IsPartitionPoint-from_clause test xs _ c.partition_point-above.ensures.partitioned (low_front xs c.requires u) (λ a r q k. search rules) in
    let past : length xs ≤ at = c.in-None-get.ensures.lookup.3 in
    let o = c.copied-in-None-get.result in
    let P : Option ℕ → Type 0 = λ kept. MatchOption o (xs ≡ []) (IsMostPreferred (prefers_after kept) xs) in
    subst P (sym c.in-Some.is) (last_of xs c.requires (Some u) o (c.copied-in-None-get.ensures ∙ c.last-in-None-get.ensures.value)
    (λ k within. leb-true _ _ (point.0 k 0 (omega arith) (omega (arith, within, past)))))
