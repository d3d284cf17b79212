use Rattle.std.proofs.Common.{◌≡◌, ◌<◌, ◌≤◌, length, get_or, ◌∙◌, sym, arith, rules, nat_lt, eqb-true, eq-eqb}
use Rattle.std.proofs.lemmas.List.Sorted.{IsPartitionPoint-from_clause}
use Rattle.std.proofs.lemmas.List.{get_or_default}
use Rattle.ccr_choice.proofs.Lookups.{parted, stands_at, never_less, less_chain}
use Rattle.ccr_choice.proofs.possible.has_place.Goals as goal

pub returns-in-Some : goal.returns-in-Some
returns-in-Some c =
    let xs = c.args.places.now in
    let x = c.args.place in
    let point = IsPartitionPoint-from_clause (λ y. nat_lt y x) xs _ c.partition_point-at.ensures.partitioned (parted nat_lt never_less less_chain xs c.requires x) (λ a r q k. search rules) in
    let within : c.partition_point-at.result < length xs = c.in-Some.ensures.lookup.3.0 in
    let here : c.in-Some.p.now ≡ get_or xs c.partition_point-at.result x = c.in-Some.ensures.lookup.1 ∙ get_or_default xs c.partition_point-at.result _ x within in
    (λ t. (c.partition_point-at.result, within, sym here ∙ eqb-true _ _ t), λ h. eq-eqb _ _ (here ∙ (stands_at nat_lt never_less less_chain xs c.requires x c.partition_point-at.result point h).1))

pub returns-in-None : goal.returns-in-None
returns-in-None c =
    let xs = c.args.places.now in
    let x = c.args.place in
    let point = IsPartitionPoint-from_clause (λ y. nat_lt y x) xs _ c.partition_point-at.ensures.partitioned (parted nat_lt never_less less_chain xs c.requires x) (λ a r q k. search rules) in
    let past : length xs ≤ c.partition_point-at.result = c.in-None.ensures.lookup.3 in
    (λ t. absurd (cc (t)), λ h. absurd (let inside = (stands_at nat_lt never_less less_chain xs c.requires x c.partition_point-at.result point h).0 in omega (arith, inside, past)))
