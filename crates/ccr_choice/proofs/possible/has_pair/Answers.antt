use Rattle.std.proofs.Common.{◌≡◌, ◌<◌, ◌≤◌, ℕ, length, get_or, ap, ◌∙◌, sym, arith, rules, eqb-true, eq-eqb}
use Rattle.std.proofs.lemmas.List.Sorted.{IsPartitionPoint-from_clause}
use Rattle.std.proofs.lemmas.List.{get_or_default}
use Rattle.ccr_choice.specs.Ascending.{is_before}
use Rattle.ccr_choice.proofs.Lookups.{parted, stands_at, never_before, before_chain}
use Rattle.ccr_choice.proofs.possible.has_pair.Goals as goal

pub returns-then-q-scope : goal.returns-then-q-scope
returns-then-q-scope c =
    let xs = c.args.pairs.now in
    let x : ℕ × ℕ = (c.args.scope, c.args.place) in
    let point = IsPartitionPoint-from_clause (λ y. is_before y x) xs _ c.partition_point-at.ensures.partitioned (parted is_before never_before before_chain xs c.requires x) (λ a r q k. search rules) in
    let within : c.partition_point-at.result < length xs = c.in-Some.ensures.lookup.3.0 in
    let here : c.in-Some.q.now ≡ get_or xs c.partition_point-at.result x = c.in-Some.ensures.lookup.1 ∙ get_or_default xs c.partition_point-at.result _ x within in (
      λ t. (c.partition_point-at.result, within, sym here ∙ ap (λ s. (s, c.in-Some.q.now.1)) c.if-q-scope.true ∙ ap (λ p. (c.args.scope, p)) (eqb-true _ _ t)),
      λ h. eq-eqb _ _ (ap (λ y. y.1) (here ∙ (stands_at is_before never_before before_chain xs c.requires x c.partition_point-at.result point h).1)),
    )

pub returns-else-q-scope : goal.returns-else-q-scope
returns-else-q-scope c =
    let xs = c.args.pairs.now in
    let x : ℕ × ℕ = (c.args.scope, c.args.place) in
    let point = IsPartitionPoint-from_clause (λ y. is_before y x) xs _ c.partition_point-at.ensures.partitioned (parted is_before never_before before_chain xs c.requires x) (λ a r q k. search rules) in
    let within : c.partition_point-at.result < length xs = c.in-Some.ensures.lookup.3.0 in
    let here : c.in-Some.q.now ≡ get_or xs c.partition_point-at.result x = c.in-Some.ensures.lookup.1 ∙ get_or_default xs c.partition_point-at.result _ x within in (
      λ t. absurd (c.if-q-scope.false (eqb-true _ _ t)),
      λ h. eq-eqb _ _ (ap (λ y. y.0) (here ∙ (stands_at is_before never_before before_chain xs c.requires x c.partition_point-at.result point h).1)),
    )

pub returns-in-None : goal.returns-in-None
returns-in-None c =
    let xs = c.args.pairs.now in
    let x : ℕ × ℕ = (c.args.scope, c.args.place) in
    let point = IsPartitionPoint-from_clause (λ y. is_before y x) xs _ c.partition_point-at.ensures.partitioned (parted is_before never_before before_chain xs c.requires x) (λ a r q k. search rules) in
    let past : length xs ≤ c.partition_point-at.result = c.in-None.ensures.lookup.3 in
    (λ t. absurd (cc (t)), λ h. absurd (let inside = (stands_at is_before never_before before_chain xs c.requires x c.partition_point-at.result point h).0 in omega (arith, inside, past)))
