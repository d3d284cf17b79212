use Rattle.std.proofs.Common.{ℕ, rules, ◌∙◌}
use Rattle.std.proofs.lemmas.List.Sorted.{IsPartitionPoint-from_clause}
use Rattle.std.proofs.lemmas.List.{get_or_default}
use Rattle.ccr_choice.specs.Ascending.{is_before}
use Rattle.ccr_choice.proofs.Lookups.{parted, stands_at, never_before, before_chain}
use Rattle.ccr_index.proofs.rows.place_of.Goals as goal

pub returns : goal.returns
returns c = λ h.
    let xs = c.args.pairs.now in
    let x : ℕ × ℕ = (c.args.scope, c.args.place) in
    let at = c.partition_point.result in
    let point = IsPartitionPoint-from_clause (λ y. is_before y x) xs _ c.partition_point.ensures.partitioned (parted is_before never_before before_chain xs c.requires x) (λ a r q k. search rules) in
    let stands = stands_at is_before never_before before_chain xs c.requires x at point h in
    (stands.0, get_or_default xs at (0, 0) x stands.0 ∙ stands.1)
