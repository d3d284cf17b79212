use Rattle.std.proofs.Common.{ℕ, rules}
use Rattle.std.specs.Prelude.{Bool}
use Rattle.std.proofs.lemmas.List.Sorted.{IsPartitionPoint-from_clause}
use Rattle.ccr_choice.specs.Ascending.{is_up_to}
use Rattle.ccr_choice.proofs.Scopes.{kept_front}
use Rattle.ccr_choice.proofs.possible.up_to.Goals as goal

pub returns-in-Some-clause-parted : goal.returns-in-Some-clause-parted
returns-in-Some-clause-parted c =
    let test : ℕ × ℕ → Bool = is_up_to c.args.after c.args.scope in
    let front = kept_front c.args.after c.args.pairs.now c.requires c.args.scope in
    IsPartitionPoint-from_clause test c.args.pairs.now _ c.partition_point.ensures.partitioned front (λ a r q k. search rules)

pub returns-in-None-clause-parted : goal.returns-in-None-clause-parted
returns-in-None-clause-parted c =
    let test : ℕ × ℕ → Bool = is_up_to c.args.after c.args.scope in
    let front = kept_front c.args.after c.args.pairs.now c.requires c.args.scope in
    IsPartitionPoint-from_clause test c.args.pairs.now _ c.partition_point-in-None.ensures.partitioned front (λ a r q k. search rules)
