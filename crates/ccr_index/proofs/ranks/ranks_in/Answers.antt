use Rattle.std.proofs.Common.{ℕ, Bool, Option, Some, nat_le, rules, sym, subst}
use Rattle.std.proofs.lemmas.List.Sorted.{IsPartitionPoint-from_clause}
use Rattle.ccr_choice.proofs.Scopes.{up_to, kept_front}
use Rattle.ccr_index.specs.Ranks.{AreRankedIn}
use Rattle.ccr_choice.specs.Ascending.{is_up_to}
use Rattle.ccr_index.proofs.RangeLaws.{ranked_none, ranked_some}
use Rattle.ccr_index.proofs.ranks.ranks_in.Goals as goal

pub returns-in-Some : goal.returns-in-Some
returns-in-Some c =
    let xs = c.args.pairs.now in
    let scope = c.args.scope in
    let test : ℕ × ℕ → Bool = is_up_to (Some c.in-Some.kept) scope in
    let point = IsPartitionPoint-from_clause (λ q. nat_le q.0 scope) xs _ c.partition_point-to.ensures.partitioned (up_to xs c.requires scope) (λ a r q k. search rules) in
    let middle = IsPartitionPoint-from_clause test xs _ c.partition_point-above.ensures.partitioned (kept_front (Some c.in-Some.kept) xs c.requires scope) (λ a r q k. search rules) in
    let P : Option ℕ → Type 0 = λ o. AreRankedIn o xs scope c.partition_point-above.result c.partition_point-to.result in
    subst P (sym c.in-Some.is) (ranked_some xs c.requires scope c.partition_point-to.result c.partition_point-to.ensures.bound point c.in-Some.kept c.partition_point-above.result c.partition_point-above.ensures.bound middle)

pub returns-in-None : goal.returns-in-None
returns-in-None c =
    let xs = c.args.pairs.now in
    let scope = c.args.scope in
    let point = IsPartitionPoint-from_clause (λ q. nat_le q.0 scope) xs _ c.partition_point-to.ensures.partitioned (up_to xs c.requires scope) (λ a r q k. search rules) in
    let P : Option ℕ → Type 0 = λ o. AreRankedIn o xs scope c.partition_point-to.result c.partition_point-to.result in
    subst P (sym c.in-None.is) (ranked_none xs c.requires scope c.partition_point-to.result c.partition_point-to.ensures.bound point)
