use Rattle.std.proofs.Common.{ℕ, Option, length, nat_le, rules, sym, subst}
use Rattle.std.proofs.lemmas.List.Sorted.{IsPartitionPoint-from_clause}
use Rattle.ccr_index.specs.Ranks.{AreRankedOf}
use Rattle.ccr_index.proofs.RangeLaws.{ranked_all, ranked_after, up_to_front}
use Rattle.ccr_index.proofs.ranks.ranks_of.Goals as goal

pub returns-in-Some : goal.returns-in-Some
returns-in-Some c =
    let xs = c.args.places.now in
    let middle = IsPartitionPoint-from_clause (λ x. nat_le x c.in-Some.kept) xs _ c.partition_point-above.ensures.partitioned (up_to_front xs c.requires c.in-Some.kept) (λ a r q k. search rules) in
    let P : Option ℕ → Type 0 = λ o. AreRankedOf o xs c.partition_point-above.result (length xs) in
    subst P (sym c.in-Some.is) (ranked_after xs c.requires c.in-Some.kept c.partition_point-above.result c.partition_point-above.ensures.bound middle)

pub returns-in-None : goal.returns-in-None
returns-in-None c =
    let xs = c.args.places.now in
    let P : Option ℕ → Type 0 = λ o. AreRankedOf o xs (length xs) (length xs) in
    subst P (sym c.in-None.is) (ranked_all xs c.requires)
