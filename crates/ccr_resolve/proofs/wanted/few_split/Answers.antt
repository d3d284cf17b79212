use Rattle.std.proofs.Common.{List, ℕ, Option, subst}
use Rattle.std.specs.Prelude.{IfSome}
use Rattle.ccr_resolve.specs.declared.wanted.Split.{Split}
use Rattle.ccr_resolve.specs.Search.{places_of}
use Rattle.ccr_resolve.specs.Sought.{IsSplit}
use Rattle.ccr_resolve.proofs.wanted.few_split.Goals as goal

pub returns-in-Some : goal.returns-in-Some
returns-in-Some c =
    let P : Option Split → Type 0 = λ o. IfSome o (λ split. (best : Option (List ℕ)) → IsSplit c.args.index.now.problem c.args.fixed.now best split.job split.builds.items) in
    subst P c.in-Some.is c.in_ok-found.ensures (places_of c.args.best.now)
