use Rattle.std.proofs.Common.{◌↔◌, ℕ, List, length, Option, ap, subst, arith}
use Rattle.std.specs.Prelude.{Contains, IfSome}
use Rattle.ccr_resolve.specs.declared.wanted.Split.{Split}
use Rattle.ccr_resolve.specs.Search.{places_of}
use Rattle.ccr_resolve.specs.Sought.{IsSplit}
use Rattle.ccr_resolve.proofs.WantedLaws.{split_once}
use Rattle.ccr_resolve.proofs.wanted.few_once.Goals as goal

pub returns-in_ok-builds-in-Some : goal.returns-in_ok-builds-in-Some
returns-in_ok-builds-in-Some c =
    let p = c.args.index.now.problem in
    let best = places_of c.args.best.now in
    let P : Option Split → Type 0 = λ o. IfSome o (λ s. IsSplit p c.args.fixed.now best s.job s.builds.items) in
    let Q : List ℕ → Type 0 = λ xs. (k : ℕ) → Contains c.in_ok-builds-in-Some.builds.items k ↔ Contains xs k in
    split_once p c.args.fixed.now best c.in-Some.found.job c.in-Some.found.builds.items c.in_ok-builds-in-Some.builds.items
    (omega (arith, c.in_ok-builds-in-Some.ensures.few, ap length c.deref.ensures.value)) c.in_ok-builds-in-Some.ensures.distinct
    (subst Q c.deref.ensures.value c.in_ok-builds-in-Some.ensures.same) (subst P c.in-Some.is c.in_ok-found.ensures)
