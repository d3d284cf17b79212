use Rattle.std.proofs.Common.{ap, ◌∙◌, arith}
use Rattle.std.specs.Prelude.{not}
use Rattle.ccr_resolve.proofs.WantedLaws.{wanted_both}
use Rattle.ccr_resolve.proofs.wanted.wanted_builds.Goals as goal

pub returns : goal.returns
returns c =
    let p = c.args.index.now.problem in
    let is = c.input-sought.ensures.value in
    let list = c.add_builds_in-2.new.builds.items in
    wanted_both p c.args.job c.args.input c.args.found c.args.best c.rows-rows.result.now.builds c.scope-scope.result c.spans_of-spans.result.first c.spans_of-spans.result.second c.add_builds_in.new.builds.items list
    c.after.result c.places.result.now c.min-most.result c.rows-rows.ensures.value (c.scope-scope.ensures ∙ ap (λ x. x.scope) is) (c.after.ensures ∙ ap (λ x. x.after) is) (c.places.ensures ∙ ap (λ x. x.places) is)
    c.spans_of-spans.ensures (c.in_ok-add_builds_in.ensures.all (ap not c.if-branch.false)) c.add_builds_in-2.ensures.kept (c.in_ok-add_builds_in-2.ensures.all (ap not c.if-branch-2.false))
    c.add_builds_in-2.ensures.within c.add_builds_in-2.ensures.few (omega (arith, c.min-most.ensures, c.len.ensures))
