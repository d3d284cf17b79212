use Rattle.std.proofs.Common.{◌-◌, ◌++◌, ◌∷◌, ◌∙◌, [], length, take, drop, sym, ap}
use Rattle.ccr_problem.specs.Passed.{successful}
use Rattle.ccr_lines.proofs.PastLaws.{builds_told}
use Rattle.ccr_lines.proofs.past.builds_before.Goals as goal

pub loop-k-preserved : goal.loop-k-preserved
loop-k-preserved c = λ scopes are.
    let bs = c.args.history.now.builds in
    let count = c.count_successful-count.result in
    let old = c.loop-k.builds.items in
    builds_told scopes bs c.args.before c.args.jobs.now c.args.names.now c.loop-k.k c.index-names-k.result
    c.index-jobs-k.result count old c.push.new.self.items are c.loop-k-test.true (sym c.index-names-k.is)
    (sym c.index-jobs-k.is)
    (c.count_successful-count.ensures ∙ ap (λ t. length (successful t (take c.args.before bs))) c.as_str.ensures.value)
    (c.loop-k.invariant scopes are)
    (c.in_ok-push.ensures.items
    ∙ ap (λ x. old ++ x ∷ []) (c.in_ok-last_builds.ensures ∙ ap (λ xs. drop (length xs - count) xs) c.builds.ensures))
