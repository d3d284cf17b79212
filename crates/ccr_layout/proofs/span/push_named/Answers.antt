use Rattle.std.proofs.Common.{◌++◌, ◌∷◌, [], ap, ◌∙◌}
use Rattle.ccr_layout.proofs.PassedLaws.{named_set, named_other, named_read}
use Rattle.ccr_layout.proofs.span.push_named.Goals as goal

pub returns-in_err-push-clause-others : goal.returns-in_err-push-clause-others
returns-in_err-push-clause-others c = λ t other. named_other c.args.named.now.items c.args.edge.target c.push.new.self t other

pub returns-in_ok-push-clause-pushed : goal.returns-in_ok-push-clause-pushed
returns-in_ok-push-clause-pushed c = λ within.
    named_set c.args.named.now.items c.args.edge.target c.push.new.self within ∙ c.in_ok-push.ensures.items
    ∙ ap (λ xs. xs ++ c.args.edge.source ∷ []) (named_read c.args.named.now.items c.args.edge.target c.index_mut.result.now within c.index_mut.ensures.value)

pub returns-in_ok-push-clause-others : goal.returns-in_ok-push-clause-others
returns-in_ok-push-clause-others c = λ t other. named_other c.args.named.now.items c.args.edge.target c.push.new.self t other
