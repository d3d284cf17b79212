use Rattle.std.proofs.Common.{◌∙◌, ap, take}
use Rattle.ccr_history.specs.Names.{texts_of, with_name}
use Rattle.ccr_history.proofs.NameLemmas.{with_name-more}
use Rattle.ccr_history.proofs.names.copy_texts.Goals as goal

pub loop-text-preserved : goal.loop-text-preserved
loop-text-preserved c =
    c.in_ok-add.ensures.added
    ∙ ap (λ l. with_name l c.as_str.result.now) c.loop-text.invariant
    ∙ ap (with_name (texts_of (take c.loop-text.text-index c.args.texts.now))) c.as_str.ensures.value
    ∙ with_name-more c.args.texts.now c.loop-text.text-index c.text-item.result c.requires c.loop-text-test.true c.text-item.is
