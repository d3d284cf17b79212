use Rattle.ccr_play.proofs.histories.taken_back.Goals as goal

pub take_back-requires : goal.take_back-requires
take_back-requires c =
    (c.args.history.now, c.rules.ensures, c.in_ok-report.ensures.numbered, c.in_ok-report.ensures.edit)
