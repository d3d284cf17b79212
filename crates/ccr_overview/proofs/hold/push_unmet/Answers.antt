use Rattle.std.proofs.Common.{sym, ap, option_map}
use Rattle.ccr_overview.specs.Holds.{refused, unmet_words}
use Rattle.ccr_overview.proofs.Clashing.{two_added}
use Rattle.ccr_overview.proofs.hold.push_unmet.Goals as goal

pub returns-in_ok-push_behind-in-Some : goal.returns-in_ok-push_behind-in-Some
returns-in_ok-push_behind-in-Some c =
    let r = c.args.refusal.now in
    two_added c.push_text.result _ _ _ _ _ (unmet_words (refused r) r.words (option_map (λ d. d.now) c.args.demands))
    c.in_ok-push_behind-in-Some.ensures c.push_text.ensures
    (sym (ap (λ o. unmet_words (refused r) r.words (option_map (λ d. d.now) o)) c.in-Some.is))
