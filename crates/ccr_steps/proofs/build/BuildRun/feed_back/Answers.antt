use Rattle.std.proofs.Common.{◌≡◌, Err, ap}
use Rattle.ccr_steps.specs.Asks.{answer_data}
use Rattle.ccr_steps.specs.Runs.{run_data}
use Rattle.ccr_steps.specs.declared.fault.FeedFault.TheVariants.{NothingAsked}
use Rattle.ccr_steps.proofs.Standing.{stands_nothing, feeds}
use Rattle.ccr_steps.proofs.build.BuildRun.feed_back.Goals as goal

pub returns-in-Ok-clause-fed : goal.returns-in-Ok-clause-fed
returns-in-Ok-clause-fed c = λ plan inputs es s. feeds (run_data c.args.self.now) (run_data c.take.new.self) (answer_data c.args.answer) c.in-Ok.ensures.taken plan inputs es s

pub returns-in-Ok-clause-nothing : goal.returns-in-Ok-clause-nothing
returns-in-Ok-clause-nothing c = λ plan inputs es s.
    let w = stands_nothing (run_data c.args.self.now) plan inputs es c.in-Ok.ensures.nothing s in
    (λ h. absurd (cc h), λ a. absurd (cc (w.1 a)))

pub returns-in-Err-clause-nothing : goal.returns-in-Err-clause-nothing
returns-in-Err-clause-nothing c = λ plan inputs es s.
    let w = stands_nothing (run_data c.args.self.now) plan inputs es c.in-Err.ensures.nothing s in
    (λ h. let same : c.in-Err.fault ≡ NothingAsked = cc h in w.0 (ap (λ f. Err f) same), λ a. let same : c.in-Err.fault ≡ NothingAsked = cc (w.1 a) in ap (λ f. Err f) same)
