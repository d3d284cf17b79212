use Rattle.std.proofs.Common.{string_bytes}
use Rattle.ccr_check.proofs.Accepting.{accepted_of, right_of}
use Rattle.ccr_check.proofs.judging.judge.Goals as goal

pub returns-clause-accepted : goal.returns-clause-accepted
returns-clause-accepted c = accepted_of (λ x. (string_bytes x.0, x.1)) c.judge_text.result c.args.bytes.now c.judge_text.ensures

pub returns-clause-right : goal.returns-clause-right
returns-clause-right c = right_of (λ x. (string_bytes x.0, x.1)) c.judge_text.result c.args.bytes.now c.judge_text.ensures
