use Rattle.std.proofs.Common.{◌∙◌, string_bytes}
use Rattle.ccr_lines.proofs.Certifying.{accepted_so}
use Rattle.ccr_lines.proofs.certificate.accepted_text.Goals as goal

pub returns : goal.returns
returns c =
    accepted_so c.args.problem.now c.args.proof.now (string_bytes c.push_str.new.self) (string_bytes c.in_ok-text.text)
    c.as_str.result.now c.inputs-inputs.ensures.kept c.in_ok-proof.ensures.kept c.requires c.in_ok-text.ensures.text
    (c.as_str.ensures.value ∙ c.in_ok-proof.ensures.text) c.in_ok-push_str.ensures.bytes
