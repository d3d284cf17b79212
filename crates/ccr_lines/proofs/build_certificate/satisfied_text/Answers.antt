use Rattle.std.proofs.Common.{◌∙◌, string_bytes}
use Rattle.ccr_resolve.proofs.ClaimFits.{short_claim}
use Rattle.ccr_lines.proofs.Claiming.{satisfied_so}
use Rattle.ccr_lines.proofs.build_certificate.satisfied_text.Goals as goal

pub write_claim-requires : goal.write_claim-requires
write_claim-requires c =
    short_claim c.args.problem.now c.inputs-inputs.ensures.kept
    (record { places = c.args.places.items; builds = c.args.builds.items }) c.requires

pub returns : goal.returns
returns c =
    satisfied_so c.args.problem.now (record { places = c.args.places.items; builds = c.args.builds.items })
    (string_bytes c.push_str.new.self) (string_bytes c.in_ok-text.text) c.as_str.result.now c.inputs-inputs.ensures.kept
    (short_claim c.args.problem.now c.inputs-inputs.ensures.kept
    (record { places = c.args.places.items; builds = c.args.builds.items }) c.requires)
    c.requires c.in_ok-text.ensures.text (c.as_str.ensures.value ∙ c.in_ok-claim.ensures.text) c.in_ok-push_str.ensures.bytes
