use Rattle.std.proofs.Common.{rules}
use Rattle.std.specs.Option.{option_copied}
use Rattle.ccr_protocol.specs.Requests.{data_of}
use Rattle.ccr_protocol.proofs.RequestTexts.{request_pieces}
use Rattle.ccr_protocol.proofs.request.request_body.Goals as goal

pub returns : goal.returns
returns c =
    rw (request_pieces (data_of c.args.params) (data_of c.args.source) (option_copied c.args.version))
    (rw (← c.in_ok-params.ensures, ← c.in_ok-source.ensures, ← c.in_ok-version.ensures) (search rules))
