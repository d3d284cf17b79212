use Rattle.std.proofs.Common.{◌≡◌, drop}
use Rattle.ccr_findings.specs.Known.{owner_in}
use Rattle.ccr_findings.proofs.known.owner_in.Given as goal

abbrev pub invariant-loop-schema : goal.invariant-loop-schema
invariant-loop-schema l = owner_in l.schemas l.key ≡ owner_in (drop l.schema-index l.schemas) l.key
