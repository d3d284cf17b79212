use Rattle.std.proofs.Common.{◌≡◌, take, flat_map, string_bytes}
use Rattle.ccr_run.specs.Found.{finding_line}
use Rattle.ccr_run.proofs.found.text_of.Given as goal

abbrev pub invariant-loop-finding : goal.invariant-loop-finding
invariant-loop-finding l = string_bytes l.text ≡ flat_map (λ f. finding_line f) (take l.finding-index l.findings)
