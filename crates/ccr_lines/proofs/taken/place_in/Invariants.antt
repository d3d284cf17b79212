use Rattle.std.proofs.Common.{◌≡◌, drop}
use Rattle.ccr_lines.specs.BuildCertificates.{is_taken}
use Rattle.ccr_lines.proofs.Taking.{place_of}
use Rattle.ccr_lines.proofs.taken.place_in.Given as goal

abbrev pub invariant-loop-k : goal.invariant-loop-k
invariant-loop-k l =
    place_of (is_taken l.input l.scope) (drop l.k l.build.used) ≡ place_of (is_taken l.input l.scope) l.build.used
