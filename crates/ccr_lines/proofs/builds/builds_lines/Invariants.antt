use Rattle.std.proofs.Common.{◌≡◌, take, flat_map, string_bytes}
use Rattle.ccr_lines.specs.Lines.{build_line, status_word}
use Rattle.ccr_lines.proofs.builds.builds_lines.Given as goal

abbrev pub invariant-loop-build : goal.invariant-loop-build
invariant-loop-build l =
    string_bytes l.text
    ≡ flat_map (λ b. build_line b.job b.number (status_word b.status)) (take l.build-index l.builds)
