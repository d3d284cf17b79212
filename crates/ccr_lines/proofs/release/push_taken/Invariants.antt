use Rattle.std.proofs.Common.{◌≡◌, ◌++◌, take, flat_map, string_bytes}
use Rattle.ccr_lines.specs.Releases.{took_line}
use Rattle.ccr_lines.proofs.release.push_taken.Given as goal

abbrev pub invariant-loop-k : goal.invariant-loop-k
invariant-loop-k l =
    string_bytes l.text
    ≡ string_bytes l.fn.text ++ flat_map (λ u. took_line l.history.tables u) (take l.k l.build.used)
