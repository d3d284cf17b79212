use Rattle.std.proofs.Common.{◌≡◌, ◌++◌, take, flat_map, string_bytes}
use Rattle.ccr_lines.specs.Releases.{moved_line}
use Rattle.ccr_lines.proofs.release.push_moved.Given as goal

abbrev pub invariant-loop-scope : goal.invariant-loop-scope
invariant-loop-scope l =
    string_bytes l.text
    ≡ string_bytes l.fn.text ++ flat_map (λ q. moved_line l.history.tables q) (take l.scope-index l.moved)
