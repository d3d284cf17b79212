use Rattle.std.proofs.Common.{◌≡◌, ◌++◌, map, drop, flat_map, string_bytes}
use Rattle.ccr_lines.specs.Releases.{together_data, witness_line}
use Rattle.ccr_lines.proofs.release.push_witnesses.Given as goal

abbrev pub invariant-loop-it : goal.invariant-loop-it
invariant-loop-it l =
    string_bytes l.text ++ flat_map (λ t. witness_line t.job t.number) (map together_data (drop l.it-index l.together))
    ≡ string_bytes l.fn.text ++ flat_map (λ t. witness_line t.job t.number) (map together_data l.together)
