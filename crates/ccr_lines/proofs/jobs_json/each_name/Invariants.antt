use Rattle.std.proofs.Common.{◌≡◌, take, flat_map, string_bytes}
use Rattle.serde_json.specs.Data.{string}
use Rattle.ccr_lines.specs.Json.{after_comma}
use Rattle.ccr_lines.proofs.jobs_json.each_name.Given as goal

abbrev pub invariant-loop-name : goal.invariant-loop-name
invariant-loop-name l =
    l.out.items ≡ flat_map (λ name. after_comma (string (string_bytes name))) (take l.name-index l.names)
