use Rattle.std.proofs.Common.{◌≡◌, take, flat_map}
use Rattle.ccr_lines.specs.Json.{after_comma}
use Rattle.ccr_lines.specs.JobsJson.{build_json}
use Rattle.ccr_lines.proofs.builds.each_build.Given as goal

abbrev pub invariant-loop-build : goal.invariant-loop-build
invariant-loop-build l = l.out.items ≡ flat_map (λ b. after_comma (build_json b)) (take l.build-index l.builds)
