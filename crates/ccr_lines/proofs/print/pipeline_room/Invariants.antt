use Rattle.std.proofs.Common.{◌≡◌, ◌+◌, length, take, map, string_bytes}
use Rattle.std.specs.List.{sum_by}
use Rattle.ccr_pipeline.specs.Pipelines.{pipeline_data}
use Rattle.ccr_lines.proofs.print.pipeline_room.Given as goal

abbrev pub invariant-loop-path : goal.invariant-loop-path
invariant-loop-path l = record {
  paths : map string_bytes l.path-items ≡ (pipeline_data l.fn.pipeline).unused;
  room : l.room ≡ sum_by (λ path. length (string_bytes path) + 8) (take l.path-index l.path-items) + 80;
}
