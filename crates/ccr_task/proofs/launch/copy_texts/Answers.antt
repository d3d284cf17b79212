use Rattle.std.proofs.Common.{string_bytes}
use Rattle.ccr_process.proofs.Copies.{map_same}
use Rattle.ccr_task.proofs.launch.copy_texts.Goals as goal

pub returns : goal.returns
returns c = map_same string_bytes _ (λ x y e. e) c.args.texts.now.items c.in_ok-copied.copied.items c.in_ok-copied.ensures.cases.0
