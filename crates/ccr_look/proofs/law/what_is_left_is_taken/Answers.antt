use Rattle.std.proofs.Math.Logic.{∥∥₁_map}
use Rattle.ccr_look.specs.Left.{files_now}
use Rattle.ccr_look.proofs.Left.{clean_of, holds_what_is_left}
use Rattle.ccr_look.proofs.Taken.{holds_one}
use Rattle.ccr_look.proofs.law.what_is_left_is_taken.Goals as goal

pub returns-clause-killed : goal.returns-clause-killed
returns-clause-killed g c tally hs rules leaves clean sound image left =
    ∥∥₁_map (holds_what_is_left c.args.conn.now.store (clean_of _ clean) sound image left)
    (λ held. let it = leaves clean held.0 held.1 in holds_one hs rules image held.0 held.2 it.1 it.0)

-- what is read of a file may stay of it
pub returns-clause-ended : goal.returns-clause-ended
returns-clause-ended g c tally hs rules leaves clean sound =
    let stays = g.met.D.Disk.seen_may_stay in
    let now = files_now c.args.conn.now.store in
    returns-clause-killed g c tally hs rules leaves clean sound now (now, (stays _, stays _), λ pages found. found)
