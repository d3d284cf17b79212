use Rattle.sqlite.specs.Files.{over_files}
use Rattle.ccr_look.proofs.Left.{what_is_left}
use Rattle.ccr_look.proofs.law.a_look_finds_what_is_left.Goals as goal

pub returns : goal.returns
returns g c image found it = what_is_left over_files c.args.conn.now image found it
