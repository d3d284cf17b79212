use Rattle.std.specs.Prelude.{string_bytes}
use Rattle.ccr_page.proofs.LinkLaws.{link_stays}
use Rattle.ccr_page.proofs.build.push_log_link.Goals as goal

pub returns-clause-stays : goal.returns-clause-stays
returns-clause-stays c = link_stays (string_bytes c.args.directory.now) (string_bytes c.args.job.now) c.args.number
