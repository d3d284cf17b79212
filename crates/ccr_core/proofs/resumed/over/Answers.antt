use Rattle.std.proofs.Common.{map, ap}
use Rattle.ccr_steps.specs.Runs.{run_data}
use Rattle.ccr_core.specs.Cores.{core_data}
use Rattle.ccr_core.specs.Holding.{name_data}
use Rattle.ccr_core.proofs.Piping.{option_kept}
use Rattle.ccr_core.proofs.Reaching.{begun_core}
use Rattle.ccr_core.proofs.resumed.over.Goals as goal

pub returns-in-Ok-indexes_of-clause-core : goal.returns-in-Ok-indexes_of-clause-core
returns-in-Ok-indexes_of-clause-core c =
    begun_core (core_data (record { history = c.args.history; pipeline = c.in-Ok.pipeline; budget = c.args.budget; names = c.new.result; runs = c.new-in-Ok-indexes_of.result; indexes = c.in-Ok-indexes_of.indexes }))
    c.requires.least c.requires.most c.rules.ensures (option_kept c.in-Ok.pipeline) (ap (map name_data) c.new.ensures.items) (ap (map run_data) c.new-in-Ok-indexes_of.ensures.items)
