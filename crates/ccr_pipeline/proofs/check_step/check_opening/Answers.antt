use Rattle.ccr_pipeline.proofs.TableNames.{step_names_are}
use Rattle.ccr_pipeline.proofs.check_step.check_opening.Goals as goal

pub returns-clause-added : goal.returns-clause-added
returns-clause-added c = rw (c.opening.ensures, c.schema_of.ensures, step_names_are) at c.check_rows.ensures.added
