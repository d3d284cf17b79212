use Rattle.ccr_pipeline.proofs.TableNames.{step_names_are}
use Rattle.ccr_findings.proofs.find_step.find_opening.Goals as goal

pub returns-clause-added : goal.returns-clause-added
returns-clause-added c = rw (c.opening.ensures, c.schema_of.ensures, step_names_are) at c.find_rows.ensures.added
