use Rattle.ccr_overview.proofs.scene.few_members.Goals as goal

pub returns-clause-resources : goal.returns-clause-resources
returns-clause-resources c = c.args._pipeline.now.few_resources

pub returns-clause-jobs : goal.returns-clause-jobs
returns-clause-jobs c = c.args._pipeline.now.few_jobs
