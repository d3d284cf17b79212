use Rattle.std.proofs.Common.{map, option_map, sym, ap, ◌∙◌, subst, arith}
use Rattle.ccr_history.specs.Edits.{change_data}
use Rattle.ccr_pipeline.specs.JobData.{job_data}
use Rattle.ccr_pipeline.specs.Pipelines.{pipeline_data}
use Rattle.ccr_steps.specs.Runs.{run_data}
use Rattle.ccr_core.specs.declared.pick.Picked.TheVariants as pick
use Rattle.ccr_core.specs.Cores.{core_data}
use Rattle.ccr_core.specs.Edits.{AreBuildEdits}
use Rattle.ccr_core.specs.Going.{CanMake}
use Rattle.ccr_core.specs.Holding.{name_data}
use Rattle.ccr_core.specs.Opening.{IsOpened}
use Rattle.ccr_core.specs.Picking.{IsPicked}
use Rattle.ccr_core.proofs.Choosing.{length_map}
use Rattle.ccr_core.proofs.Opening.{no_room, ends_so, picks, busy, none_satisfies, over_budget, not_new, can, made, made_edits}
use Rattle.ccr_core.proofs.Owning.{job_at}
use Rattle.ccr_core.proofs.parts.Parts.make.Goals as goal

pub returns-in_err-check_room-clause-refused : goal.returns-in_err-check_room-clause-refused
returns-in_err-check_room-clause-refused c =
    ends_so _ c.from_residual.result _ c.from_residual.ensures.1 (no_room (core_data c.args.self.now) c.args.by_command c.args.job.now (pipeline_data c.in-Some.pipeline) (ap (option_map pipeline_data) c.in-Some.is) (job_data c.in-Some-job.found.now) (sym c.in-Some-job.ensures) c.len.result _ (let names = length_map name_data c.args.self.now.names.items in omega (arith, names, c.len.ensures, c.args.self.now.names.ok)) c.in_err-check_room.ensures.lacks)

pub pick-requires-clause-there : goal.pick-requires-clause-there
pick-requires-clause-there c =
    job_at c.args.job.now (pipeline_data c.in-Some.pipeline).jobs (job_data c.in-Some-job.found.now) (sym c.in-Some-job.ensures)

pub returns-in-Busy-clause-step : goal.returns-in-Busy-clause-step
returns-in-Busy-clause-step c =
    busy (core_data c.args.self.now) c.args.by_command c.args.job.now (pipeline_data c.in-Some.pipeline) (ap (option_map pipeline_data) c.in-Some.is) (job_data c.in-Some-job.found.now) (sym c.in-Some-job.ensures) (let names = length_map name_data c.args.self.now.names.items in let room = c.in_ok-check_room.ensures.has.0 in omega (arith, names, room, c.len.ensures, c.args.self.now.names.ok)) c.in_ok-check_room.ensures.has.1 (subst (IsPicked (pipeline_data c.in-Some.pipeline) c.args.self.now.history c.args.self.now.budget (map name_data c.args.self.now.names.items) (job_data c.in-Some-job.found.now) c.args.by_command) c.in-Busy.is (subst (λ l. IsPicked (pipeline_data c.in-Some.pipeline) c.args.self.now.history c.args.self.now.budget (map name_data l) (job_data c.in-Some-job.found.now) c.args.by_command c.in-Ok.pick) c.deref.ensures.value c.in-Ok.ensures))

pub returns-in-NoneSatisfies-clause-step : goal.returns-in-NoneSatisfies-clause-step
returns-in-NoneSatisfies-clause-step c =
    none_satisfies (core_data c.args.self.now) c.args.by_command c.args.job.now (pipeline_data c.in-Some.pipeline) (ap (option_map pipeline_data) c.in-Some.is) (job_data c.in-Some-job.found.now) (sym c.in-Some-job.ensures) (let names = length_map name_data c.args.self.now.names.items in let room = c.in_ok-check_room.ensures.has.0 in omega (arith, names, room, c.len.ensures, c.args.self.now.names.ok)) c.in_ok-check_room.ensures.has.1 (subst (IsPicked (pipeline_data c.in-Some.pipeline) c.args.self.now.history c.args.self.now.budget (map name_data c.args.self.now.names.items) (job_data c.in-Some-job.found.now) c.args.by_command) c.in-NoneSatisfies.is (subst (λ l. IsPicked (pipeline_data c.in-Some.pipeline) c.args.self.now.history c.args.self.now.budget (map name_data l) (job_data c.in-Some-job.found.now) c.args.by_command c.in-Ok.pick) c.deref.ensures.value c.in-Ok.ensures))

pub returns-in-OverBudget-clause-step : goal.returns-in-OverBudget-clause-step
returns-in-OverBudget-clause-step c =
    over_budget (core_data c.args.self.now) c.args.by_command c.args.job.now (pipeline_data c.in-Some.pipeline) (ap (option_map pipeline_data) c.in-Some.is) (job_data c.in-Some-job.found.now) (sym c.in-Some-job.ensures) (let names = length_map name_data c.args.self.now.names.items in let room = c.in_ok-check_room.ensures.has.0 in omega (arith, names, room, c.len.ensures, c.args.self.now.names.ok)) c.in_ok-check_room.ensures.has.1 c.in-OverBudget.budget (subst (IsPicked (pipeline_data c.in-Some.pipeline) c.args.self.now.history c.args.self.now.budget (map name_data c.args.self.now.names.items) (job_data c.in-Some-job.found.now) c.args.by_command) c.in-OverBudget.is (subst (λ l. IsPicked (pipeline_data c.in-Some.pipeline) c.args.self.now.history c.args.self.now.budget (map name_data l) (job_data c.in-Some-job.found.now) c.args.by_command c.in-Ok.pick) c.deref.ensures.value c.in-Ok.ensures))

pub returns-in-NotNew-clause-step : goal.returns-in-NotNew-clause-step
returns-in-NotNew-clause-step c =
    not_new (core_data c.args.self.now) c.args.by_command c.args.job.now (pipeline_data c.in-Some.pipeline) (ap (option_map pipeline_data) c.in-Some.is) (job_data c.in-Some-job.found.now) (sym c.in-Some-job.ensures) (let names = length_map name_data c.args.self.now.names.items in let room = c.in_ok-check_room.ensures.has.0 in omega (arith, names, room, c.len.ensures, c.args.self.now.names.ok)) c.in_ok-check_room.ensures.has.1 (subst (IsPicked (pipeline_data c.in-Some.pipeline) c.args.self.now.history c.args.self.now.budget (map name_data c.args.self.now.names.items) (job_data c.in-Some-job.found.now) c.args.by_command) c.in-NotNew.is (subst (λ l. IsPicked (pipeline_data c.in-Some.pipeline) c.args.self.now.history c.args.self.now.budget (map name_data l) (job_data c.in-Some-job.found.now) c.args.by_command c.in-Ok.pick) c.deref.ensures.value c.in-Ok.ensures))

pub open_build-requires-clause-can : goal.open_build-requires-clause-can
open_build-requires-clause-can c =
    subst (CanMake (pipeline_data c.in-Some.pipeline) c.args.self.now.history (job_data c.in-Some-job.found.now)) (sym c.deref-in-Best.ensures.value) (can (core_data c.args.self.now) c.args.by_command c.args.job.now (pipeline_data c.in-Some.pipeline) (ap (option_map pipeline_data) c.in-Some.is) (job_data c.in-Some-job.found.now) (sym c.in-Some-job.ensures) (let names = length_map name_data c.args.self.now.names.items in let room = c.in_ok-check_room.ensures.has.0 in omega (arith, names, room, c.len.ensures, c.args.self.now.names.ok)) c.in_ok-check_room.ensures.has.1 c.in-Best.places.items (picks (core_data c.args.self.now) c.args.by_command c.args.job.now (pipeline_data c.in-Some.pipeline) (ap (option_map pipeline_data) c.in-Some.is) (job_data c.in-Some-job.found.now) (sym c.in-Some-job.ensures) (let names = length_map name_data c.args.self.now.names.items in let room = c.in_ok-check_room.ensures.has.0 in omega (arith, names, room, c.len.ensures, c.args.self.now.names.ok)) c.in_ok-check_room.ensures.has.1 (pick.Best c.in-Best.places) (subst (IsPicked (pipeline_data c.in-Some.pipeline) c.args.self.now.history c.args.self.now.budget (map name_data c.args.self.now.names.items) (job_data c.in-Some-job.found.now) c.args.by_command) c.in-Best.is (subst (λ l. IsPicked (pipeline_data c.in-Some.pipeline) c.args.self.now.history c.args.self.now.budget (map name_data l) (job_data c.in-Some-job.found.now) c.args.by_command c.in-Ok.pick) c.deref.ensures.value c.in-Ok.ensures))) c.requires.core)

pub returns-in-Ok-open_build-clause-step : goal.returns-in-Ok-open_build-clause-step
returns-in-Ok-open_build-clause-step c =
    made (core_data c.args.self.now) c.args.by_command c.args.job.now (pipeline_data c.in-Some.pipeline) (ap (option_map pipeline_data) c.in-Some.is) (job_data c.in-Some-job.found.now) (sym c.in-Some-job.ensures) (let names = length_map name_data c.args.self.now.names.items in let room = c.in_ok-check_room.ensures.has.0 in omega (arith, names, room, c.len.ensures, c.args.self.now.names.ok)) c.in_ok-check_room.ensures.has.1 c.in-Best.places.items (picks (core_data c.args.self.now) c.args.by_command c.args.job.now (pipeline_data c.in-Some.pipeline) (ap (option_map pipeline_data) c.in-Some.is) (job_data c.in-Some-job.found.now) (sym c.in-Some-job.ensures) (let names = length_map name_data c.args.self.now.names.items in let room = c.in_ok-check_room.ensures.has.0 in omega (arith, names, room, c.len.ensures, c.args.self.now.names.ok)) c.in_ok-check_room.ensures.has.1 (pick.Best c.in-Best.places) (subst (IsPicked (pipeline_data c.in-Some.pipeline) c.args.self.now.history c.args.self.now.budget (map name_data c.args.self.now.names.items) (job_data c.in-Some-job.found.now) c.args.by_command) c.in-Best.is (subst (λ l. IsPicked (pipeline_data c.in-Some.pipeline) c.args.self.now.history c.args.self.now.budget (map name_data l) (job_data c.in-Some-job.found.now) c.args.by_command c.in-Ok.pick) c.deref.ensures.value c.in-Ok.ensures))) c.in-Ok-open_build.number c.open_build.new.history (map name_data c.open_build.new.names.items) (map run_data c.open_build.new.runs.items) (subst (λ l. IsOpened (pipeline_data c.in-Some.pipeline) c.args.self.now.history (job_data c.in-Some-job.found.now) l c.in-Ok-open_build.number c.open_build.new.history (map name_data c.args.self.now.names.items) (map name_data c.open_build.new.names.items) (map run_data c.args.self.now.runs.items) (map run_data c.open_build.new.runs.items)) c.deref-in-Best.ensures.value c.in-Ok-open_build.ensures.opened)

pub returns-in-Ok-open_build-clause-edits : goal.returns-in-Ok-open_build-clause-edits
returns-in-Ok-open_build-clause-edits c =
    made_edits (core_data c.args.self.now) c.args.by_command c.args.job.now (pipeline_data c.in-Some.pipeline) (ap (option_map pipeline_data) c.in-Some.is) (job_data c.in-Some-job.found.now) (sym c.in-Some-job.ensures) (let names = length_map name_data c.args.self.now.names.items in let room = c.in_ok-check_room.ensures.has.0 in omega (arith, names, room, c.len.ensures, c.args.self.now.names.ok)) c.in_ok-check_room.ensures.has.1 c.in-Best.places.items (picks (core_data c.args.self.now) c.args.by_command c.args.job.now (pipeline_data c.in-Some.pipeline) (ap (option_map pipeline_data) c.in-Some.is) (job_data c.in-Some-job.found.now) (sym c.in-Some-job.ensures) (let names = length_map name_data c.args.self.now.names.items in let room = c.in_ok-check_room.ensures.has.0 in omega (arith, names, room, c.len.ensures, c.args.self.now.names.ok)) c.in_ok-check_room.ensures.has.1 (pick.Best c.in-Best.places) (subst (IsPicked (pipeline_data c.in-Some.pipeline) c.args.self.now.history c.args.self.now.budget (map name_data c.args.self.now.names.items) (job_data c.in-Some-job.found.now) c.args.by_command) c.in-Best.is (subst (λ l. IsPicked (pipeline_data c.in-Some.pipeline) c.args.self.now.history c.args.self.now.budget (map name_data l) (job_data c.in-Some-job.found.now) c.args.by_command c.in-Ok.pick) c.deref.ensures.value c.in-Ok.ensures))) c.in-Ok-open_build.number (change_data c.in-Ok-open_build.change.items)
    (subst (λ l. AreBuildEdits (pipeline_data c.in-Some.pipeline) c.args.self.now.history (job_data c.in-Some-job.found.now) l (change_data c.in-Ok-open_build.change.items)) c.deref-in-Best.ensures.value c.in-Ok-open_build.ensures.edits)
