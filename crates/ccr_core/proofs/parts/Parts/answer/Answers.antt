use Rattle.std.proofs.Common.{◌≡◌, List, ◌<◌, length, map, get_or, slice_set, option_map, sym, ap, ◌∙◌, subst, arith}
use Rattle.ccr_history.specs.Edits.{change_data}
use Rattle.ccr_pipeline.specs.Pipelines.{pipeline_data}
use Rattle.ccr_pipeline.specs.Tree.{Tree}
use Rattle.ccr_steps.specs.Asks.{Chosen, Exchange, answer_data}
use Rattle.ccr_steps.specs.Runs.{run_data, StandsFor}
use Rattle.ccr_core.specs.Cores.{core_data}
use Rattle.ccr_core.specs.Addressed.{answer_to}
use Rattle.ccr_core.specs.Edits.{AreNextEdits}
use Rattle.ccr_core.specs.Going.{named, Waits, CanGoOn, GoesOn, IsRefused}
use Rattle.ccr_core.specs.Holding.{CoreData, name_data, name_index}
use Rattle.ccr_core.proofs.Continuing.{TurnIs, bare, none_there, can_answer, other_turn, not_taken, edits_goes, edits_ends, taken_on, taken_to_end, set_same, set_gone}
use Rattle.ccr_core.proofs.Choosing.{length_map}
use Rattle.ccr_core.proofs.Reaching.{paired}
use Rattle.ccr_core.proofs.parts.Parts.answer.Goals as goal

pub returns-in_default-clause-refused : goal.returns-in_default-clause-refused
returns-in_default-clause-refused c = bare c.args.self.now.history (option_map pipeline_data c.args.self.now.pipeline) c.args.self.now.budget c.args.self.now.names.items c.args.self.now.runs.items (answer_to c.args.job.now c.args.number c.args.turn (answer_data c.args.answered)) c.requires.core (ap (option_map pipeline_data) c.in_default.is)

pub returns-then-k-len-clause-refused : goal.returns-then-k-len-clause-refused
returns-then-k-len-clause-refused c =
    let at : c.index_of-k.result ≡ name_index c.args.job.now c.args.number (map name_data c.args.self.now.names.items) = c.index_of-k.ensures ∙ ap (λ l. name_index c.args.job.now c.args.number (map name_data l)) c.deref.ensures.value in
    none_there c.args.self.now.history (option_map pipeline_data c.args.self.now.pipeline) c.args.self.now.budget c.args.self.now.names.items c.args.self.now.runs.items (answer_to c.args.job.now c.args.number c.args.turn (answer_data c.args.answered)) (omega (arith, at, c.if-k-len.true, c.len.ensures, c.args.self.now.runs.ok))

pub returns-then-names_other-clause-refused : goal.returns-then-names_other-clause-refused
returns-then-names_other-clause-refused c =
    let at : c.index_of-k.result ≡ name_index c.args.job.now c.args.number (map name_data c.args.self.now.names.items) = c.index_of-k.ensures ∙ ap (λ l. name_index c.args.job.now c.args.number (map name_data l)) c.deref.ensures.value in
    let lt : c.index_of-k.result < length c.args.self.now.runs.items = omega (arith, c.if-k-len.false, c.len.ensures, c.args.self.now.runs.ok) in
    let has : TurnIs (run_data (get_or c.args.self.now.runs.items c.index_of-k.result c.index_mut-run.result.now)) c.turn.result = λ plan inputs es st. c.turn.ensures plan inputs es (subst (λ r. StandsFor (run_data r) plan inputs es) (sym c.index_mut-run.ensures.value) st) in
    other_turn c.args.self.now.history (option_map pipeline_data c.args.self.now.pipeline) c.args.self.now.budget c.args.self.now.names.items c.args.self.now.runs.items (answer_to c.args.job.now c.args.number c.args.turn (answer_data c.args.answered)) (pipeline_data c.in-Some.pipeline) (ap (option_map pipeline_data) c.in-Some.is) c.index_of-k.result c.index_mut-run.result.now at lt c.turn.result has (c.names_other.ensures.other c.if-names_other.true)

pub answer_build-requires-clause-can : goal.answer_build-requires-clause-can
answer_build-requires-clause-can c =
    let at : c.index_of-k.result ≡ name_index c.args.job.now c.args.number (map name_data c.args.self.now.names.items) = c.index_of-k.ensures ∙ ap (λ l. name_index c.args.job.now c.args.number (map name_data l)) c.deref.ensures.value in
    let lt : c.index_of-k.result < length c.args.self.now.runs.items = omega (arith, c.if-k-len.false, c.len.ensures, c.args.self.now.runs.ok) in
    subst (λ r. CanGoOn (pipeline_data c.in-Some.pipeline) c.args.self.now.history (run_data r) c.args.job.now c.args.number) (sym c.index_mut-run.ensures.value) (can_answer c.args.self.now.history (option_map pipeline_data c.args.self.now.pipeline) c.args.self.now.budget c.args.self.now.names.items c.args.self.now.runs.items (answer_to c.args.job.now c.args.number c.args.turn (answer_data c.args.answered)) (pipeline_data c.in-Some.pipeline) (ap (option_map pipeline_data) c.in-Some.is) c.index_of-k.result c.index_mut-run.result.now at lt c.requires.core)

pub remove-name-requires : goal.remove-name-requires
remove-name-requires c =
    let lt : c.index_of-k.result < length c.args.self.now.runs.items = omega (arith, c.if-k-len.false, c.len.ensures, c.args.self.now.runs.ok) in
    let same = paired (core_data c.args.self.now) c.requires.core in
    let runs = length_map run_data c.args.self.now.runs.items in
    let names = length_map name_data c.args.self.now.names.items in
    omega (arith, lt, same, runs, names, c.args.self.now.names.ok)

pub returns-in-Some-outcome-clause-step : goal.returns-in-Some-outcome-clause-step
returns-in-Some-outcome-clause-step c =
    let at : c.index_of-k.result ≡ name_index c.args.job.now c.args.number (map name_data c.args.self.now.names.items) = c.index_of-k.ensures ∙ ap (λ l. name_index c.args.job.now c.args.number (map name_data l)) c.deref.ensures.value in
    let lt : c.index_of-k.result < length c.args.self.now.runs.items = omega (arith, c.if-k-len.false, c.len.ensures, c.args.self.now.runs.ok) in
    let has : TurnIs (run_data (get_or c.args.self.now.runs.items c.index_of-k.result c.index_mut-run.result.now)) c.turn.result = λ plan inputs es st. c.turn.ensures plan inputs es (subst (λ r. StandsFor (run_data r) plan inputs es) (sym c.index_mut-run.ensures.value) st) in
    let on = subst (λ o. GoesOn (pipeline_data c.in-Some.pipeline) c.args.self.now.history (run_data (get_or c.args.self.now.runs.items c.index_of-k.result c.index_mut-run.result.now)) c.args.job.now c.args.number (answer_data c.args.answered) o c.answer_build.new.history (run_data c.answer_build.new.run)) c.in-Some-outcome.is (subst (λ r. GoesOn (pipeline_data c.in-Some.pipeline) c.args.self.now.history (run_data r) c.args.job.now c.args.number (answer_data c.args.answered) c.in-Ok.outcome c.answer_build.new.history (run_data c.answer_build.new.run)) c.index_mut-run.ensures.value c.in-Ok.ensures.on) in
    taken_to_end c.args.self.now.history (option_map pipeline_data c.args.self.now.pipeline) c.args.self.now.budget c.args.self.now.names.items c.args.self.now.runs.items (answer_to c.args.job.now c.args.number c.args.turn (answer_data c.args.answered)) (pipeline_data c.in-Some.pipeline) (ap (option_map pipeline_data) c.in-Some.is) c.index_of-k.result c.index_mut-run.result.now at lt c.turn.result has (c.names_other.ensures.own c.if-names_other.false) c.answer_build.new.history c.answer_build.new.run c.in-Some-outcome.outcome c.remove-name.new.self.items c.remove-run.new.self.items c.remove-name.ensures.items (c.remove-run.ensures.items ∙ set_gone c.args.self.now.runs.items c.index_of-k.result c.answer_build.new.run) on

pub returns-in-None-clause-step : goal.returns-in-None-clause-step
returns-in-None-clause-step c =
    let at : c.index_of-k.result ≡ name_index c.args.job.now c.args.number (map name_data c.args.self.now.names.items) = c.index_of-k.ensures ∙ ap (λ l. name_index c.args.job.now c.args.number (map name_data l)) c.deref.ensures.value in
    let lt : c.index_of-k.result < length c.args.self.now.runs.items = omega (arith, c.if-k-len.false, c.len.ensures, c.args.self.now.runs.ok) in
    let has : TurnIs (run_data (get_or c.args.self.now.runs.items c.index_of-k.result c.index_mut-run.result.now)) c.turn.result = λ plan inputs es st. c.turn.ensures plan inputs es (subst (λ r. StandsFor (run_data r) plan inputs es) (sym c.index_mut-run.ensures.value) st) in
    let on = subst (λ o. GoesOn (pipeline_data c.in-Some.pipeline) c.args.self.now.history (run_data (get_or c.args.self.now.runs.items c.index_of-k.result c.index_mut-run.result.now)) c.args.job.now c.args.number (answer_data c.args.answered) o c.answer_build.new.history (run_data c.answer_build.new.run)) c.in-None.is (subst (λ r. GoesOn (pipeline_data c.in-Some.pipeline) c.args.self.now.history (run_data r) c.args.job.now c.args.number (answer_data c.args.answered) c.in-Ok.outcome c.answer_build.new.history (run_data c.answer_build.new.run)) c.index_mut-run.ensures.value c.in-Ok.ensures.on) in
    taken_on c.args.self.now.history (option_map pipeline_data c.args.self.now.pipeline) c.args.self.now.budget c.args.self.now.names.items c.args.self.now.runs.items (answer_to c.args.job.now c.args.number c.args.turn (answer_data c.args.answered)) (pipeline_data c.in-Some.pipeline) (ap (option_map pipeline_data) c.in-Some.is) c.index_of-k.result c.index_mut-run.result.now at lt c.turn.result has (c.names_other.ensures.own c.if-names_other.false) c.answer_build.new.history c.answer_build.new.run on

pub returns-in-Err-clause-refused : goal.returns-in-Err-clause-refused
returns-in-Err-clause-refused c =
    let at : c.index_of-k.result ≡ name_index c.args.job.now c.args.number (map name_data c.args.self.now.names.items) = c.index_of-k.ensures ∙ ap (λ l. name_index c.args.job.now c.args.number (map name_data l)) c.deref.ensures.value in
    let lt : c.index_of-k.result < length c.args.self.now.runs.items = omega (arith, c.if-k-len.false, c.len.ensures, c.args.self.now.runs.ok) in
    let has : TurnIs (run_data (get_or c.args.self.now.runs.items c.index_of-k.result c.index_mut-run.result.now)) c.turn.result = λ plan inputs es st. c.turn.ensures plan inputs es (subst (λ r. StandsFor (run_data r) plan inputs es) (sym c.index_mut-run.ensures.value) st) in
    not_taken c.args.self.now.history (option_map pipeline_data c.args.self.now.pipeline) c.args.self.now.budget c.args.self.now.names.items c.args.self.now.runs.items (answer_to c.args.job.now c.args.number c.args.turn (answer_data c.args.answered)) (pipeline_data c.in-Some.pipeline) (ap (option_map pipeline_data) c.in-Some.is) c.index_of-k.result c.index_mut-run.result.now at lt c.turn.result has (c.names_other.ensures.own c.if-names_other.false) c.in-Err.fault (subst (λ r. IsRefused (pipeline_data c.in-Some.pipeline) c.args.self.now.history (run_data r) (answer_data c.args.answered) c.in-Err.fault) c.index_mut-run.ensures.value c.in-Err.ensures.refused)

pub returns-in-Err-clause-unchanged : goal.returns-in-Err-clause-unchanged
returns-in-Err-clause-unchanged c =
    let machines : CoreData = core_data c.args.self.now in
    ap (λ h. record { history = h; pipeline = machines.pipeline; budget = machines.budget; names = machines.names; runs = map run_data (slice_set c.args.self.now.runs.items c.index_of-k.result c.answer_build.new.run) }) c.in-Err.ensures.history
    ∙ ap (λ l. record { history = machines.history; pipeline = machines.pipeline; budget = machines.budget; names = machines.names; runs = l }) (set_same c.args.self.now.runs.items c.index_of-k.result c.index_mut-run.result.now c.answer_build.new.run (c.in-Err.ensures.run ∙ ap run_data c.index_mut-run.ensures.value))

pub returns-in-Some-outcome-clause-edits : goal.returns-in-Some-outcome-clause-edits
returns-in-Some-outcome-clause-edits c =
    let at : c.index_of-k.result ≡ name_index c.args.job.now c.args.number (map name_data c.args.self.now.names.items) = c.index_of-k.ensures ∙ ap (λ l. name_index c.args.job.now c.args.number (map name_data l)) c.deref.ensures.value in
    let lt : c.index_of-k.result < length c.args.self.now.runs.items = omega (arith, c.if-k-len.false, c.len.ensures, c.args.self.now.runs.ok) in
    let are = subst (λ r. (plan : Tree) (inputs : Chosen) (es : List Exchange) → Waits (run_data r) plan inputs es → AreNextEdits (pipeline_data c.in-Some.pipeline) c.args.self.now.history (named c.args.job.now c.args.number plan inputs es) (answer_data c.args.answered) c.in-Ok.outcome (change_data c.in-Ok.edits.items)) c.index_mut-run.ensures.value c.in-Ok.ensures.edits in
    edits_ends c.args.self.now.history (option_map pipeline_data c.args.self.now.pipeline) c.args.self.now.budget c.args.self.now.names.items c.args.self.now.runs.items (answer_to c.args.job.now c.args.number c.args.turn (answer_data c.args.answered)) (pipeline_data c.in-Some.pipeline) (ap (option_map pipeline_data) c.in-Some.is) c.index_of-k.result c.index_mut-run.result.now at lt c.in-Ok.outcome (change_data c.in-Ok.edits.items) are c.in-Some-outcome.outcome c.in-Some-outcome.is

pub returns-in-None-clause-edits : goal.returns-in-None-clause-edits
returns-in-None-clause-edits c =
    let at : c.index_of-k.result ≡ name_index c.args.job.now c.args.number (map name_data c.args.self.now.names.items) = c.index_of-k.ensures ∙ ap (λ l. name_index c.args.job.now c.args.number (map name_data l)) c.deref.ensures.value in
    let lt : c.index_of-k.result < length c.args.self.now.runs.items = omega (arith, c.if-k-len.false, c.len.ensures, c.args.self.now.runs.ok) in
    let are = subst (λ r. (plan : Tree) (inputs : Chosen) (es : List Exchange) → Waits (run_data r) plan inputs es → AreNextEdits (pipeline_data c.in-Some.pipeline) c.args.self.now.history (named c.args.job.now c.args.number plan inputs es) (answer_data c.args.answered) c.in-Ok.outcome (change_data c.in-Ok.edits.items)) c.index_mut-run.ensures.value c.in-Ok.ensures.edits in
    edits_goes c.args.self.now.history (option_map pipeline_data c.args.self.now.pipeline) c.args.self.now.budget c.args.self.now.names.items c.args.self.now.runs.items (answer_to c.args.job.now c.args.number c.args.turn (answer_data c.args.answered)) (pipeline_data c.in-Some.pipeline) (ap (option_map pipeline_data) c.in-Some.is) c.index_of-k.result c.index_mut-run.result.now at lt c.in-Ok.outcome (change_data c.in-Ok.edits.items) are c.in-None.is
