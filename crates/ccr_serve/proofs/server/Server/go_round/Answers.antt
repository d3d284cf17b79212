use Rattle.std.proofs.Common.{◌∙◌, map, length, replicate, string_bytes, sym, ap}
use Rattle.std.proofs.lemmas.List.{length-map}
use Rattle.ccr_core.specs.Cores.{core_data}
use Rattle.ccr_core.specs.Holding.{name_data}
use Rattle.ccr_task.specs.Places.{places_data}
use Rattle.ccr_serve.specs.Items.{check, schedule, turn}
use Rattle.ccr_serve.specs.Serving.{Serves, ItemsOf}
use Rattle.ccr_serve.specs.Views.{resources_held, jobs_held}
use Rattle.ccr_serve.proofs.Composing.{calls_back}
use Rattle.ccr_serve.proofs.RoundParts.{map_named, round_cut, round_cut_in_checks, first_part, round_done}
use Rattle.ccr_serve.proofs.Rounds.{names_there, moved}
use Rattle.ccr_serve.proofs.server.Server.go_round.Goals as goal

pub returns-in_default-clause-served : goal.returns-in_default-clause-served
returns-in_default-clause-served g c =
    round_cut (places_data c.args.self.now.places)
    (calls_back (Serves (places_data c.args.self.now.places)) _ c.requires.ready)

pub check_each-requires-clause-there : goal.check_each-requires-clause-there
check_each-requires-clause-there g c =
    names_there c.deref.result.now (resources_held (core_data c.args.self.now.core))
    (ap (map string_bytes) c.deref.ensures.value ∙ c.in-Ok.ensures.resources)

pub returns-in-Err-clause-served : goal.returns-in-Err-clause-served
returns-in-Err-clause-served g c =
    round_cut_in_checks (places_data c.args.self.now.places)
    (map (λ name. check (string_bytes name)) c.deref.result.now)
    (map_named check (λ r. r.name) c.deref.result.now (resources_held (core_data c.args.self.now.core))
    (ap (map string_bytes) c.deref.ensures.value ∙ c.in-Ok.ensures.resources)) c.in-Err.ensures.served

pub returns-in-Err-schedule_each-clause-served : goal.returns-in-Err-schedule_each-clause-served
returns-in-Err-schedule_each-clause-served g c =
    let schedules = map (λ name. schedule (string_bytes name)) c.deref-2.result.now in
    round_cut (places_data c.args.self.now.places)
    (first_part (places_data c.args.self.now.places) (map (λ name. check (string_bytes name)) c.deref.result.now)
    schedules (map_named check (λ r. r.name) c.deref.result.now (resources_held (core_data c.args.self.now.core))
    (ap (map string_bytes) c.deref.ensures.value ∙ c.in-Ok.ensures.resources))
    (map_named schedule (λ j. j.name) c.deref-2.result.now (jobs_held (core_data c.args.self.now.core))
    (ap (map string_bytes) c.deref-2.ensures.value ∙ c.in-Ok.ensures.jobs)) c.in-Ok-check_each.ensures.served
    (moved (ItemsOf schedules) c.in-Ok-check_each.ensures.after.places c.in-Err-schedule_each.ensures.served))

pub returns-clause-served : goal.returns-clause-served
returns-clause-served g c =
    let schedules = map (λ name. schedule (string_bytes name)) c.deref-2.result.now in
    let count = length c.running-count.result.now in
    round_done (places_data c.args.self.now.places) count
    (sym (length-map c.running-count.result.now name_data) ∙ ap length c.running-count.ensures.names)
    (first_part (places_data c.args.self.now.places) (map (λ name. check (string_bytes name)) c.deref.result.now)
    schedules (map_named check (λ r. r.name) c.deref.result.now (resources_held (core_data c.args.self.now.core))
    (ap (map string_bytes) c.deref.ensures.value ∙ c.in-Ok.ensures.resources))
    (map_named schedule (λ j. j.name) c.deref-2.result.now (jobs_held (core_data c.args.self.now.core))
    (ap (map string_bytes) c.deref-2.ensures.value ∙ c.in-Ok.ensures.jobs)) c.in-Ok-check_each.ensures.served
    (moved (ItemsOf schedules) c.in-Ok-check_each.ensures.after.places c.in-Ok-schedule_each.ensures.served))
    (moved (ItemsOf (replicate count turn))
    (c.in-Ok-schedule_each.ensures.after.places ∙ c.in-Ok-check_each.ensures.after.places) c.take_turns.ensures.served)
