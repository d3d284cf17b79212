-- Checks by command: their status.
use Rattle.std.proofs.Common.{◌≡◌, ◌&&◌, ℕ, List, [], ◌∷◌, true, false, Some, is_ok, Ok, Err, refl, sym, ◌∙◌, ap, inl}
use Rattle.std.proofs.lemmas.Bool.{false≢true}
use Rattle.std.specs.Option.{option_map_or}
use Rattle.ccr_history.specs.Text.{Text}
use Rattle.ccr_history.specs.TextMap.{TextMap}
use Rattle.ccr_pipeline.specs.JobData.{ResourceData}
use Rattle.ccr_problem.specs.ProblemOf.{resource_of}
use Rattle.ccr_task.specs.Places.{PlacesData}
use Rattle.ccr_core.specs.declared.reply.Reply.TheVariants.{New}
use Rattle.ccr_core.specs.Events.{checked}
use Rattle.ccr_core.specs.Replies.{Replied}
use Rattle.ccr_core.specs.State.{State}
use Rattle.ccr_core.specs.Steps.{Step}
use Rattle.ccr_serve.specs.Commanding.{IsFirstReply, Commanded, CameOf}
use Rattle.ccr_core.specs.Commands.{check_resource}
use Rattle.ccr_serve.specs.Found.{FoundData, found}
use Rattle.ccr_serve.specs.Found as what_is
use Rattle.ccr_serve.specs.Items.{World, check, Done, Each, Items, Noting}
use Rattle.ccr_serve.specs.Serving.{Reports, Serves}
use Rattle.ccr_serve.specs.Taken.{all_taken}
use Rattle.ccr_serve.specs.Views.{View, world_of, resources_held, Calls}
use Rattle.ccr_serve.proofs.Composing.{called_as}
use Rattle.ccr_serve.proofs.Steps.{taken_one}
use Rattle.ccr_serve.proofs.Told.{has_resource}

by_reply : (name : Text) (vs : List TextMap) (d : Done) (r : Replied) (s a : State) → Step s (checked name vs) r a
    → d.event ≡ Some (checked name vs, r) → true ≡ all_taken (d ∷ []) → (n : ℕ) × IsFirstReply (d ∷ []) (New n)
by_reply name vs d (Ok (New n)) s a step made all = (n, (checked name vs, made))
by_reply name vs d (Ok r) s a step made all = absurd step.1
by_reply name vs d (Err f) s a step made all =
    absurd (false≢true (taken_one (Err f) d (checked name vs) made ∙ sym all))

by_report : (name : Text) (what : FoundData) (old new : State) (d : Done) → Reports name what old d new
    → true ≡ all_taken (d ∷ []) → (n : ℕ) × IsFirstReply (d ∷ []) (New n)
by_report name (found vs) old new d h all = by_reply name vs d h.reply old new h.step h.event all
by_report name (what_is.nothing c) old new d h all =
    absurd (false≢true (sym (all ∙ ap (λ o. option_map_or (λ made. is_ok made.1) o false && true) h.0)))

-- a check whose event the core took was told how many versions are new
check_taken : (places : PlacesData) (name : Text) (old new : World) (ds : List Done)
    → Each (Serves places) (check name ∷ []) old ds new → true ≡ all_taken ds → (n : ℕ) × IsFirstReply ds (New n)
check_taken places name old new [] e all = absurd e
check_taken places name old new (d ∷ []) e all = by_report name e.1.what old.core e.0.core d e.1.reports all
check_taken places name old new (d ∷ d2 ∷ ds) e all = absurd e.2

-- the status of a check whose versions were taken is 0
pub check_came : {r : ResourceData} {n : View} (places : PlacesData) (name : Text) (v : View)
    → resource_of name (resources_held v.core) ≡ Some r
    → Calls (Noting (Items (Serves places) (check name ∷ [])) (λ ds. true ≡ all_taken ds)) v true n
    → CameOf places (check_resource name) (Ok 0) v n
check_came {r} {n} places name v there a = record {
  from = λ s h.
      called_as (Noting (Items (Serves places) (check name ∷ [])) (λ ds. true ≡ all_taken ds))
      (Commanded places (check_resource name) 0) v n s true
      (λ ds new d. (
        (d.0, inl (refl, check_taken places name (world_of v s) new ds d.0 d.1)),
        has_resource v.core s name r h there,
      ))
      (a.from s h);
}
