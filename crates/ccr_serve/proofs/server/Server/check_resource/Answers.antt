use Rattle.std.proofs.Common.{◌≡◌, [], ◌∷◌, Bool, true, refl, subst}
use Rattle.ccr_task.specs.Places.{places_data}
use Rattle.ccr_serve.specs.Items.{Items, Noting}
use Rattle.ccr_serve.specs.Items as item
use Rattle.ccr_serve.specs.Serving.{Serves}
use Rattle.ccr_serve.specs.Taken.{all_taken}
use Rattle.ccr_serve.specs.Views.{full_view, Calls}
use Rattle.ccr_serve.proofs.CheckStatus.{check_came}
use Rattle.ccr_serve.proofs.Refusing.{lacks}
use Rattle.ccr_serve.proofs.server.Server.check_resource.Goals as goal

pub returns-in-Err-clause-came : goal.returns-in-Err-clause-came
returns-in-Err-clause-came g c =
    lacks _ _ c.in-Err.fault _ c.requires.ready refl c.in-Err.ensures.lacks

pub returns-in-Ok-true-clause-came : goal.returns-in-Ok-true-clause-came
returns-in-Ok-true-clause-came g c =
    let view = full_view g.R.Runner g.S.Shelf g.T.Storage g.O.Lines in
    let places = places_data c.args.self.now.places in
    let old = view c.args.self.now c.args.out.now in
    let new = view c.check.new.self c.check.new.out in
    check_came places c.args.name.now old c.in-Ok.ensures.held
    (subst (λ (b : Bool). Calls (Noting (Items (Serves places) (item.check c.args.name.now ∷ [])) (λ ds. b ≡ all_taken ds))
    old true new) c.in-Ok-true.field-0-test c.in-Ok-true.ensures.served)
