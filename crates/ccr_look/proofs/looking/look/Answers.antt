use Rattle.std.proofs.Common.{inl, inr}
use Rattle.std.proofs.lemmas.Result.{IfOk-weaker, IfErr-weaker}
use Rattle.ccr_look.specs.Looks.{image_of}
use Rattle.ccr_look.proofs.looking.look.Goals as goal

pub returns-in-Ok-history_in-clause-sees : goal.returns-in-Ok-history_in-clause-sees
returns-in-Ok-history_in-clause-sees c =
    IfOk-weaker c.over.result _ _
    (λ core it. record {
      history = c.in-Ok-history_in.history;
      found = c.in-Ok-history_in.ensures.found (image_of c.args.copied) c.in-Ok.ensures.opened;
      over = it;
    })
    c.over.ensures.over

pub returns-in-Ok-history_in-clause-nothing : goal.returns-in-Ok-history_in-clause-nothing
returns-in-Ok-history_in-clause-nothing c = IfErr-weaker c.over.result _ _ (λ fault it. inl it) c.over.ensures.only

pub returns-in-Err-history_in-clause-nothing : goal.returns-in-Err-history_in-clause-nothing
returns-in-Err-history_in-clause-nothing c =
    inr (inr (c.in-Err-history_in.ensures.unfound (image_of c.args.copied) c.in-Ok.ensures.opened))

pub returns-in-Err-clause-nothing : goal.returns-in-Err-clause-nothing
returns-in-Err-clause-nothing c = inr (inl c.in-Err.ensures.shut)
