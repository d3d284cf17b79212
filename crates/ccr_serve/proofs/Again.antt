-- An answer for which there is no room, and errored in its place.
use Rattle.std.proofs.Common.{◌≡◌, ℕ, false, Result, Ok, Err, IfOk, IfErr, refl, sym, ◌∙◌, subst, inr}
use Rattle.ccr_history.specs.Text.{Text}
use Rattle.ccr_steps.specs.Asks.{AnswerData, errored}
use Rattle.ccr_core.specs.declared.fault.CoreFault.{CoreFault}
use Rattle.ccr_core.specs.declared.fault.CoreFault.TheVariants.{TableFull}
use Rattle.ccr_core.specs.declared.reply.Reply.{Reply}
use Rattle.ccr_core.specs.Events.{EventData, answer}
use Rattle.ccr_core.specs.Holding.{Stands}
use Rattle.ccr_core.specs.Steps.{Step}
use Rattle.ccr_serve.specs.Due.{Gives}
use Rattle.ccr_serve.specs.Views.{View, IsBack, IsElse, Made, Unmade}
use Rattle.ccr_serve.specs.declared.fault.ServeFault.{ServeFault}
use Rattle.ccr_serve.specs.declared.fault.ServeFault.TheVariants as fault
use Rattle.ccr_serve.proofs.Commits.{rose_then, asked_then}

else_then : (v w n : View) → IsElse v w → IsElse w n → IsElse v n
else_then v w n a b = record {
  last = b.last ∙ a.last;
  calls = b.calls ∙ a.calls;
  pairs = b.pairs ∙ a.pairs;
  places = b.places ∙ a.places;
  lines = b.lines ∙ a.lines;
}

-- the core refused the answer, and took errored
gave_again : (job again : Text) (number turn : ℕ) (x : AnswerData) (r : Reply) (v w n : View) → again ≡ job
    → Made (answer job number turn x) (Err TableFull) v w → Made (answer again number turn errored) (Ok r) w n
    → Gives job number turn x r v n
gave_again job again number turn x r v w n same full made = record {
  takes = λ s is.
      let t = full.takes s is in
      let u = made.takes s (subst (λ a. Stands w.core a) t.1.1 t.2) in
      record {
        given = errored;
        is_given = inr ((t.1.0, refl), refl);
        after = u.0;
        step = subst (λ j. Step s (answer j number turn errored) (Ok r) u.0) same u.1;
        kept = tt;
        stands = u.2;
      };
  ready = made.ready;
  commits = rose_then v.tally.commits 0 w.tally.commits 1 n.tally.commits full.commits made.commits;
  rest = else_then v w n full.rest made.rest;
}

-- the core refused the answer, and errored wasn't given
kept_away_again : (e d : EventData) (g : CoreFault) (f : ServeFault) (v w n : View) → Made e (Err g) v w → Unmade d f w n
    → Unmade d f v n
kept_away_again e d g f v w n full un = record {
  back = back f un.back;
  holds = subst (λ c. n.holds c.history) full.refused un.holds;
  crash = λ s is. un.crash s (subst (λ c. Stands c s) (sym full.refused) is);
  commits = asked_then false v.tally.commits 0 w.tally.commits 0 n.tally.commits full.commits un.commits;
  rest = else_then v w n full.rest un.rest;
} where
  back : (f : ServeFault) → IsBack f w n → IsBack f v n
  back (fault.Core h) b = b
  back (fault.Store h) b = b
  back (fault.Read h) b = b
  back fault.File b = b
  back fault.BadPin b = b
  back fault.NoMemory b = (b.0 ∙ full.refused, b.1)
  back fault.Closed b = b
  back fault.TurnsUsedUp b = b

module _ (job again : Text) (number turn : ℕ) (x : AnswerData) (v w n : View) (answered : Result Reply ServeFault)
    (full : Made (answer job number turn x) (Err TableFull) v w) where
  -- what came of errored in the answer's place comes of the answer
  pub gives_again : again ≡ job → IfOk answered (λ r. Made (answer again number turn errored) (Ok r) w n)
      → IfOk answered (λ r. Gives job number turn x r v n)
  gives_again same made = given answered made where
    given : (a : Result Reply ServeFault) → IfOk a (λ r. Made (answer again number turn errored) (Ok r) w n)
        → IfOk a (λ r. Gives job number turn x r v n)
    given (Ok r) h = gave_again job again number turn x r v w n same full h
    given (Err f) h = tt

  pub unmade_again : again ≡ job → IfErr answered (λ f. Unmade (answer again number turn errored) f w n)
      → IfErr answered (λ f. (given : AnswerData) × Unmade (answer job number turn given) f v n)
  unmade_again same un = kept answered un where
    kept : (a : Result Reply ServeFault) → IfErr a (λ f. Unmade (answer again number turn errored) f w n)
        → IfErr a (λ f. (given : AnswerData) × Unmade (answer job number turn given) f v n)
    kept (Ok r) h = tt
    kept (Err f) h = (
      errored,
      subst (λ j. Unmade (answer j number turn errored) f v n) same
          (kept_away_again (answer job number turn x) (answer again number turn errored) TableFull f v w n full h),
    )
