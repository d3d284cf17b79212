-- What is shown: a command prints lines, and does nothing else.
use Rattle.std.proofs.Common.{◌≡◌, ℕ, [], None, unwrap_or, Ok, Err, refl, sym, subst, append-nil, inl}
use Rattle.ccr_history.specs.Text.{Text}
use Rattle.ccr_task.specs.Places.{PlacesData}
use Rattle.ccr_core.specs.Holding.{CoreData, Stands}
use Rattle.ccr_core.specs.State.{State, no_pipeline, pipeline_of}
use Rattle.ccr_core.specs.Commands.{shows}
use Rattle.ccr_lines.specs.Needs.{IsMet, LacksPin}
use Rattle.ccr_core.specs.Commands.{ShownData}
use Rattle.ccr_lines.specs.Shown.{needs, IsShown, Showing}
use Rattle.ccr_serve.specs.Commanding.{Commanded, CameOf}
use Rattle.ccr_serve.specs.Items.{Done}
use Rattle.ccr_serve.specs.Views.{View, world_of, IsReady}
use Rattle.ccr_serve.specs.declared.fault.ServeFault.TheVariants as fault
use Rattle.ccr_serve.proofs.Commits.{rose_none}
use Rattle.ccr_serve.proofs.Refusing.{refused_after}
use Rattle.ccr_serve.proofs.Steps.{printed, calls_did, MayStop, cut_at_once}

-- what is shown of a core is shown of the states that it stands for
shown_at : (what : ShownData) (c : CoreData) (s : State) (status : ℕ) (lines : Text) → Stands c s
    → IsShown what (unwrap_or c.pipeline no_pipeline) c.history c.budget status lines
    → IsShown what (pipeline_of s) s.history s.budget status lines
shown_at what c s status lines is h =
    subst (λ p. IsShown what (unwrap_or p no_pipeline) s.history s.budget status lines) is.1
    (subst (λ x. IsShown what (unwrap_or c.pipeline no_pipeline) x s.budget status lines) is.0
    (subst (λ n. IsShown what (unwrap_or c.pipeline no_pipeline) c.history n status lines) is.2 h))

-- it is shown with a status
pub shown_so : (places : PlacesData) (what : ShownData) (status : ℕ) (v : View) (l : Text) → IsReady v
    → Showing what v.core (Ok status) v.lines l → CameOf places (shows what) (Ok status) v (printed v l)
shown_so places what status v l ready x =
    calls_did ready (λ s is. record {
      did = did;
      state = s;
      stands = is;
      does = (
        (
          world_of v s,
          record {
            pair = refl;
            event = refl;
            shown = shown_at what v.core s status x.1.0 is x.1.1;
            same = refl;
          },
          refl,
        ),
        subst (λ h. IsMet (needs what) s.pipeline h) is.0 (subst (λ p. IsMet (needs what) p v.core.history) is.1 x.0),
      );
      pairs = sym (append-nil v.pairs);
      commits = rose_none v.tally.commits;
      lines = x.1.2;
    }) where
      did : Done
      did = record { pair = None; event = None; lines = x.1.0 }

show_stop : (places : PlacesData) (what : ShownData) → MayStop (Commanded places (shows what) 0)
show_stop places what w = ([], _, refl, w, refl, inl refl)

-- the text of a pin spells none: nothing is shown
pub shown_unpinned : {l : Text} (places : PlacesData) (what : ShownData) (v : View) → IsReady v → l ≡ v.lines
    → LacksPin (needs what) v.core.pipeline → CameOf places (shows what) (Err fault.BadPin) v (printed v l)
shown_unpinned places what v ready same bad =
    refused_after ready same (λ s is. (subst (λ p. LacksPin (needs what) p) is.1 bad, refl))

-- memory was wanted: nothing is shown
pub shown_nothing : {l : Text} (places : PlacesData) (what : ShownData) (v : View) → IsReady v → l ≡ v.lines
    → CameOf places (shows what) (Err fault.NoMemory) v (printed v l)
shown_nothing places what v ready same = cut_at_once v (show_stop places what) ready same
