-- Versions that commands disable and enable.
use Rattle.std.proofs.Common.{◌≡◌, ◌++◌, ℕ, List, [], ◌∷◌, true, Some, codes, Ok, Err, refl, ap, arith, inl}
use Rattle.ccr_history.specs.Text.{Text}
use Rattle.ccr_problem.specs.ProblemOf.{resource_of}
use Rattle.ccr_task.specs.Calls.{CallData}
use Rattle.ccr_task.specs.Places.{PlacesData}
use Rattle.ccr_core.specs.declared.fault.CoreFault.{CoreFault}
use Rattle.ccr_core.specs.declared.fault.CoreFault.TheVariants as core_fault
use Rattle.ccr_core.specs.declared.reply.Reply.{Reply}
use Rattle.ccr_core.specs.declared.reply.Reply.TheVariants.{Disabled, Enabled}
use Rattle.ccr_core.specs.Events as event
use Rattle.ccr_core.specs.Faults.{IsFirstFault}
use Rattle.ccr_core.specs.Replies.{Replied}
use Rattle.ccr_core.specs.State.{State, resources_of}
use Rattle.ccr_core.specs.Steps.{Step}
use Rattle.ccr_core.specs.Commands.{disable_version, enable_version}
use Rattle.ccr_lines.specs.Lines.{place_line, lines_of}
use Rattle.ccr_serve.specs.Commanding.{Commanded, IsRefused, CameOf}
use Rattle.ccr_serve.specs.Items.{World, Done}
use Rattle.ccr_serve.specs.Serving.{Tells}
use Rattle.ccr_serve.specs.Views.{View, Made}
use Rattle.ccr_serve.specs.declared.fault.ServeFault.TheVariants as fault
use Rattle.ccr_serve.proofs.Refusing.{some_if, refused_by_core}
use Rattle.ccr_serve.proofs.Steps.{printed, MayStop, MayTell, tell_unmade, calls_made}
use Rattle.ccr_serve.proofs.Told.{taken, made_so, told_lines}

-- ---- versions that are disabled
pub disable_stop : (places : PlacesData) (name : Text) (place : ℕ) → MayStop (Commanded places (disable_version name place) 0)
disable_stop places name place w = ([], _, refl, w, refl, inl refl)

pub disable_unmade : (places : PlacesData) (name : Text) (place : ℕ)
    → MayTell (Commanded places (disable_version name place) 0) (event.disable name place)
disable_unmade places name place w = tell_unmade places (event.disable name place) w

disable_lines : (name : Text) (place : ℕ) (r : Reply) (s a : State) → Step s (event.disable name place) (Ok r) a
    → place_line (codes "disabled ") name place ≡ lines_of (event.disable name place) (Ok r) a.history
disable_lines name place Disabled s a step = refl
disable_lines name place r s a step = absurd step.1

disable_told : (places : PlacesData) (name : Text) (place : ℕ) (r : Reply) (w u : World) (d : Done)
    → Tells places (event.disable name place) w d u → d.event ≡ Some (event.disable name place, Ok r)
    → Commanded places (disable_version name place) 0 w (d ∷ []) true u
disable_told places name place r w u d tells made = (
  ((u, (tells, (r, made)), refl), refl),
  some_if (resource_of name (resources_of w.core))
      ((taken (event.disable name place) (Ok r) w u d tells made).0 core_fault.NoResource),
)

pub disable_made : {name named : Text} {place : ℕ} {replied : Replied} {r : Reply} {n : View} {l m : Text} (places : PlacesData)
    (v : View) → named ≡ name → replied ≡ Ok r → l ≡ v.lines → Made (event.disable named place) replied (printed v []) n
    → m ≡ l ++ place_line (codes "disabled ") name place
    → CameOf places (disable_version name place) (Ok 0) v (printed n m)
disable_made {name} {named} {place} {replied} {r} places v copied took lines made told =
    calls_made places (made_so v (ap (λ t. event.disable t place) copied) took made)
    (λ s a step h. told_lines (event.disable name place) (Ok r) a (place_line (codes "disabled ") name place) lines told
    (disable_lines name place r s a step)) (λ h same. same) (disable_told places name place r)

disable_refused_so : (name : Text) (place : ℕ) (f : CoreFault) (s : State) (before after : List CallData) → after ≡ before
    → IsFirstFault s (event.disable name place) f → IsRefused (disable_version name place) (fault.Core f) s before after
disable_refused_so name place core_fault.NoPipeline s before after same first = (first.0, same)
disable_refused_so name place core_fault.NoResource s before after same first =
    ((some_if s.pipeline (first.1 core_fault.NoPipeline (omega arith)), first.0), same)
disable_refused_so name place core_fault.NoVersion s before after same first = (first, same)
disable_refused_so name place f s before after same first = absurd first.0

pub disable_refused : {name named : Text} {place : ℕ} {replied : Replied} {f : CoreFault} {n : View} {l : Text}
    (places : PlacesData) (v : View) → named ≡ name → replied ≡ Err f → l ≡ v.lines → Made (event.disable named place) replied (printed v []) n
    → CameOf places (disable_version name place) (Err (fault.Core f)) v (printed n l)
disable_refused {name} {named} {place} {replied} {f} {n} places v copied is lines made =
    refused_by_core places (disable_version name place) v lines (made_so v (ap (λ t. event.disable t place) copied) is made)
    (λ s first. disable_refused_so name place f s v.calls n.calls made.rest.calls first)

-- ---- versions that are enabled
pub enable_stop : (places : PlacesData) (name : Text) (place : ℕ) → MayStop (Commanded places (enable_version name place) 0)
enable_stop places name place w = ([], _, refl, w, refl, inl refl)

pub enable_unmade : (places : PlacesData) (name : Text) (place : ℕ)
    → MayTell (Commanded places (enable_version name place) 0) (event.enable name place)
enable_unmade places name place w = tell_unmade places (event.enable name place) w

enable_lines : (name : Text) (place : ℕ) (r : Reply) (s a : State) → Step s (event.enable name place) (Ok r) a
    → place_line (codes "enabled ") name place ≡ lines_of (event.enable name place) (Ok r) a.history
enable_lines name place Enabled s a step = refl
enable_lines name place r s a step = absurd step.1

enable_told : (places : PlacesData) (name : Text) (place : ℕ) (r : Reply) (w u : World) (d : Done)
    → Tells places (event.enable name place) w d u → d.event ≡ Some (event.enable name place, Ok r)
    → Commanded places (enable_version name place) 0 w (d ∷ []) true u
enable_told places name place r w u d tells made = (
  ((u, (tells, (r, made)), refl), refl),
  some_if (resource_of name (resources_of w.core))
      ((taken (event.enable name place) (Ok r) w u d tells made).0 core_fault.NoResource),
)

pub enable_made : {name named : Text} {place : ℕ} {replied : Replied} {r : Reply} {n : View} {l m : Text} (places : PlacesData)
    (v : View) → named ≡ name → replied ≡ Ok r → l ≡ v.lines → Made (event.enable named place) replied (printed v []) n
    → m ≡ l ++ place_line (codes "enabled ") name place
    → CameOf places (enable_version name place) (Ok 0) v (printed n m)
enable_made {name} {named} {place} {replied} {r} places v copied took lines made told =
    calls_made places (made_so v (ap (λ t. event.enable t place) copied) took made)
    (λ s a step h. told_lines (event.enable name place) (Ok r) a (place_line (codes "enabled ") name place) lines told
    (enable_lines name place r s a step)) (λ h same. same) (enable_told places name place r)

enable_refused_so : (name : Text) (place : ℕ) (f : CoreFault) (s : State) (before after : List CallData) → after ≡ before
    → IsFirstFault s (event.enable name place) f → IsRefused (enable_version name place) (fault.Core f) s before after
enable_refused_so name place core_fault.NoPipeline s before after same first = (first.0, same)
enable_refused_so name place core_fault.NoResource s before after same first =
    ((some_if s.pipeline (first.1 core_fault.NoPipeline (omega arith)), first.0), same)
enable_refused_so name place core_fault.NoVersion s before after same first = (first, same)
enable_refused_so name place f s before after same first = absurd first.0

pub enable_refused : {name named : Text} {place : ℕ} {replied : Replied} {f : CoreFault} {n : View} {l : Text}
    (places : PlacesData) (v : View) → named ≡ name → replied ≡ Err f → l ≡ v.lines → Made (event.enable named place) replied (printed v []) n
    → CameOf places (enable_version name place) (Err (fault.Core f)) v (printed n l)
enable_refused {name} {named} {place} {replied} {f} {n} places v copied is lines made =
    refused_by_core places (enable_version name place) v lines (made_so v (ap (λ t. event.enable t place) copied) is made)
    (λ s first. enable_refused_so name place f s v.calls n.calls made.rest.calls first)
