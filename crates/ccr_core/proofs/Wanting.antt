-- Builds of a core that want something.
use Rattle.std.proofs.Common.{◌≡◌, ◌≢◌, ◌⊎◌, inl, inr, ℕ, zero, suc, ◌==◌, Bool, true, false, cond, ◌&&◌, List, [], ◌∷◌, slice_get, Option, Some, None, bytes_eq, refl, sym, ap, ◌∙◌, subst}
use Rattle.ccr_history.specs.Text.{Text}
use Rattle.ccr_steps.specs.Asks.{AnswerData}
use Rattle.ccr_steps.specs.Runs.{RunData, HasTurn}
use Rattle.ccr_steps.specs.declared.ask.Ask.{Ask}
use Rattle.ccr_core.specs.declared.fault.CoreFault.{CoreFault}
use Rattle.ccr_core.specs.declared.fault.CoreFault.TheVariants.{NoPipeline, NoJob, NoResource, NoBuild, BuildsOpen, NotWanted, TooManyOpen, TableFull, NoMemory, NoVersion}
use Rattle.ccr_core.specs.Events.{answer}
use Rattle.ccr_core.specs.Faults.{Meets, MayRefuse}
use Rattle.ccr_core.specs.Holding.{AreRuns, IsAsked}
use Rattle.ccr_core.specs.State.{RunningData, State, is_run_of, running_at}
use Rattle.ccr_core.specs.Wanting.{EachWants, WantedIsTaken}
use Rattle.ccr_core.proofs.Reaching.{firm}
use Rattle.ccr_core.proofs.RunningLists.{id_refl}

-- a name of a core is that of a build that runs
at_name : (ns : List (Text × ℕ)) (rs : List RunData) (bs : List RunningData) → AreRuns ns rs bs → (k : ℕ) (n : Text × ℕ) → slice_get ns k ≡ Some n → running_at n.0 n.1 bs ≢ None
at_name [] rs bs are k n at none = absurd (cc at)
at_name (m ∷ ns) [] bs are k n at none = absurd are
at_name (m ∷ ns) (r ∷ rs) [] are k n at none = absurd are
at_name (m ∷ ns) (r ∷ rs) (b ∷ bs) (same, st, waits, rest) zero n at none =
    let one : m ≡ n = cc at in
    let own : is_run_of n.0 n.1 b ≡ true = ap (λ y. bytes_eq y.0 b.job && y.1 == b.number) (sym one ∙ same) ∙ id_refl b.job b.number in
    let some : Some b ≡ None = sym (ap (λ t. cond t (Some b) (running_at n.0 n.1 bs)) own) ∙ none in
    absurd (cc some)
at_name (m ∷ ns) (r ∷ rs) (b ∷ bs) (same, st, waits, rest) (suc k) n at none = by (is_run_of n.0 n.1 b) (at_name ns rs bs rest k n at) none
  where
    by : (t : Bool) → running_at n.0 n.1 bs ≢ None → cond t (Some b) (running_at n.0 n.1 bs) ≡ None → ⊥
    by true more e = absurd (cc e)
    by false more e = more e

pub each_wants : EachWants
each_wants c k n w core at wants none =
    let t = firm c core in
    let asked : IsAsked (running_at n.0 n.1 t.state.running) None = subst (IsAsked (running_at n.0 n.1 t.state.running)) none (wants t.state t.stands) in
    by (running_at n.0 n.1 t.state.running) (at_name c.names c.runs t.state.running t.stands.3 k n at) asked
  where
    by : (o : Option RunningData) → o ≢ None → IsAsked o None → ⊥
    by None some asked = some refl
    by (Some b) some asked = asked

-- a build that is asked at this turn has no other
pub asked_there : (o : Option RunningData) (turn : ℕ) (ask : Ask) → IsAsked o (Some (turn, ask)) → (b : RunningData) × (o ≡ Some b) × HasTurn b.exchanges turn
asked_there None turn ask asked = absurd asked
asked_there (Some b) turn ask (own, next) = (b, refl, own)

module _ (s : State) (job : Text) (number turn : ℕ) (x : AnswerData) (b : RunningData) (at : running_at job number s.running ≡ Some b) (own : HasTurn b.exchanges turn) where
  met : (f : CoreFault) → Meets s (answer job number turn x) f → (f ≡ TableFull) ⊎ (f ≡ NoMemory)
  met NoPipeline m = absurd m
  met NoJob m = absurd m
  met NoResource m = absurd m
  met NoBuild m = let no : Some b ≡ None = sym at ∙ m in absurd (cc no)
  met BuildsOpen m = absurd m
  met NotWanted (c, there, other) = let one : Some b ≡ Some c = sym at ∙ there in let same : b ≡ c = cc one in absurd (other (subst (λ y. HasTurn y.exchanges turn) same own))
  met TooManyOpen m = absurd m
  met TableFull m = inl refl
  met NoMemory m = absurd m
  met NoVersion m = absurd m

  refused_so : (f : CoreFault) → MayRefuse s (answer job number turn x) f → (f ≡ TableFull) ⊎ (f ≡ NoMemory)
  refused_so f (inl is) = inr is
  refused_so f (inr (m, first)) = met f m

pub wanted_is_taken : WantedIsTaken
wanted_is_taken c job number turn ask x f core wants takes =
    let t = firm c core in
    let (b, at, own) = asked_there (running_at job number t.state.running) turn ask (wants t.state t.stands) in
    let (after, (may, is), stands) = takes t.state t.stands in
    refused_so t.state job number turn x b at own f may
