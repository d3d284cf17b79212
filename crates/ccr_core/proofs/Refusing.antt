-- Which fault an event meets first, and that it meets none.
use Rattle.std.proofs.Common.{◌≡◌, inr, ℕ, ◌<◌, Some, Ok, Err, refl, sym, subst}
use Rattle.ccr_core.specs.declared.fault.CoreFault.{CoreFault}
use Rattle.ccr_core.specs.declared.fault.CoreFault.TheVariants.{NoPipeline, NoJob, NoResource, NoBuild, BuildsOpen, NotWanted, TooManyOpen, TableFull, NoMemory, NoVersion}
use Rattle.ccr_core.specs.declared.reply.Reply.{Reply}
use Rattle.ccr_core.specs.Addressed.{AnswerTo, addressed}
use Rattle.ccr_core.specs.Events.{EventData}
use Rattle.ccr_core.specs.Faults.{AnswerMeets, MeetsBy, fault_number, MayRefuse}
use Rattle.ccr_core.specs.Holding.{CoreData, Stands, TakesStep}
use Rattle.ccr_core.specs.State.{State}
use Rattle.ccr_core.specs.Steps.{Answers, DoesBy, Step}

-- what is refuted for each fault is refuted for all
pub none_met : (P : CoreFault → Type 0) → ¬ P NoVersion → ¬ P NoPipeline → ¬ P NoJob → ¬ P NoResource → ¬ P NoBuild → ¬ P BuildsOpen → ¬ P NotWanted → ¬ P TooManyOpen → ¬ P TableFull → ¬ P NoMemory → (f : CoreFault) → ¬ P f
none_met P v a b c d e f g h i NoPipeline = a
none_met P v a b c d e f g h i NoJob = b
none_met P v a b c d e f g h i NoResource = c
none_met P v a b c d e f g h i NoBuild = d
none_met P v a b c d e f g h i BuildsOpen = e
none_met P v a b c d e f g h i NotWanted = f
none_met P v a b c d e f g h i TooManyOpen = g
none_met P v a b c d e f g h i TableFull = h
none_met P v a b c d e f g h i NoMemory = i
none_met P v a b c d e f g h i NoVersion = v

-- and below a number for each fault below it
pub none_before : (P : CoreFault → Type 0) (n : ℕ) → (10 < n → ¬ P NoVersion) → (1 < n → ¬ P NoPipeline) → (2 < n → ¬ P NoJob) → (3 < n → ¬ P NoResource) → (4 < n → ¬ P NoBuild) → (5 < n → ¬ P BuildsOpen) → (6 < n → ¬ P NotWanted) → (7 < n → ¬ P TooManyOpen) → (8 < n → ¬ P TableFull) → (9 < n → ¬ P NoMemory) → (g : CoreFault) → fault_number g < n → ¬ P g
none_before P n v a b c d e f g h i NoPipeline = a
none_before P n v a b c d e f g h i NoJob = b
none_before P n v a b c d e f g h i NoResource = c
none_before P n v a b c d e f g h i NoBuild = d
none_before P n v a b c d e f g h i BuildsOpen = e
none_before P n v a b c d e f g h i NotWanted = f
none_before P n v a b c d e f g h i TooManyOpen = g
none_before P n v a b c d e f g h i TableFull = h
none_before P n v a b c d e f g h i NoMemory = i
none_before P n v a b c d e f g h i NoVersion = v

-- a refusal leads from each state that a core stands for to itself
pub refuses : (c : CoreData) (e : EventData) (f : CoreFault) → ((s : State) → Stands c s → MayRefuse s e f) → TakesStep c c e (Err f)
refuses c e f may s stands = (s, (may s stands, refl), stands)

-- ---- what is said to a build
-- a fault that is the first of what an event says to a build is the event's
pub refused_as : (s : State) (e : EventData) (a : AnswerTo) (f : CoreFault) → addressed e ≡ Some a → AnswerMeets s a f → ((g : CoreFault) → fault_number g < fault_number f → ¬ AnswerMeets s a g) → MayRefuse s e f
refused_as s e a f said meets first =
    inr (subst (λ o. MeetsBy s o e f) (sym said) meets, subst (λ o. (g : CoreFault) → fault_number g < fault_number f → ¬ MeetsBy s o e g) (sym said) first)

-- and what that does the event does
pub answered_as : (s : State) (e : EventData) (a : AnswerTo) (r : Reply) (after : State) → addressed e ≡ Some a → ((f : CoreFault) → ¬ AnswerMeets s a f) → Answers s a r after → Step s e (Ok r) after
answered_as s e a r after said free answers =
    (subst (λ o. (f : CoreFault) → ¬ MeetsBy s o e f) (sym said) free, subst (λ o. DoesBy s o e r after) (sym said) answers)
