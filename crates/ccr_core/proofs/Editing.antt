-- New pipelines and restarts.
use Rattle.std.proofs.Common.{◌≡◌, ◌≢◌, inr, ℕ, ◌==◌, Bool, true, false, List, [], ◌∷◌, length, map, Some, Ok, Err, refl, sym, ap, ◌∙◌, subst, arith}
use Rattle.std.proofs.lemmas.Bool.{eqb-true}
use Rattle.ccr_history.specs.Text.{Text}
use Rattle.ccr_history.specs.Changes.{EditData, text, edited, changed, AdmitsAll}
use Rattle.ccr_history.specs.History.{HistoryData}
use Rattle.ccr_pipeline.specs.Pipelines.{PipelineData}
use Rattle.ccr_steps.specs.Runs.{RunData}
use Rattle.ccr_core.specs.declared.fault.CoreFault.TheVariants.{BuildsOpen}
use Rattle.ccr_core.specs.declared.reply.Reply.TheVariants.{Set, Restarted}
use Rattle.ccr_core.specs.Builds.{cut}
use Rattle.ccr_core.specs.Events.{set_pipeline, restart}
use Rattle.ccr_core.specs.Faults.{Meets}
use Rattle.ccr_core.specs.Holding.{CoreData, AreRuns, Stands, HasEdits, IsCore, TakesStep}
use Rattle.ccr_core.specs.Picking.{name_of}
use Rattle.ccr_core.specs.Resumed.{cut_name}
use Rattle.ccr_core.specs.State.{RunningData, State, moved_on}
use Rattle.ccr_core.specs.Steps.{with_pipeline}
use Rattle.ccr_core.proofs.Opening.{names_are}
use Rattle.ccr_core.proofs.Reaching.{firm}
use Rattle.ccr_core.proofs.Refusing.{none_met, none_before, refuses}
use Rattle.ccr_core.proofs.RunningLists.{all_weaker}
use Rattle.ccr_core.proofs.Sound.{is_running, cut_takes}

module _ (c : CoreData) where
  -- ---- new pipelines
  none_left : (ns : List (Text × ℕ)) (rs : List RunData) → AreRuns ns rs [] → rs ≡ []
  none_left [] [] are = refl
  none_left [] (r ∷ rs) are = absurd are
  none_left (n ∷ ns) [] are = absurd are
  none_left (n ∷ ns) (r ∷ rs) are = absurd are

  none_stands : (ns : List (Text × ℕ)) (bs : List RunningData) → AreRuns ns [] bs → bs ≡ []
  none_stands [] [] are = refl
  none_stands [] (b ∷ bs) are = absurd are
  none_stands (n ∷ ns) bs are = absurd are

  pub builds_open : (p : PipelineData) → (c.runs ≢ []) → TakesStep c c (set_pipeline p) (Err BuildsOpen)
  builds_open p some = refuses c (set_pipeline p) BuildsOpen (λ s st. inr ((λ none. some (none_left c.names c.runs (subst (AreRuns c.names c.runs) none st.3))), none_before (Meets s (set_pipeline p)) 5 (λ _ h. h) (λ _ h. h) (λ _ h. h) (λ _ h. h) (λ _ h. h) (λ lt _. absurd (omega (arith, lt))) (λ lt _. absurd (omega (arith, lt))) (λ lt _. absurd (omega (arith, lt))) (λ lt _. absurd (omega (arith, lt))) (λ lt _. absurd (omega (arith, lt)))))

  pub piped_so : (p : PipelineData) (g : HistoryData) → c.runs ≡ [] → g ≡ edited (text p.text) c.history → TakesStep c (record { history = g; pipeline = Some p; budget = c.budget; names = c.names; runs = c.runs }) (set_pipeline p) (Ok Set)
  piped_so p g none is s st =
      let idle : s.running ≡ [] = none_stands c.names s.running (subst (λ rs. AreRuns c.names rs s.running) none st.3) in (
        with_pipeline s p,
        (none_met (Meets s (set_pipeline p)) (λ h. h) (λ h. h) (λ h. h) (λ h. h) (λ h. h) (λ some. some idle) (λ h. h) (λ h. h) (λ h. h) (λ h. h), refl),
        (is ∙ ap (edited (text p.text)) st.0, refl, st.2, st.3),
      )

  -- ---- restarts
  cuts_are : (bs : List RunningData) → map cut bs ≡ map cut_name (map name_of bs)
  cuts_are [] = refl
  cuts_are (b ∷ bs) = ap (λ l. cut b ∷ l) (cuts_are bs)

  cuts_of : (s : State) → Stands c s → map cut s.running ≡ map cut_name c.names
  cuts_of s st = cuts_are s.running ∙ ap (map cut_name) (names_are c.names c.runs s.running st.3)

  pub all_taken : IsCore c → AdmitsAll c.history (map cut_name c.names)
  all_taken core =
      let t = firm c core in
      subst (λ es. AdmitsAll c.history es) (cuts_of t.state t.stands)
      (subst (λ h. AdmitsAll h (map cut t.state.running)) (sym t.stands.0)
      (cut_takes t.state.running t.state.history t.sound.apart (all_weaker (λ b own. is_running t.state.history b own.held) t.state.running t.sound.each)))

  pub restarted_so : (g : HistoryData) (ms : List (Text × ℕ)) (rs : List RunData) → g ≡ changed (map cut_name c.names) c.history → ms ≡ [] → rs ≡ [] → TakesStep c (record { history = g; pipeline = c.pipeline; budget = c.budget; names = ms; runs = rs }) restart (Ok Restarted)
  restarted_so g ms rs is none left s st = (
    moved_on s (changed (map cut s.running) s.history) [],
    (none_met (Meets s restart) (λ h. h) (λ h. h) (λ h. h) (λ h. h) (λ h. h) (λ h. h) (λ h. h) (λ h. h) (λ h. h) (λ h. h), refl),
    (
      is ∙ ap (changed (map cut_name c.names)) st.0 ∙ ap (λ es. changed es s.history) (sym (cuts_of s st)),
      st.1,
      st.2,
      subst (λ l. AreRuns l rs []) (sym none) (subst (λ l. AreRuns [] l []) (sym left) tt),
    ),
  )

pub restart_edits : (c : CoreData) (edits : List EditData) → edits ≡ map cut_name c.names → HasEdits c restart (Ok Restarted) edits
restart_edits c edits is s st = is ∙ sym (cuts_of c s st)

pub no_length : {X : Type 0} → (xs : List X) → length xs ≡ 0 → xs ≡ []
no_length [] e = refl
no_length (x ∷ xs) e = absurd (omega (arith, e))

-- a test for nothing
pub is_zero : (t : Bool) (n : ℕ) → t ≡ (n == 0) → t ≡ true → n ≡ 0
is_zero t n e passes = eqb-true n 0 (sym e ∙ passes)

pub not_zero : (t : Bool) (n : ℕ) → t ≡ (n == 0) → t ≡ false → n ≡ 0 → ⊥
not_zero t n e fails zero = let passes : (n == 0) ≡ true = ap (λ m. m == 0) zero in absurd (cc (e, fails, passes))
