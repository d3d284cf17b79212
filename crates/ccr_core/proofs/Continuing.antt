-- A build of a core that is answered.
use Rattle.std.proofs.Common.{◌≡◌, ◌⊎◌, inl, inr, ℕ, zero, suc, ◌<◌, ◌≤◌, List, [], ◌∷◌, ◌++◌, length, Option, Some, None, Ok, Err, map, get_or, take, drop, set, refl, sym, ap, ◌∙◌, subst, arith}
use Rattle.std.specs.Prelude.{unwrap_or, IsSomeAnd, IfSome}
use Rattle.ccr_history.specs.Text.{Text}
use Rattle.ccr_history.specs.Changes.{EditData, changed}
use Rattle.ccr_history.specs.History.{HistoryData}
use Rattle.ccr_pipeline.specs.Pipelines.{PipelineData}
use Rattle.ccr_pipeline.specs.Tree.{Tree}
use Rattle.ccr_steps.specs.Asks.{Exchange, exchange, Chosen}
use Rattle.ccr_steps.specs.Progress.{IsNext}
use Rattle.ccr_steps.specs.Runs.{RunData, run_data, StandsFor, HasTurn}
use Rattle.ccr_steps.specs.declared.outcome.Outcome.{Outcome}
use Rattle.ccr_steps.specs.declared.build.BuildRun.{BuildRun}
use Rattle.ccr_core.specs.declared.fault.CoreFault.{CoreFault}
use Rattle.ccr_core.specs.declared.fault.CoreFault.TheVariants.{NoBuild, NotWanted, TableFull, NoMemory}
use Rattle.ccr_core.specs.declared.reply.Reply.TheVariants.{Goes, Ends}
use Rattle.ccr_core.specs.Builds.{with_answer}
use Rattle.ccr_core.specs.Addressed.{AnswerTo, addressed}
use Rattle.ccr_core.specs.Edits.{AreNextEdits, AreAnswerEdits, AreEditsBy}
use Rattle.ccr_core.specs.Events.{EventData}
use Rattle.ccr_core.specs.Faults.{HasOtherTurn, AnswerMeets, MayRefuse}
use Rattle.ccr_core.specs.Going.{named, Waits, CanGoOn, EndsFit, GoesOn, PushIsFull, IsRefused}
use Rattle.ccr_core.specs.Holding.{CoreData, name_data, name_index, AreRuns, Stands, HasSaidEdits, IsCore, TakesSaidStep}
use Rattle.ccr_core.specs.Seen.{report_by}
use Rattle.ccr_core.specs.State.{State, no_pipeline, pipeline_of, moved_on, running_at, replaced, without}
use Rattle.ccr_core.specs.Steps.{Step}
use Rattle.ccr_core.proofs.Finding.{Names, Found, found, lost}
use Rattle.ccr_core.proofs.Placing.{moved_fit}
use Rattle.ccr_core.proofs.Reaching.{firm, idle}
use Rattle.ccr_core.proofs.Refusing.{none_met, none_before, refuses, refused_as, answered_as}
use Rattle.ccr_core.proofs.RunningLists.{all_at}
use Rattle.ccr_core.proofs.Sound.{IsSound, IsSoundBuild, is_running, sound_answered}

some_same : {X : Type 0} → (o : Option X) (x y : X) → o ≡ Some x → o ≡ Some y → x ≡ y
some_same o x y p q = let same : Some x ≡ Some y = sym p ∙ q in cc same

-- the turn of a machine is that of the build that it stands for
abbrev pub TurnIs : RunData → ℕ → Type 0
TurnIs r n = (plan : Tree) (inputs : Chosen) (es : List Exchange) → StandsFor r plan inputs es → HasTurn es n

module _ (s : State) (e : EventData) (a : AnswerTo) (said : addressed e ≡ Some a) where
  -- ---- refusals
  pub refuses_none : running_at a.job a.number s.running ≡ None → MayRefuse s e NoBuild
  refuses_none none = refused_as s e a NoBuild said none (none_before (AnswerMeets s a) 4 (λ _ h. h) (λ _ h. h) (λ _ h. h) (λ _ h. h) (λ lt _. absurd (omega (arith, lt))) (λ lt _. absurd (omega (arith, lt))) (λ lt _. absurd (omega (arith, lt))) (λ lt _. absurd (omega (arith, lt))) (λ lt _. absurd (omega (arith, lt))) (λ lt _. absurd (omega (arith, lt))))

  module _ (ns : Names) (rs : List BuildRun) (k : ℕ) (d : BuildRun) (f : Found a.job a.number ns rs s.running k d) where
    there_is : ¬ AnswerMeets s a NoBuild
    there_is none = let no : None ≡ Some f.b = sym none ∙ f.at in absurd (cc no)

    pub refuses_turn : (n : ℕ) → TurnIs (run_data (get_or rs k d)) n → IsSomeAnd a.turn (λ turn. n ≡ turn → ⊥) → MayRefuse s e NotWanted
    refuses_turn n has ne =
        refused_as s e a NotWanted said (by a.turn ne) (none_before (AnswerMeets s a) 6 (λ _ h. h) (λ _ h. h) (λ _ h. h) (λ _ h. h) (λ _. there_is) (λ _ h. h) (λ lt _. absurd (omega (arith, lt))) (λ lt _. absurd (omega (arith, lt))) (λ lt _. absurd (omega (arith, lt))) (λ lt _. absurd (omega (arith, lt))))
      where
        by : (o : Option ℕ) → IsSomeAnd o (λ turn. n ≡ turn → ⊥) → IsSomeAnd o (HasOtherTurn s a.job a.number)
        by None other = other
        by (Some turn) other = (f.b, f.at, (λ own. other (has f.b.plan f.b.inputs f.b.exchanges f.stands ∙ sym own)))

    module _ (n : ℕ) (has : TurnIs (run_data (get_or rs k d)) n) (same : IfSome a.turn (λ turn. n ≡ turn)) where
      no_other_turn : ¬ AnswerMeets s a NotWanted
      no_other_turn = by a.turn same
        where
          by : (o : Option ℕ) → IfSome o (λ turn. n ≡ turn) → ¬ IsSomeAnd o (HasOtherTurn s a.job a.number)
          by None own other = other
          by (Some turn) own (b, at, other) =
              let own_turn : HasTurn f.b.exchanges turn = sym own ∙ has f.b.plan f.b.inputs f.b.exchanges f.stands in
              other (subst (λ y. HasTurn y.exchanges turn) (some_same (running_at a.job a.number s.running) f.b b f.at at) own_turn)

      -- a push that has no place, told of the build
      push_full : AnswerMeets s a TableFull → PushIsFull (pipeline_of s) s.history f.b.plan f.b.inputs f.b.exchanges a.given
      push_full (b, asked, resource, v, at, next, pushed, full) =
          let one : b ≡ f.b = some_same (running_at a.job a.number s.running) b f.b at f.at in
          (asked, resource, v, subst (λ y. IsNext y.inputs y.plan y.exchanges asked) one next, pushed, full)

      push_over : PushIsFull (pipeline_of s) s.history f.b.plan f.b.inputs f.b.exchanges a.given → AnswerMeets s a TableFull
      push_over (asked, resource, v, next, pushed, full) = (f.b, asked, resource, v, f.at, next, pushed, full)

      pub refuses_full : PushIsFull (pipeline_of s) s.history f.b.plan f.b.inputs f.b.exchanges a.given → MayRefuse s e TableFull
      refuses_full full = refused_as s e a TableFull said (push_over full) (none_before (AnswerMeets s a) 8 (λ _ h. h) (λ _ h. h) (λ _ h. h) (λ _ h. h) (λ _. there_is) (λ _ h. h) (λ _. no_other_turn) (λ _ h. h) (λ lt _. absurd (omega (arith, lt))) (λ lt _. absurd (omega (arith, lt))))

      pub refuses_so : (g : CoreFault) → (g ≡ NoMemory) ⊎ ((g ≡ TableFull) × PushIsFull (pipeline_of s) s.history f.b.plan f.b.inputs f.b.exchanges a.given) → MayRefuse s e g
      refuses_so g (inl is) = inl is
      refuses_so g (inr (is, full)) = subst (MayRefuse s e) (sym is) (refuses_full full)

      free : (PushIsFull (pipeline_of s) s.history f.b.plan f.b.inputs f.b.exchanges a.given → ⊥) → (g : CoreFault) → ¬ AnswerMeets s a g
      free room = none_met (AnswerMeets s a) (λ h. h) (λ h. h) (λ h. h) (λ h. h) there_is (λ h. h) no_other_turn (λ h. h) (λ over. room (push_full over)) (λ h. h)

      -- ---- answers
      module _ (pl : Option PipelineData) (budget : ℕ) where
        abbrev core_of : HistoryData → Names → List BuildRun → CoreData
        core_of h ms qs = record { history = h; pipeline = pl; budget = budget; names = map name_data ms; runs = map run_data qs }

        pub answer_goes : (h1 : HistoryData) (r : BuildRun) → pl ≡ s.pipeline → budget ≡ s.budget → GoesOn (pipeline_of s) s.history (run_data (get_or rs k d)) f.b.job f.b.number a.given None h1 (run_data r) → (after : State) × Step s e (Ok Goes) after × Stands (core_of h1 ns (set rs k r)) after
        answer_goes h1 r piped budgeted on =
            let (room, (asked, next, st, settles)) = on f.b.plan f.b.inputs f.b.exchanges (f.stands, f.waits) in
            let after = moved_on s h1 (replaced (with_answer f.b asked a.given) s.running) in (
              after,
              answered_as s e a Goes after said (free room) (f.b, f.at, (asked, next, (h1, settles, refl))),
              (refl, piped, budgeted, f.kept r (f.b.exchanges ++ exchange asked a.given ∷ []) st settles.1),
            )

        pub answer_ends : (h1 : HistoryData) (r : BuildRun) (u : Outcome) (ms : Names) (qs : List BuildRun) → pl ≡ s.pipeline → budget ≡ s.budget → ms ≡ take k ns ++ drop (suc k) ns → qs ≡ take k rs ++ drop (suc k) rs → GoesOn (pipeline_of s) s.history (run_data (get_or rs k d)) f.b.job f.b.number a.given (Some u) h1 (run_data r) → (after : State) × Step s e (Ok (Ends u)) after × Stands (core_of h1 ms qs) after
        answer_ends h1 r u ms qs piped budgeted me qe on =
            let (room, (asked, next, st, settles)) = on f.b.plan f.b.inputs f.b.exchanges (f.stands, f.waits) in
            let after = moved_on s h1 (without f.b.job f.b.number s.running) in (
              after,
              answered_as s e a (Ends u) after said (free room) (f.b, f.at, (asked, next, (h1, settles, refl))),
              (refl, piped, budgeted, subst (λ l. AreRuns (map name_data l) (map run_data qs) (without f.b.job f.b.number s.running)) (sym me) (subst (λ l. AreRuns (map name_data (take k ns ++ drop (suc k) ns)) (map run_data l) (without f.b.job f.b.number s.running)) (sym qe) f.gone)),
            )

-- ---- the condition of an answer
pub can_go_on : (s : State) (j : Text) (m : ℕ) (ns : Names) (rs : List BuildRun) (k : ℕ) (d : BuildRun) (f : Found j m ns rs s.running k d) → IsSound s → CanGoOn (pipeline_of s) s.history (run_data (get_or rs k d)) f.b.job f.b.number
can_go_on s j m ns rs k d f sound = (is_running s.history f.b own.held, (f.b.plan, f.b.inputs, f.b.exchanges, (f.stands, f.waits), fits))
  where
    own : IsSoundBuild (pipeline_of s) s.history f.b
    own = all_at (IsSoundBuild (pipeline_of s) s.history) j m s.running f.b sound.each f.at

    fits : EndsFit (pipeline_of s) s.history f.b.plan f.b.inputs f.b.exchanges
    fits a x o g next up taken means =
        let then = sound_answered s j m f.b a x sound f.at in
        moved_fit (pipeline_of s) (changed (report_by (pipeline_of s) a x) s.history) f.b.inputs f.b.plan (f.b.exchanges ++ exchange a x ∷ []) o g then.got then.known then.pushes means

-- ---- what the parts of a core do at an answer
module _ (h : HistoryData) (pl : Option PipelineData) (budget : ℕ) (ns : Names) (rs : List BuildRun) (a : AnswerTo) where
  abbrev pub held : HistoryData → Names → List BuildRun → CoreData
  held g ms qs = record { history = g; pipeline = pl; budget = budget; names = map name_data ms; runs = map run_data qs }

  pub bare : IsCore (held h ns rs) → pl ≡ None → TakesSaidStep (held h ns rs) (held h ns rs) a (Err NoBuild)
  bare core none e said = refuses (held h ns rs) e NoBuild (λ s st. refuses_none s e a said (ap (running_at a.job a.number) (idle (held h ns rs) core none s st)))

  pub none_there : length rs ≤ name_index a.job a.number (map name_data ns) → TakesSaidStep (held h ns rs) (held h ns rs) a (Err NoBuild)
  none_there past e said = refuses (held h ns rs) e NoBuild (λ s st. refuses_none s e a said (lost a.job a.number ns rs s.running st.3 past))

  module _ (p : PipelineData) (piped : pl ≡ Some p) (k : ℕ) (d : BuildRun) (at : k ≡ name_index a.job a.number (map name_data ns)) (lt : k < length rs) where
    there : (s : State) → Stands (held h ns rs) s → Found a.job a.number ns rs s.running k d
    there s st = found a.job a.number ns rs s.running d st.3 k at lt

    pipe : (s : State) → Stands (held h ns rs) s → p ≡ pipeline_of s
    pipe s st = ap (λ o. unwrap_or o no_pipeline) (sym piped ∙ st.1)

    pub can_answer : IsCore (held h ns rs) → CanGoOn p h (run_data (get_or rs k d)) a.job a.number
    can_answer core =
        let t = firm (held h ns rs) core in
        let f = there t.state t.stands in
        subst (λ q. CanGoOn q h (run_data (get_or rs k d)) a.job a.number) (sym (pipe t.state t.stands))
        (subst (λ g. CanGoOn (pipeline_of t.state) g (run_data (get_or rs k d)) a.job a.number) (sym t.stands.0)
        (subst (λ i. CanGoOn (pipeline_of t.state) t.state.history (run_data (get_or rs k d)) i a.number) f.job_is
        (subst (λ i. CanGoOn (pipeline_of t.state) t.state.history (run_data (get_or rs k d)) f.b.job i) f.number_is
        (can_go_on t.state a.job a.number ns rs k d f t.sound))))

    on : (s : State) (st : Stands (held h ns rs) s) (o : Option Outcome) (g : HistoryData) (r : RunData) → GoesOn p h (run_data (get_or rs k d)) a.job a.number a.given o g r → GoesOn (pipeline_of s) s.history (run_data (get_or rs k d)) (there s st).b.job (there s st).b.number a.given o g r
    on s st o g r goes =
        let f = there s st in
        subst (λ i. GoesOn (pipeline_of s) s.history (run_data (get_or rs k d)) f.b.job i a.given o g r) (sym f.number_is)
        (subst (λ i. GoesOn (pipeline_of s) s.history (run_data (get_or rs k d)) i a.number a.given o g r) (sym f.job_is)
        (subst (λ y. GoesOn (pipeline_of s) y (run_data (get_or rs k d)) a.job a.number a.given o g r) st.0
        (subst (λ q. GoesOn q h (run_data (get_or rs k d)) a.job a.number a.given o g r) (pipe s st) goes)))

    -- ---- edits
    module _ (o : Option Outcome) (edits : List EditData) (are : (plan : Tree) (inputs : Chosen) (es : List Exchange) → Waits (run_data (get_or rs k d)) plan inputs es → AreNextEdits p h (named a.job a.number plan inputs es) a.given o edits) where
      edits_on : (s : State) → Stands (held h ns rs) s → AreAnswerEdits s a o edits
      edits_on s st =
          let f = there s st in (
            f.b,
            f.at,
            subst (λ i. AreNextEdits (pipeline_of s) s.history (named f.b.job i f.b.plan f.b.inputs f.b.exchanges) a.given o edits) (sym f.number_is)
                (subst (λ i. AreNextEdits (pipeline_of s) s.history (named i a.number f.b.plan f.b.inputs f.b.exchanges) a.given o edits) (sym f.job_is)
                (subst (λ y. AreNextEdits (pipeline_of s) y (named a.job a.number f.b.plan f.b.inputs f.b.exchanges) a.given o edits) st.0
                (subst (λ q. AreNextEdits q h (named a.job a.number f.b.plan f.b.inputs f.b.exchanges) a.given o edits) (pipe s st)
                (are f.b.plan f.b.inputs f.b.exchanges (f.stands, f.waits))))),
          )

      pub edits_goes : o ≡ None → HasSaidEdits (held h ns rs) a (Ok Goes) edits
      edits_goes is e said s st = subst (λ q. AreEditsBy s q e Goes edits) (sym said) (subst (λ u. AreAnswerEdits s a u edits) is (edits_on s st))

      pub edits_ends : (u : Outcome) → o ≡ Some u → HasSaidEdits (held h ns rs) a (Ok (Ends u)) edits
      edits_ends u is e said s st = subst (λ q. AreEditsBy s q e (Ends u) edits) (sym said) (subst (λ v. AreAnswerEdits s a v edits) is (edits_on s st))

    module _ (n : ℕ) (has : TurnIs (run_data (get_or rs k d)) n) where
      pub other_turn : IsSomeAnd a.turn (λ turn. n ≡ turn → ⊥) → TakesSaidStep (held h ns rs) (held h ns rs) a (Err NotWanted)
      other_turn ne e said = refuses (held h ns rs) e NotWanted (λ s st. refuses_turn s e a said ns rs k d (there s st) n has ne)

      pub not_taken : IfSome a.turn (λ turn. n ≡ turn) → (fault : CoreFault) → IsRefused p h (run_data (get_or rs k d)) a.given fault → TakesSaidStep (held h ns rs) (held h ns rs) a (Err fault)
      not_taken same fault why e said = refuses (held h ns rs) e fault (λ s st.
          (let f = there s st in
          let here : IsRefused (pipeline_of s) s.history (run_data (get_or rs k d)) a.given fault = subst (λ y. IsRefused (pipeline_of s) y (run_data (get_or rs k d)) a.given fault) st.0 (subst (λ q. IsRefused q h (run_data (get_or rs k d)) a.given fault) (pipe s st) why) in
          refuses_so s e a said ns rs k d f n has same fault (here f.b.plan f.b.inputs f.b.exchanges (f.stands, f.waits))))

      pub taken_on : IfSome a.turn (λ turn. n ≡ turn) → (g : HistoryData) (r : BuildRun) → GoesOn p h (run_data (get_or rs k d)) a.job a.number a.given None g (run_data r) → TakesSaidStep (held h ns rs) (held g ns (set rs k r)) a (Ok Goes)
      taken_on same g r goes e said s st = answer_goes s e a said ns rs k d (there s st) n has same pl budget g r st.1 st.2 (on s st None g (run_data r) goes)

      pub taken_to_end : IfSome a.turn (λ turn. n ≡ turn) → (g : HistoryData) (r : BuildRun) (o : Outcome) (ms : Names) (qs : List BuildRun) → ms ≡ take k ns ++ drop (suc k) ns → qs ≡ take k rs ++ drop (suc k) rs → GoesOn p h (run_data (get_or rs k d)) a.job a.number a.given (Some o) g (run_data r) → TakesSaidStep (held h ns rs) (held g ms qs) a (Ok (Ends o))
      taken_to_end same g r o ms qs me qe goes e said s st = answer_ends s e a said ns rs k d (there s st) n has same pl budget g r o ms qs st.1 st.2 me qe (on s st (Some o) g (run_data r) goes)

-- ---- lists of machines
-- a machine that is as it was leaves all as they were
pub set_same : (rs : List BuildRun) (k : ℕ) (d r : BuildRun) → run_data r ≡ run_data (get_or rs k d) → map run_data (set rs k r) ≡ map run_data rs
set_same [] k d r e = refl
set_same (q ∷ rs) zero d r e = ap (λ y. y ∷ map run_data rs) e
set_same (q ∷ rs) (suc k) d r e = ap (λ l. run_data q ∷ l) (set_same rs k d r e)

pub set_gone : (rs : List BuildRun) (k : ℕ) (r : BuildRun) → take k (set rs k r) ++ drop (suc k) (set rs k r) ≡ take k rs ++ drop (suc k) rs
set_gone [] k r = refl
set_gone (q ∷ rs) zero r = refl
set_gone (q ∷ rs) (suc k) r = ap (λ l. q ∷ l) (set_gone rs k r)
