-- What a build moved it used for its inputs and got, or it pushed it.
use Rattle.std.proofs.Common.{◌≡◌, ◌≢◌, ◌⊎◌, inl, inr, ℕ, Bool, true, false, cond, List, [], ◌∷◌, ◌++◌, Option, Some, None, refl, sym, ap, ◌∙◌, subst}
use Rattle.std.specs.Prelude.{Contains}
use Rattle.std.specs.List.{AllByRecursion}
use Rattle.std.proofs.lemmas.Bool.{false≢true}
use Rattle.serde_json.specs.Data.{Data}
use Rattle.ccr_history.specs.declared.build.Status.TheVariants.{Succeeded}
use Rattle.ccr_history.specs.Text.{Text}
use Rattle.ccr_history.specs.Builds.{UsedData, BuildData, is_before, with_moved, by_place, is_build_of, build_of}
use Rattle.ccr_history.specs.History.{IsTable, AreNumbered, IsHistory}
use Rattle.ccr_pipeline.specs.Inputs.{InputData, inputs}
use Rattle.ccr_steps.specs.Asks.{AnswerData, fetch, done, exchange, version_of}
use Rattle.ccr_steps.specs.Fetches.{WasPushed}
use Rattle.ccr_steps.specs.Gains.{MovedData}
use Rattle.ccr_steps.specs.Moves.{WasFetched}
use Rattle.ccr_steps.proofs.Gaining.{moves_its_own}
use Rattle.ccr_problem.specs.ProblemOf.{history_number}
use Rattle.ccr_problem.proofs.Among.{Among, among_from, contains_from, map_among, all_among}
use Rattle.ccr_problem.proofs.Ends.{rises, IsIt, only}
use Rattle.ccr_core.specs.Addressed.{addressed}
use Rattle.ccr_core.specs.EachBuild.{EndsAsMeant}
use Rattle.ccr_core.specs.EndedInRun.{Moment, EndsByAnswer, EndsAsMade, IsCutShort, EndedInRun}
use Rattle.ccr_core.specs.Events.{EventData, schedule, trigger, restart}
use Rattle.ccr_core.specs.Kept.{IsEvent, IsStart}
use Rattle.ccr_core.specs.MovedInRun.{WasGot, WasPushedTo, HasMovedItsOwn, EachStepMovesItsOwn, MovedInRun, EachMovesItsOwn}
use Rattle.ccr_core.specs.Own.{own}
use Rattle.ccr_core.specs.Replies.{Replied}
use Rattle.ccr_core.specs.Seen.{version_in, pair_of, pairs_of}
use Rattle.ccr_core.specs.State.{State, pipeline_of}
use Rattle.ccr_core.proofs.Choosing.{IsSeen}
use Rattle.ccr_core.proofs.Ending.{EndsSound, ends_step}
use Rattle.ccr_core.proofs.FetchingUsed.{found_among}
use Rattle.ccr_core.proofs.MadeBest.{history_then}
use Rattle.ccr_core.proofs.Moving.{moved_of, IsGot, all_split}
use Rattle.ccr_core.proofs.RunningLists.{id_refl}
use Rattle.ccr_core.proofs.Scoping.{IsUsedIn, used_pair}
use Rattle.ccr_core.proofs.Sound.{IsSound, leaves_step, leaves_run, starts}
use Rattle.ccr_core.proofs.Telling.{own_whole, each_has_its_fate}
use Rattle.ccr_core.proofs.Using.{IsRight}

-- ---- pairs, by scope and place
with_moved_among : (p x : ℕ × ℕ) (qs : List (ℕ × ℕ)) → Among (with_moved p qs) x → (p ≡ x) ⊎ Among qs x
with_moved_among p x [] h = h
with_moved_among p x (q ∷ qs) h = by (is_before p q) h (with_moved_among p x qs)
  where
    by : (t : Bool) → Among (cond t (p ∷ q ∷ qs) (q ∷ with_moved p qs)) x → (Among (with_moved p qs) x → (p ≡ x) ⊎ Among qs x) → (p ≡ x) ⊎ ((q ≡ x) ⊎ Among qs x)
    by true h more = h
    by false (inl e) more = inr (inl e)
    by false (inr h) more = on (more h)
      where
        on : (p ≡ x) ⊎ Among qs x → (p ≡ x) ⊎ ((q ≡ x) ⊎ Among qs x)
        on (inl e) = inl e
        on (inr a) = inr (inr a)

by_place_among : (ps : List (ℕ × ℕ)) (x : ℕ × ℕ) → Among (by_place ps) x → Among ps x
by_place_among [] x h = h
by_place_among (p ∷ ps) x h = by (with_moved_among p x (by_place ps) h) (by_place_among ps x)
  where
    by : (p ≡ x) ⊎ Among (by_place ps) x → (Among (by_place ps) x → Among ps x) → (p ≡ x) ⊎ Among ps x
    by (inl e) more = inl e
    by (inr a) more = inr (more a)

-- ---- a build is found by its number
some_found : (j : Text) (n : ℕ) (bs : List BuildData) (c : BuildData) → Among bs c → is_build_of j n c ≡ true → build_of j n bs ≡ None → ⊥
some_found j n [] c there it none = absurd there
some_found j n (b ∷ bs) c there it none = by (is_build_of j n b) refl there none (λ a. some_found j n bs c a it)
  where
    by : (t : Bool) → is_build_of j n b ≡ t → (b ≡ c) ⊎ Among bs c → cond t (Some b) (build_of j n bs) ≡ None → (Among bs c → build_of j n bs ≡ None → ⊥) → ⊥
    by true is there none more = absurd (cc (none))
    by false is (inl e) none more = false≢true (sym is ∙ ap (is_build_of j n) e ∙ it)
    by false is (inr a) none more = more a none

there_found : (bs : List BuildData) (c : BuildData) → AreNumbered bs → Among bs c → build_of c.job c.number bs ≡ Some c
there_found bs c numbered there = by (build_of c.job c.number bs) refl
  where
    itself : is_build_of c.job c.number c ≡ true
    itself = id_refl c.job c.number

    by : (o : Option BuildData) → build_of c.job c.number bs ≡ o → build_of c.job c.number bs ≡ Some c
    by None is = absurd (some_found c.job c.number bs c there itself is)
    by (Some d) is =
        let one : c ≡ d = all_among (IsIt c.job c.number Succeeded [] d) bs c (only c.job c.number Succeeded [] d bs (rises c.job bs numbered) is) there itself in
        is ∙ ap Some (sym one)

-- ---- what a build moved, that ended
module _ (after : State) (xs : List AnswerData) (c : BuildData) (full : EndsSound after xs c) (tables : AllByRecursion IsTable after.history.tables) (scope place : ℕ) where
  -- a place of the scope of the input's resource, as it was used for the input
  abbrev used_as : InputData → ℕ → UsedData
  used_as i n = record { input = i.name; scope = history_number (pipeline_of after) after.history i.resource; place = n }

  abbrev IsOwn : Type 0
  IsOwn = WasGot after.history full.meant.run.plan full.meant.run.exchanges c scope place ⊎ WasPushedTo (pipeline_of after) after.history full.meant.run.exchanges scope place

  -- a version that was fetched for an input
  module _ (m : MovedData) (stands : pair_of (pipeline_of after) after.history m ≡ (scope, place)) (i : InputData) (of_plan : Contains (inputs full.meant.run.plan) i) (of_resource : i.resource ≡ m.resource) (version : m.version ≡ version_of full.meant.run.inputs i.name) where
    -- the place that was used for the input is where it stands
    place_used : (n : ℕ) → Among c.used (used_as i n) → ◌≡◌ {A = ℕ × ℕ} (history_number (pipeline_of after) after.history i.resource, n) (scope, place)
    place_used n there =
        let right = all_among (IsRight after.history.tables full.meant.run.inputs) c.used (used_as i n) full.right there in
        let got = all_among (IsGot (IsSeen (pipeline_of after) after.history) full.meant.run.inputs) (inputs full.meant.run.plan) i full.got (among_from (inputs full.meant.run.plan) i of_plan) in
        let same : moved_of i.resource (version_of full.meant.run.inputs i.name) ≡ m = ap (λ r. moved_of r (version_of full.meant.run.inputs i.name)) of_resource ∙ ap (λ v. moved_of m.resource v) (sym version) in
        sym (used_pair (pipeline_of after) after.history full.meant.run.inputs i n tables got right) ∙ ap (pair_of (pipeline_of after) after.history) same ∙ stands

    version_used : (n : ℕ) → Among c.used (used_as i n) → m.version ≡ version_in after.history.tables scope place
    version_used n there =
        let right = all_among (IsRight after.history.tables full.meant.run.inputs) c.used (used_as i n) full.right there in
        version ∙ right.1 ∙ ap (λ (q : ℕ × ℕ). version_in after.history.tables q.0 q.1) (place_used n there)

    got_so : (params : Option Data) → Contains full.meant.run.exchanges (exchange (fetch i.name m.resource m.version params) done) → WasGot after.history full.meant.run.plan full.meant.run.exchanges c scope place
    got_so params fetched =
        let (n, there) = all_among (IsUsedIn (pipeline_of after) after.history c.used) (inputs full.meant.run.plan) i full.used_in (among_from (inputs full.meant.run.plan) i of_plan) in
        record {
          input = i;
          of_plan = of_plan;
          used = contains_from c.used (record { input = i.name; scope = scope; place = place }) (subst (λ (q : ℕ × ℕ). Among c.used (record { input = i.name; scope = q.0; place = q.1 })) (place_used n there) there);
          params = params;
          fetched = subst (λ v. Contains full.meant.run.exchanges (exchange (fetch i.name i.resource v params) done)) (version_used n there) (subst (λ r. Contains full.meant.run.exchanges (exchange (fetch i.name r m.version params) done)) (sym of_resource) fetched);
        }

  moved_so : (m : MovedData) → pair_of (pipeline_of after) after.history m ≡ (scope, place) → WasFetched full.meant.run.inputs full.meant.run.plan full.meant.run.exchanges m.resource m.version ⊎ WasPushed full.meant.run.exchanges m.resource m.version → IsOwn
  moved_so m stands (inl (name, params, (i, of_plan, is_name, of_resource, version), fetched)) =
      inl (got_so m stands i of_plan of_resource (version ∙ ap (version_of full.meant.run.inputs) (sym is_name)) params
      (subst (λ n. Contains full.meant.run.exchanges (exchange (fetch n m.resource m.version params) done)) (sym is_name) fetched))
  moved_so m stands (inr pushed) = inr (record { resource = m.resource; version = m.version; pushed = pushed; stands = stands })

  each_own : Contains c.moved (scope, place) → IsOwn
  each_own there =
      let placed : Among (by_place (pairs_of (pipeline_of after) after.history full.meant.gains.moved)) (scope, place) = subst (λ l. Among l (scope, place)) full.meant.moved (among_from c.moved (scope, place) there) in
      let (m, moved, stands) = map_among (pair_of (pipeline_of after) after.history) full.meant.gains.moved (scope, place) (by_place_among (pairs_of (pipeline_of after) after.history full.meant.gains.moved) (scope, place) placed) in
      moved_so m stands (moves_its_own full.meant.run.inputs full.meant.run.plan full.meant.run.exchanges full.meant.outcome full.meant.gains full.meant.meant m (contains_from full.meant.gains.moved m moved))

-- ---- the laws
pub each_step_moves_its_own : EachStepMovesItsOwn
each_step_moves_its_own s before after es rs e r start up kept run step ne c ends =
    record { ends = full.meant; each = λ scope place there. each_own after (own c.job c.number (es ++ e ∷ []) (rs ++ r ∷ [])) c full rules.0.2 scope place there }
  where
    sound : IsSound before
    sound = (leaves_run s es rs before up (starts s start) run).sound

    rules : IsHistory after.history
    rules = history_then _ before after (history_then _ s before start.history (leaves_run s es rs before up (starts s start) run)) (leaves_step before e r after kept sound step)

    full : EndsSound after (own c.job c.number (es ++ e ∷ []) (rs ++ r ∷ [])) c
    full = ends_step s before es rs start up run e r after step ne c ends

-- no restart is an answer, or makes a build
caused_apart : (before : State) (e : EventData) (r : Replied) (c : BuildData) → EndsByAnswer before e r c ⊎ EndsAsMade before e r c → e ≢ restart
caused_apart before e r c (inl (b, a, o, at, said, of_job, of_number, replied, status)) is = let both : None ≡ Some a = sym (ap addressed is) ∙ said in cc both
caused_apart before e r c (inr (none, inl asked, replied)) is = let both : schedule c.job ≡ restart = sym asked ∙ is in cc both
caused_apart before e r c (inr (none, inr asked, replied)) is = let both : trigger c.job ≡ restart = sym asked ∙ is in cc both

module _ (s after : State) (es : List EventData) (rs : List Replied) (start : IsStart s) (up : AllByRecursion IsEvent es) (c : BuildData) (succeeded : c.status ≡ Succeeded) (ended : EndedInRun s after es rs c) where
  abbrev m : Moment s after es rs
  m = ended.at

  ups : AllByRecursion IsEvent m.first × AllByRecursion IsEvent (m.event ∷ m.rest)
  ups = all_split IsEvent m.first (m.event ∷ m.rest) (subst (AllByRecursion IsEvent) m.events up)

  other : m.event ≢ restart
  other = by ended.cause
    where
      by : ((EndsByAnswer m.before m.event m.reply c ⊎ EndsAsMade m.before m.event m.reply c) × EndsAsMeant m.then (own c.job c.number es rs) c) ⊎ IsCutShort m.before m.event (own c.job c.number es rs) c → m.event ≢ restart
      by (inl (caused, meant)) = caused_apart m.before m.event m.reply c caused
      by (inr (is, ran, status, none)) = absurd (cc (succeeded, status))

  own_all : own c.job c.number (m.first ++ m.event ∷ []) (m.first_replies ++ m.reply ∷ []) ≡ own c.job c.number es rs
  own_all =
      own_whole s start m.before m.then after m.first m.rest m.first_replies m.rest_replies m.reply ups.0 m.led m.leads c ended.silent ended.ends m.event
      ∙ ap (λ l. own c.job c.number l (m.first_replies ++ m.reply ∷ m.rest_replies)) (sym m.events) ∙ ap (λ l. own c.job c.number es l) (sym m.replies)

  moves_then : HasMovedItsOwn m.then (own c.job c.number es rs) c
  moves_then =
      subst (λ xs. HasMovedItsOwn m.then xs c) own_all
      (each_step_moves_its_own s m.before m.then m.first m.first_replies m.event m.reply start ups.0 ups.1.0 m.led m.step other c ended.ends)

  moved_then : MovedInRun s after es rs c
  moved_then = record { at = ended.at; ended = ended.ends; moved = moves_then }

pub each_moves_its_own : EachMovesItsOwn
each_moves_its_own s after es rs start up run c there succeeded =
    by (each_has_its_fate s after es rs start up run c (there_found after.history.builds c rules.1.1 (among_from after.history.builds c there)) (λ e. cc (succeeded, e)))
  where
    rules : IsHistory after.history
    rules = history_then _ s after start.history (leaves_run s es rs after up (starts s start) run)

    by : (build_of c.job c.number s.history.builds ≡ Some c) ⊎ EndedInRun s after es rs c → Contains s.history.builds c ⊎ MovedInRun s after es rs c
    by (inl old) = inl (contains_from s.history.builds c (found_among c.job c.number s.history.builds c old).0)
    by (inr ended) = inr (moved_then s after es rs start up c succeeded ended)
