-- Which builds were made over any number of openings of one database.
use Rattle.std.proofs.Common.{◌≡◌, ◌⊎◌, inl, inr, ℕ, List, [], ◌∷◌, refl, sym, ◌∙◌, subst}
use Rattle.std.specs.Prelude.{Contains, unwrap_or}
use Rattle.ccr_history.specs.Text.{Text}
use Rattle.ccr_history.specs.Builds.{BuildData}
use Rattle.ccr_history.specs.Changes.{changed}
use Rattle.ccr_history.specs.History.{HistoryData, IsHistory, no_history}
use Rattle.ccr_history.proofs.ChangeLaws.{all_kept}
use Rattle.ccr_steps.specs.Runs.{RunData}
use Rattle.ccr_problem.proofs.Among.{among_from, contains_from}
use Rattle.ccr_core.specs.Cores.{core_data}
use Rattle.ccr_core.specs.Holding.{AreRuns}
use Rattle.ccr_core.specs.Kept.{IsPipeline}
use Rattle.ccr_core.specs.MadeInRun.{IsKept, MadeInRun}
use Rattle.ccr_core.specs.Resumed.{resumed}
use Rattle.ccr_core.specs.State.{RunningData, no_pipeline}
use Rattle.ccr_core.proofs.MadeBest.{each_is_made_best, used_stays, resumed_from, resumed_keeps}
use Rattle.ccr_core.proofs.Piping.{option_kept}
use Rattle.ccr_core.proofs.Resuming.{all_cut}
use Rattle.ccr_serve.specs.Openings.{ResumedBegins, Opening, IsOpening, MadeInOne, OpeningsMakeBest, AllIsMadeBest, UsedStaysOverOpenings}
use Rattle.ccr_serve.proofs.Making.{kept_by_kept, kept_itself, made_by_made}

-- ---- how a server begins
none_runs : (ns : List (Text × ℕ)) (rs : List RunData) (bs : List RunningData) → ns ≡ [] → rs ≡ [] → AreRuns ns rs bs → bs ≡ []
none_runs [] [] [] n r are = refl
none_runs [] [] (b ∷ bs) n r are = absurd are
none_runs [] (r ∷ rs) bs n e are = absurd (cc e)
none_runs (n ∷ ns) rs bs e r are = absurd (cc e)

pub resumed_begins : ResumedBegins
resumed_begins h budget parts s rules is stands =
    let same : s.history ≡ changed (resumed h) h = sym stands.0 ∙ is.history in
    record {
      history = same;
      starts = record {
        history = subst IsHistory (sym same) (all_kept (resumed h) h rules (all_cut h rules.1.1));
        pipeline = subst (λ o. IsPipeline (unwrap_or o no_pipeline)) stands.1 (option_kept parts.pipeline);
        none_runs = none_runs (core_data parts).names (core_data parts).runs s.running is.names is.runs stands.3;
      };
    }

-- ---- one opening
made_so : (o : Opening) (a c : BuildData) → a.job ≡ c.job → a.number ≡ c.number → a.used ≡ c.used
    → MadeInRun o.start o.last o.events o.replies a → MadeInRun o.start o.last o.events o.replies c
made_so o a c job number used m = record {
  at = m.at;
  made = made_by_made m.at.before m.at.event m.at.reply a c job number used m.made;
}

module _ (h : HistoryData) (o : Opening) (is : IsOpening h o) where
  -- what was there as the server began was there before
  was_there : (c : BuildData) → IsKept o.start.history c → IsKept h c
  was_there c k =
      kept_by_kept h k.it c k.job k.number k.used
      (resumed_from h k.it (subst (λ g. Contains g.builds k.it) is.begins.history k.there))

  opening_makes : (c : BuildData) → Contains o.last.history.builds c
      → IsKept h c ⊎ MadeInRun o.start o.last o.events o.replies c
  opening_makes c there =
      by (each_is_made_best o.start o.last o.events o.replies is.begins.starts is.kept is.run c there)
    where
      by : IsKept o.start.history c ⊎ MadeInRun o.start o.last o.events o.replies c
          → IsKept h c ⊎ MadeInRun o.start o.last o.events o.replies c
      by (inl k) = inl (was_there c k)
      by (inr m) = inr m

  opening_keeps : (b : BuildData) → Contains h.builds b → IsKept o.last.history b
  opening_keeps b there =
      let first : IsKept o.start.history b = subst (λ g. IsKept g b) (sym is.begins.history) (resumed_keeps h b there) in
      kept_by_kept o.last.history first.it b first.job first.number first.used
      (used_stays o.start o.last o.events o.replies is.begins.starts is.kept is.run first.it first.there)

-- ---- the laws
later : (o : Opening) (os : List Opening) (c : BuildData) → MadeInOne os c → MadeInOne (o ∷ os) c
later o os c m = record {
  opening = m.opening;
  there = contains_from (o ∷ os) m.opening (inr (among_from os m.opening m.there));
  made = m.made;
}

pub openings_make_best : OpeningsMakeBest
openings_make_best h after [] same c there = inl (kept_itself h c (subst (λ g. Contains g.builds c) same there))
openings_make_best h after (o ∷ os) (is, more) c there =
    by (openings_make_best o.last.history after os more c there)
  where
    first : (k : IsKept o.last.history c) → IsKept h k.it ⊎ MadeInRun o.start o.last o.events o.replies k.it
        → IsKept h c ⊎ MadeInOne (o ∷ os) c
    first k (inl was) = inl (kept_by_kept h k.it c k.job k.number k.used was)
    first k (inr m) = inr (record {
      opening = o;
      there = contains_from (o ∷ os) o (inl refl);
      made = made_so o k.it c k.job k.number k.used m;
    })

    by : IsKept o.last.history c ⊎ MadeInOne os c → IsKept h c ⊎ MadeInOne (o ∷ os) c
    by (inl k) = first k (opening_makes h o is k.it k.there)
    by (inr m) = inr (later o os c m)

pub all_is_made_best : AllIsMadeBest
all_is_made_best after os are c there = by (openings_make_best no_history after os are c there)
  where
    by : IsKept no_history c ⊎ MadeInOne os c → MadeInOne os c
    by (inl k) = absurd (among_from [] k.it k.there)
    by (inr m) = m

pub used_stays_over_openings : UsedStaysOverOpenings
used_stays_over_openings h after [] same b there = subst (λ g. IsKept g b) (sym same) (kept_itself h b there)
used_stays_over_openings h after (o ∷ os) (is, more) b there =
    let k = opening_keeps h o is b there in
    kept_by_kept after k.it b k.job k.number k.used
    (used_stays_over_openings o.last.history after os more k.it k.there)
