use Rattle.std.proofs.Common.{◌≡◌, ◌+◌, ◌<◌, ◌++◌, ◌∷◌, [], List, length, take, drop, ap, sym, ◌∙◌, subst, ap₂}
use Rattle.ccr_history.specs.declared.builds.TheConstants.{MOST_BUILDS}
use Rattle.ccr_history.specs.Tables.{TableData}
use Rattle.ccr_history.specs.Builds.{BuildData, count_of}
use Rattle.ccr_history.specs.History.{HistoryData, IsBuild}
use Rattle.ccr_store.specs.Listed.{listed_pairs}
use Rattle.ccr_store.proofs.ReadRows.{handed_on}
use Rattle.ccr_store.proofs.ReadBuilds.{build_read, builds_whole}
use Rattle.ccr_store.proofs.reading.add_builds.Goals as goal

pub returns-in_err-rest-clause-read : goal.returns-in_err-rest-clause-read
returns-in_err-rest-clause-read c bs rules texts none builds pairs =
    let i = c.loop-row.row-index in
    let so_far = c.loop-row.invariant.read bs rules texts none builds pairs in
    let it = build_read c.args.history.now.tables bs c.args.builds.now i c.row-item.result rules texts builds c.loop-row-test.true c.row-item.is in
    let known : take i bs ≡ c.loop-row.history.builds = sym (ap (λ (h : HistoryData). h.builds) so_far.0) in
    let tables = sym (ap (λ (h : HistoryData). h.tables) so_far.0) in
    handed_on _ c.from_residual.result _ c.from_residual.ensures.1
    (c.in_err-rest.ensures.read (i + 1) it.0 (drop (i + 1) bs) it.1 (subst (λ (ts : List TableData). IsBuild ts it.0) tables it.2) it.3 it.4 (so_far.1 ∙ ap (listed_pairs (i + 1)) it.5)
    (it.6 ∙ ap (λ (l : List BuildData). count_of it.0.job l + 1) known) (subst (λ (l : List BuildData). length l < MOST_BUILDS) known it.7))

pub loop-row-preserved : goal.loop-row-preserved
loop-row-preserved c = record {
  read = λ bs rules texts none builds pairs.
      let i = c.loop-row.row-index in
      let so_far = c.loop-row.invariant.read bs rules texts none builds pairs in
      let it = build_read c.args.history.now.tables bs c.args.builds.now i c.row-item.result rules texts builds c.loop-row-test.true c.row-item.is in
      let known : take i bs ≡ c.loop-row.history.builds = sym (ap (λ (h : HistoryData). h.builds) so_far.0) in
      let tables = sym (ap (λ (h : HistoryData). h.tables) so_far.0) in
      let one =
      c.in_ok-rest.ensures.read (i + 1) it.0 (drop (i + 1) bs) it.1 (subst (λ (ts : List TableData). IsBuild ts it.0) tables it.2) it.3 it.4 (so_far.1 ∙ ap (listed_pairs (i + 1)) it.5)
      (it.6 ∙ ap (λ (l : List BuildData). count_of it.0.job l + 1) known) (subst (λ (l : List BuildData). length l < MOST_BUILDS) known it.7) in (
        one.1 ∙ ap₂ (λ (h : HistoryData) (l : List BuildData). record h { builds = l }) so_far.0 (ap (λ (l : List BuildData). l ++ it.0 ∷ []) (sym known) ∙ sym it.8),
        one.0,
      );
  kept = (c.in_ok-rest.ensures.kept.0 ∙ c.loop-row.invariant.kept.0, c.in_ok-rest.ensures.kept.1 ∙ c.loop-row.invariant.kept.1);
}

pub returns-clause-read : goal.returns-clause-read
returns-clause-read c bs rules texts none builds pairs =
    let so_far = c.loop-row.invariant.read bs rules texts none builds pairs in
    so_far.0 ∙ ap (λ (l : List BuildData). record c.args.history.now { builds = l }) (builds_whole bs c.args.builds.now c.loop-row.row-index builds c.loop-row-test.false)
