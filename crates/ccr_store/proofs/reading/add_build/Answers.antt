use Rattle.std.proofs.Common.{ℕ, ◌+◌, ◌++◌, ◌∷◌, [], List, map, ap, sym, ◌∙◌, subst}
use Rattle.sqlite.specs.Order.{Row, column}
use Rattle.ccr_history.specs.Tables.{TableData}
use Rattle.ccr_history.specs.Builds.{count_of}
use Rattle.ccr_history.specs.History.{HistoryData, IsBuild, AreTables}
use Rattle.ccr_store.specs.Listed.{listed_pairs}
use Rattle.ccr_store.specs.Rows.{moved_row, used_row}
use Rattle.ccr_store.proofs.OneHistory.{own, own_at, pairs_from}
use Rattle.ccr_store.proofs.ReadRows.{handed_on, split, same_words}
use Rattle.ccr_store.proofs.ReadTables.{here_at, not_at, number_read}
use Rattle.ccr_store.proofs.ReadBuilds.{moved_empty, used_named, begun, number_new}
use Rattle.ccr_store.proofs.reading.add_build.Goals as goal

pub returns-in_err-number-clause-read : goal.returns-in_err-number-clause-read
returns-in_err-number-clause-read c id b bs small rules texts at rest number room =
    let h = c.args.history.now in
    let same = number_read id c.columns-id.result.0 c.args.row.now _ at (ap (λ (s : Row). column s 0) c.columns-id.ensures) in
    let count = c.pair_count.ensures.is (own id b) (listed_pairs (id + 1) bs) rest (here_at id c.columns-id.result.0 (own id b) same (own_at id b)) (not_at id c.columns-id.result.0 (listed_pairs (id + 1) bs) same (pairs_from (id + 1) bs)) in
    let parts = split c.pair_count.result c.args.rest.now (own id b) (listed_pairs (id + 1) bs) c.split_at.result.0.now c.split_at.result.1.now rest count c.split_at.ensures.front c.split_at.ensures.back in
    let few = c.moved_count.ensures.is (map (moved_row id) b.moved) (map (used_row id) b.used) parts.0 (moved_empty id b.moved) (used_named h.tables id b.used rules.1) in
    let halves = split c.moved_count.result c.split_at.result.0.now (map (moved_row id) b.moved) (map (used_row id) b.used) c.split_at-2.result.0.now c.split_at-2.result.1.now parts.0 few c.split_at-2.ensures.front c.split_at-2.ensures.back in
    handed_on _ c.from_residual.result _ c.from_residual.ensures.1 (c.in_err-number.ensures.read id b c.rules.ensures.0 rules texts halves.1 room)

pub returns-in_err-end_build-clause-read : goal.returns-in_err-end_build-clause-read
returns-in_err-end_build-clause-read c id b bs small rules texts at rest number room =
    let h = c.args.history.now in
    let same = number_read id c.columns-id.result.0 c.args.row.now _ at (ap (λ (s : Row). column s 0) c.columns-id.ensures) in
    let count = c.pair_count.ensures.is (own id b) (listed_pairs (id + 1) bs) rest (here_at id c.columns-id.result.0 (own id b) same (own_at id b)) (not_at id c.columns-id.result.0 (listed_pairs (id + 1) bs) same (pairs_from (id + 1) bs)) in
    let parts = split c.pair_count.result c.args.rest.now (own id b) (listed_pairs (id + 1) bs) c.split_at.result.0.now c.split_at.result.1.now rest count c.split_at.ensures.front c.split_at.ensures.back in
    let few = c.moved_count.ensures.is (map (moved_row id) b.moved) (map (used_row id) b.used) parts.0 (moved_empty id b.moved) (used_named h.tables id b.used rules.1) in
    let halves = split c.moved_count.result c.split_at.result.0.now (map (moved_row id) b.moved) (map (used_row id) b.used) c.split_at-2.result.0.now c.split_at-2.result.1.now parts.0 few c.split_at-2.ensures.front c.split_at-2.ensures.back in
    let name = same_words c.columns-id.result.1.now b.job (ap (λ (s : Row). column s 1) (sym c.columns-id.ensures ∙ at)) in
    let one = c.in_ok-number.ensures.read id b c.rules.ensures.0 rules texts halves.1 room in
    let mid = begun b h c.begin_build.new.history c.columns-id.result.1.now one.1 name number in
    let tables = sym (ap (λ (k : HistoryData). k.tables) mid) in
    handed_on _ c.from_residual-in_err-end_build.result _ c.from_residual-in_err-end_build.ensures.1
    (c.in_err-end_build.ensures.read id b h.builds (subst AreTables tables c.rules.ensures.0) (subst (λ (ts : List TableData). IsBuild ts b) tables rules) at halves.0 name
    (one.0 ∙ ap (λ (j : List ℕ). count_of j h.builds + 1) name ∙ sym number) (number_new b h.builds c.rules.ensures.1.1 number) (ap (λ (k : HistoryData). k.builds) mid))

pub returns-clause-read : goal.returns-clause-read
returns-clause-read c id b bs small rules texts at rest number room =
    let h = c.args.history.now in
    let same = number_read id c.columns-id.result.0 c.args.row.now _ at (ap (λ (s : Row). column s 0) c.columns-id.ensures) in
    let count = c.pair_count.ensures.is (own id b) (listed_pairs (id + 1) bs) rest (here_at id c.columns-id.result.0 (own id b) same (own_at id b)) (not_at id c.columns-id.result.0 (listed_pairs (id + 1) bs) same (pairs_from (id + 1) bs)) in
    let parts = split c.pair_count.result c.args.rest.now (own id b) (listed_pairs (id + 1) bs) c.split_at.result.0.now c.split_at.result.1.now rest count c.split_at.ensures.front c.split_at.ensures.back in
    let few = c.moved_count.ensures.is (map (moved_row id) b.moved) (map (used_row id) b.used) parts.0 (moved_empty id b.moved) (used_named h.tables id b.used rules.1) in
    let halves = split c.moved_count.result c.split_at.result.0.now (map (moved_row id) b.moved) (map (used_row id) b.used) c.split_at-2.result.0.now c.split_at-2.result.1.now parts.0 few c.split_at-2.ensures.front c.split_at-2.ensures.back in
    let name = same_words c.columns-id.result.1.now b.job (ap (λ (s : Row). column s 1) (sym c.columns-id.ensures ∙ at)) in
    let one = c.in_ok-number.ensures.read id b c.rules.ensures.0 rules texts halves.1 room in
    let mid = begun b h c.begin_build.new.history c.columns-id.result.1.now one.1 name number in
    let tables = sym (ap (λ (k : HistoryData). k.tables) mid) in
    let two =
    c.in_ok-end_build.ensures.read id b h.builds (subst AreTables tables c.rules.ensures.0) (subst (λ (ts : List TableData). IsBuild ts b) tables rules) at halves.0 name
    (one.0 ∙ ap (λ (j : List ℕ). count_of j h.builds + 1) name ∙ sym number) (number_new b h.builds c.rules.ensures.1.1 number) (ap (λ (k : HistoryData). k.builds) mid) in
    (parts.1, two ∙ ap (λ (k : HistoryData). record k { builds = h.builds ++ b ∷ [] }) mid)
