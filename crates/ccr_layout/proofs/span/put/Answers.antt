use Rattle.std.proofs.Common.{◌≡◌, ℕ, ◌+◌, List, true, false, set, max, slice_index, sym, ap, ◌∙◌, subst, arith}
use Rattle.std.proofs.lemmas.Bool.{MatchBool-at_true, not-true, not-false}
use Rattle.ccr_layout.specs.Nodes.{IsJob, IsResource}
use Rattle.ccr_layout.specs.Passed.{kind_in, edge_in}
use Rattle.ccr_layout.specs.Columns.{ArePut}
use Rattle.ccr_layout.proofs.ColumnLaws.{put_same, put_more}
use Rattle.ccr_layout.proofs.span.put.Goals as goal
use Rattle.ccr_layout.proofs.span.put.Goals.{then-not-is_job, else-not-is_job}

pub loop-edge-preserved : goal.loop-edge-preserved
loop-edge-preserved c =
    let nodes = c.args.nodes.now in
    let edges = c.args.edges.now in
    let layers = c.args.layers.now in
    let i = c.loop-edge.edge-index in
    let e = edge_in edges i in
    let old = c.loop-edge.columns.items in
    let P : List ℕ → Type 0 = λ xs. ArePut nodes edges layers (i + 1) xs in
    elim c.if-not-is_job.branch [
      | then-not-is_job w ↦ (let r : c.is_job.result ≡ false = grind (arith, not-true, w.if-not-is_job.true) in
          subst P (sym (ap (λ v. v.items) w.columns-is ∙ w.note_greatest.ensures
          ∙ ap (λ n. set old e.target (max (slice_index old e.target) (n + 2))) w.column_at-column.ensures))
          (put_more nodes edges layers old i c.loop-edge.invariant c.requires))
      | else-not-is_job w ↦ (let r : c.is_job.result ≡ true = grind (arith, not-false, w.if-not-is_job.false) in
          subst P (sym (ap (λ v. v.items) w.columns-is)) (put_same nodes edges layers old i c.loop-edge.invariant
          (MatchBool-at_true (IsJob (kind_in nodes e.target)) (IsResource (kind_in nodes e.target)) r c.is_job.ensures)))
    ]
