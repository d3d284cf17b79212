use Rattle.std.proofs.Common.{◌≡◌, ℕ, ◌+◌, ◌≤◌, List, length, slice_index, sym, ap, ◌∙◌, subst, arith}
use Rattle.std.specs.Prelude.{All}
use Rattle.ccr_layout.specs.Nodes.{job_count}
use Rattle.ccr_layout.specs.Passed.{LeadOn}
use Rattle.ccr_layout.specs.Reaches.{AreReaches}
use Rattle.ccr_layout.proofs.StepLaws.{spans_more, spans_all}
use Rattle.ccr_layout.proofs.span.spans_of.Goals as goal

pub loop-node-preserved : goal.loop-node-preserved
loop-node-preserved c =
    let P : List ℕ → Type 0 = λ xs. All (λ n. n ≤ 402) xs in
    let F : List ℕ → Type 0 = λ xs. All (λ n. n ≤ job_count c.args.nodes.now + 2) xs in
    spans_more c.args.nodes.now c.as_slice-columns.result.now c.as_slice-reaches.result.now c.loop-node.node c.loop-node.spans.items c.push.new.self.items c.index-nodes-node.result c.span_of-span.result
    c.loop-node.invariant c.loop-node-test.true c.index-nodes-node.is c.span_of-span.ensures.span (c.span_of-span.ensures.column ∙ c.column_at-column.ensures) (c.span_of-span.ensures.reach ∙ c.column_at-reach.ensures)
    (subst P (sym c.as_slice-columns.ensures.value) c.in_ok-columns.ensures.low) (subst F (sym c.as_slice-columns.ensures.value) c.in_ok-columns.ensures.few) c.span_of-span.ensures.low c.span_of-span.ensures.port c.in_ok-push.ensures.items

pub returns : goal.returns
returns c =
    let is = c.loop-node.invariant in
    let n = length c.args.nodes.now in
    let end : c.loop-node.node ≡ n = omega (arith, c.loop-node-test.false, c.loop-node.auto.node-end) in
    let P : List ℕ → Type 0 = λ xs. AreReaches c.as_slice-columns.result.now c.args.edges.now (length c.args.edges.now) xs in
    let L : List ℕ → Type 0 = λ xs. LeadOn c.args.nodes.now c.args.edges.now (slice_index xs) in
    spans_all c.args.nodes.now c.args.edges.now c.loop-node.spans.items c.as_slice-columns.result.now c.as_slice-reaches.result.now (is.long ∙ end) (ap length c.as_slice-columns.ensures.value ∙ c.in_ok-columns.ensures.long)
    (λ k within. is.each k (omega (arith, within, end))) is.left is.few is.low is.ports (λ k within. is.col k (omega (arith, within, end))) (λ k within. is.rch k (omega (arith, within, end)))
    (subst P (sym c.as_slice-reaches.ensures.value) c.in_ok-reaches.ensures) (subst L (sym c.as_slice-columns.ensures.value) c.in_ok-columns.ensures.lead)
