use Rattle.std.proofs.Common.{◌≡◌, ℕ, ◌≤◌, List, Option, length, sym, subst, arith}
use Rattle.std.proofs.lemmas.List.Elements.{All-weaker}
use Rattle.std.specs.declared.vec.Vec.{Vec}
use Rattle.std.specs.declared.alloc.Global.{Global}
use Rattle.ccr_layout.specs.Layers.{naming, AreLayers}
use Rattle.ccr_layout.specs.Nodes.{job_count}
use Rattle.ccr_layout.specs.Columns.{AreGotten, ArePut, AreStood}
use Rattle.ccr_layout.specs.Passed.{AreNamed}
use Rattle.ccr_layout.proofs.ColumnLaws.{stood_more}
use Rattle.ccr_layout.proofs.PassedLaws.{naming_few, lead_on}
use Rattle.ccr_layout.proofs.span.columns_of.Goals as goal

pub returns-clause-few : goal.returns-clause-few
returns-clause-few c =
    let nodes = c.args.nodes.now in
    let edges = c.args.edges.now in
    let named = c.as_slice-named.result.now in
    let layers = c.as_slice-layers.result.now in
    let N : List (Vec ℕ Global) → Type 0 = λ xs. AreNamed nodes edges (length edges) xs in
    let L : List ℕ → Type 0 = λ xs. AreLayers named xs in
    let names = naming_few nodes edges (length edges) named (subst N (sym c.as_slice-named.ensures.value) c.in_ok-named.ensures) in
    let are : AreLayers named layers = subst L (sym c.as_slice-layers.ensures.value) c.in_ok-layers.ensures in
    c.loop-node.invariant.few (job_count nodes) (All-weaker (λ l. l ≤ naming named) (λ l. l ≤ job_count nodes) (λ l h. omega (arith, h, names)) layers are.few)

pub loop-node-preserved : goal.loop-node-preserved
loop-node-preserved c =
    let P : List ℕ → Type 0 = λ xs. ArePut c.args.nodes.now c.args.edges.now c.as_slice-layers.result.now (length c.args.edges.now) xs in
    let G : List (Option ℕ) → Type 0 = λ xs. AreGotten c.args.nodes.now c.args.edges.now c.as_slice-layers.result.now (length c.args.edges.now) xs in
    let put = subst P (sym c.as_slice-put.ensures.value) c.in_ok-put.ensures in
    let gotten = subst G (sym c.as_slice-gotten.ensures.value) c.in_ok-gotten.ensures in
    stood_more c.args.nodes.now c.as_slice-layers.result.now c.as_slice-gotten.result.now c.as_slice-put.result.now c.loop-node.columns.items c.push.new.self.items c.loop-node.node c.column_of-column.result
    c.loop-node.invariant c.column_of-column.ensures.low (λ m all. c.column_of-column.ensures.few m all (put.few m all) (λ n at. gotten.few m c.loop-node.node n all at)) c.column_of-column.ensures.job c.column_of-column.ensures.gets c.column_of-column.ensures.puts c.in_ok-push.ensures.items

pub returns-clause-lead : goal.returns-clause-lead
returns-clause-lead c =
    let nodes = c.args.nodes.now in
    let edges = c.args.edges.now in
    let named = c.as_slice-named.result.now in
    let layers = c.as_slice-layers.result.now in
    let end : c.loop-node.node ≡ length nodes = omega (arith, c.loop-node-test.false, c.loop-node.auto.node-end) in
    let N : List (Vec ℕ Global) → Type 0 = λ xs. AreNamed nodes edges (length edges) xs in
    let L : List ℕ → Type 0 = λ xs. AreLayers named xs in
    let G : List (Option ℕ) → Type 0 = λ xs. AreGotten nodes edges layers (length edges) xs in
    let P : List ℕ → Type 0 = λ xs. ArePut nodes edges layers (length edges) xs in
    let S : ℕ → Type 0 = λ n. AreStood nodes layers c.as_slice-gotten.result.now c.as_slice-put.result.now c.loop-node.columns.items n in
    lead_on nodes edges named layers c.as_slice-put.result.now c.loop-node.columns.items c.as_slice-gotten.result.now
    (subst N (sym c.as_slice-named.ensures.value) c.in_ok-named.ensures) (subst L (sym c.as_slice-layers.ensures.value) c.in_ok-layers.ensures)
    (subst G (sym c.as_slice-gotten.ensures.value) c.in_ok-gotten.ensures) (subst P (sym c.as_slice-put.ensures.value) c.in_ok-put.ensures) (subst S end c.loop-node.invariant)
