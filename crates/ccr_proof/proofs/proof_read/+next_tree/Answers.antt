use Rattle.std.proofs.Common.{◌≡◌, ◌+◌, ◌-◌, [], ◌∷◌, ◌++◌, ap, ◌∙◌, refl, arith, rules, Some, Err}
use Rattle.std.proofs.lemmas.Result.{err_from_is_err_and}
use Rattle.ccr_proof.specs.declared.proof_read.NodeLine.TheVariants as line
use Rattle.ccr_proof.specs.Tree.{trees_of, count_all}
use Rattle.ccr_proof.specs.ProofText.{node_on, next_tree}
use Rattle.ccr_proof.proofs.Trees.{count_is}
use Rattle.ccr_proof.proofs.ReadTree.{job_done, job_stop, halts_on, gives_err, children_step, count_push}
use Rattle.ccr_proof.proofs.proof_read.+next_tree.Goals as goal

pub returns-in_err-child-in-Some-Job-clause-read : goal.returns-in_err-child-in-Some-Job-clause-read
returns-in_err-child-in-Some-Job-clause-read t c =
    let is = rw c.in-Some.is at c.in_ok-line.ensures in
    let says : Some (line.Job c.in-Some-Job.job c.in-Some-Job.count) ≡ node_on c.args.format c.in-Some.line =
    cc (c.in-Some-Job.is, c.in-Some-Job.field-0-is, c.in-Some-Job.job-is, c.in-Some-Job.count-is, c.node_on.ensures, ap (node_on c.args.format) c.words.ensures) in
    let r = err_from_is_err_and c.from_residual-in_err-child-in-Some-Job.result c.from_residual-in_err-child-in-Some-Job.ensures.1 in
    let stops = halts_on c.in_err-child-in-Some-Job.field-0.0 (next_tree c.args.format (c.args.levels - 1) c.loop.nodes c.loop.lines) (next_tree c.args.format c.args.levels c.args.nodes.now c.args.lines.now)
    (λ x e. job_stop c.args.format c.args.levels c.args.nodes.now c.in-Some-Job.job c.in-Some-Job.count c.args.lines.now c.next.new.self c.in-Some.line (omega arith) is says (omega arith)
    (c.in-Some-Job.count - c.loop.counter) (c.in-Some-Job.count - (c.loop.counter + 1)) c.loop.nodes c.loop.children.items c.loop.lines x (omega arith) e c.loop.invariant.read)
    c.in_err-child-in-Some-Job.ensures.read in
    gives_err _ c.from_residual-in_err-child-in-Some-Job.result c.in_err-child-in-Some-Job.field-0.0 _ (r.1 ∙ ap (λ y. Err y) r.2) stops

pub loop-preserved : goal.loop-preserved
loop-preserved t c =
    let pushed : c.push.new.self.items ≡ c.loop.children.items ++ c.in_ok-child-in-Some-Job.child ∷ [] = search rules in
    let counted = ap (λ cs. count_all (trees_of cs)) pushed ∙ count_push c.loop.children.items c.in_ok-child-in-Some-Job.child in
    record {
      read = children_step (next_tree c.args.format (c.args.levels - 1)) (c.in-Some-Job.count - c.loop.counter) (c.in-Some-Job.count - (c.loop.counter + 1)) c.loop.nodes c.next_tree.new.nodes
          c.loop.children.items c.push.new.self.items c.loop.lines c.next_tree.new.lines c.in_ok-child-in-Some-Job.child _
          (omega arith) c.in_ok-child-in-Some-Job.ensures.read c.in_ok-child-in-Some-Job.ensures.counted pushed c.loop.invariant.read;
      counted = omega (arith, c.loop.invariant.counted, c.in_ok-child-in-Some-Job.ensures.counted, counted);
      few = c.in_ok-child-in-Some-Job.ensures.few;
    }

pub returns-in-Some-Job-clause-read : goal.returns-in-Some-Job-clause-read
returns-in-Some-Job-clause-read t c =
    let is = rw c.in-Some.is at c.in_ok-line.ensures in
    let says : Some (line.Job c.in-Some-Job.job c.in-Some-Job.count) ≡ node_on c.args.format c.in-Some.line =
    cc (c.in-Some-Job.is, c.in-Some-Job.field-0-is, c.in-Some-Job.job-is, c.in-Some-Job.count-is, c.node_on.ensures, ap (node_on c.args.format) c.words.ensures) in
    job_done c.args.format c.args.levels c.args.nodes.now c.in-Some-Job.job c.in-Some-Job.count c.args.lines.now c.next.new.self c.in-Some.line (omega arith) is says (omega arith)
    (c.in-Some-Job.count - c.loop.counter) c.loop.nodes c.loop.children.items c.loop.children c.loop.lines (omega arith) refl c.loop.invariant.read

pub returns-in-Some-Job-clause-counted : goal.returns-in-Some-Job-clause-counted
returns-in-Some-Job-clause-counted t c = let e = count_is _ c.in-Some-Job.job c.loop.children c.loop.children.items refl refl in omega (arith, c.loop.invariant.counted, e)
