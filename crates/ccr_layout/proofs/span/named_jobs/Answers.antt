use Rattle.std.proofs.Common.{ℕ, ◌+◌, List, sym, ap, subst}
use Rattle.std.specs.declared.vec.Vec.{Vec}
use Rattle.std.specs.declared.alloc.Global.{Global}
use Rattle.std.proofs.lemmas.Bool.{MatchBool-at_true, MatchBool-at_false}
use Rattle.ccr_layout.specs.Nodes.{IsJob, IsResource}
use Rattle.ccr_layout.specs.Passed.{kind_in, edge_in, AreNamed}
use Rattle.ccr_layout.proofs.ColumnLaws.{not_both}
use Rattle.ccr_layout.proofs.PassedLaws.{named_same, named_more}
use Rattle.ccr_layout.proofs.span.named_jobs.Goals as goal
use Rattle.ccr_layout.proofs.span.named_jobs.Goals.{then-is_job+then-is_job-2+in_ok-push_named, else-is_job, else-is_job-via-then-is_job+else-is_job-2, else-is_job-via-else-is_job}

pub loop-edge-preserved : goal.loop-edge-preserved
loop-edge-preserved c =
    let nodes = c.args.nodes.now in
    let edges = c.args.edges.now in
    let i = c.loop-edge.edge-index in
    let e = edge_in edges i in
    let named = c.loop-edge.named.items in
    let is = c.loop-edge.invariant in
    let P : List (Vec ℕ Global) → Type 0 = λ xs. AreNamed nodes edges (i + 1) xs in
    elim c.if-is_job.branch [
      | then-is_job+then-is_job-2+in_ok-push_named w ↦ subst P (sym (ap (λ v. v.items) w.named-is)) (named_more nodes edges i named is c.loop-edge-test.true w.push_named.new.named.items (
        MatchBool-at_true (IsJob (kind_in nodes e.source)) (IsResource (kind_in nodes e.source)) w.if-is_job.true c.is_job.ensures,
        MatchBool-at_true (IsJob (kind_in nodes e.target)) (IsResource (kind_in nodes e.target)) w.if-is_job-2.true w.is_job-then-is_job.ensures,
      )
          w.in_ok-push_named.ensures.long w.in_ok-push_named.ensures.pushed w.in_ok-push_named.ensures.others w.in_ok-push_named.ensures.past)
      | else-is_job w ↦ subst P (sym (ap (λ v. v.items) w.named-is)) (elim w.else-is_job.branch [
        | else-is_job-via-then-is_job+else-is_job-2 v ↦ named_same nodes edges i named is c.loop-edge-test.true (λ p. not_both (kind_in nodes e.target)
            (MatchBool-at_false (IsJob (kind_in nodes e.target)) (IsResource (kind_in nodes e.target)) v.if-is_job-2.false v.is_job-then-is_job.ensures) p.1)
        | else-is_job-via-else-is_job v ↦ named_same nodes edges i named is c.loop-edge-test.true (λ p. not_both (kind_in nodes e.source)
            (MatchBool-at_false (IsJob (kind_in nodes e.source)) (IsResource (kind_in nodes e.source)) v.if-is_job.false c.is_job.ensures) p.0)
      ])
    ]
