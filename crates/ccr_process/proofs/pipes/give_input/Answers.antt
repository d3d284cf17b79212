use Rattle.std.proofs.Common.{◌++◌, ◌∷◌, [], ◌∙◌, ap, arith, rules}
use Rattle.std.proofs.lemmas.Grind.{common_steps}
use Rattle.ccr_process.specs.Pipes.{troubled}
use Rattle.ccr_process.specs.Piping.{writes}
use Rattle.ccr_process.proofs.Calls.{writing-taken, writing-again, writing-nothing, writing-closed, writing-failed}
use Rattle.ccr_process.proofs.pipes.give_input.Goals as goal
use Rattle.ccr_process.proofs.pipes.give_input.Goals.{in-Ok, in-Err-Interrupted}

pub returns-in-Ok-eq0 : goal.returns-in-Ok-eq0
returns-in-Ok-eq0 g c = writing-nothing _ _ _ _ _ _ c.in-Ok-eq0.field-0 c.loop.invariant c.in-Ok-eq0.ensures.noted c.loop-test.true (search rules) c.in-Ok-eq0.ensures.bytes

pub returns-in-Err-Closed : goal.returns-in-Err-Closed
returns-in-Err-Closed g c =
    writing-closed _ _ _ _ _ _ c.loop.invariant
    (c.in-Err-Closed.ensures.noted ∙ ap (λ t. writes c.loop.pipe ++ troubled t ∷ []) c.in-Err-Closed.field-0-is)
    c.loop-test.true c.in-Err-Closed.ensures.bytes

pub returns-in-Err-Failed : goal.returns-in-Err-Failed
returns-in-Err-Failed g c =
    writing-failed _ _ _ _ _ _ c.loop.invariant
    (c.in-Err-Failed.ensures.noted ∙ ap (λ t. writes c.loop.pipe ++ troubled t ∷ []) c.in-Err-Failed.field-0-is)
    c.loop-test.true c.in-Err-Failed.ensures.bytes

pub loop-preserved : goal.loop-preserved
loop-preserved g c = elim c.match-write.branch [
  | in-Ok w ↦ rw w.rest-is (writing-taken _ _ _ _ _ _ _ w.in-Ok.count c.loop.invariant w.in-Ok.ensures.noted (search rules) (search rules) (grind (arith, common_steps)) w.in-Ok.ensures.bytes)
  | in-Err-Interrupted w ↦ rw w.rest-is
      (writing-again _ _ _ _ _ _ c.loop.invariant
      (w.in-Err-Interrupted.ensures.noted ∙ ap (λ t. writes c.loop.pipe ++ troubled t ∷ []) w.in-Err-Interrupted.field-0-is)
      w.in-Err-Interrupted.ensures.bytes)
]
