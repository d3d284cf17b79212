use Rattle.std.proofs.Common.{◌++◌, ◌∷◌, [], ◌∙◌, ap, arith, rules}
use Rattle.std.proofs.lemmas.Grind.{common_steps}
use Rattle.std.proofs.lemmas.Result.{err_from_is_err_and}
use Rattle.ccr_process.specs.Pipes.{troubled}
use Rattle.ccr_process.specs.Piping.{reads}
use Rattle.ccr_process.proofs.Calls.{reading-end, reading-closed, reading-failed, reading-over, reading-taken, reading-again, reading-whole-at}
use Rattle.ccr_process.proofs.pipes.take_output.Goals as goal
use Rattle.ccr_process.proofs.pipes.take_output.Goals.{in-Ok+in_ok-add_kept-in-Ok, in-Err-Interrupted}

pub returns-in-Ok-eq0-clause-calls : goal.returns-in-Ok-eq0-clause-calls
returns-in-Ok-eq0-clause-calls g c = reading-end _ _ _ _ c.loop.output _ c.in-Ok-eq0.field-0 _ c.loop.invariant c.in-Ok-eq0.ensures.noted c.loop-test.true (search rules) c.in-Ok-eq0.ensures.bytes.0

pub returns-in-Ok-eq0-clause-whole : goal.returns-in-Ok-eq0-clause-whole
returns-in-Ok-eq0-clause-whole g c is = reading-whole-at _ _ _ _ _ _ c.in-Ok-eq0.field-0 _ c.loop.invariant (search rules) c.in-Ok-eq0.ensures.bytes (search rules) is

pub returns-in_err-add_kept-in-Ok-clause-calls : goal.returns-in_err-add_kept-in-Ok-clause-calls
returns-in_err-add_kept-in-Ok-clause-calls g c =
    let fault = c.in_err-add_kept-in-Ok in
    let p = err_from_is_err_and c.from_residual.result c.from_residual.ensures.1 in
    rw (p.1, p.2) (reading-over _ _ _ _ _ _ c.in-Ok.count _ _ _ _ c.loop.invariant c.in-Ok.ensures.noted c.loop-test.true (search rules) (search rules) c.in-Ok.ensures.bytes.0 fault.ensures.kept fault.ensures.readable fault.ensures.too_long fault.ensures.no_memory (search rules) (grind (arith, common_steps)))

pub returns-in-Err-Closed-clause-calls : goal.returns-in-Err-Closed-clause-calls
returns-in-Err-Closed-clause-calls g c =
    reading-closed _ _ _ _ _ _ c.loop.invariant
    (c.in-Err-Closed.ensures.noted ∙ ap (λ t. reads c.loop.pipe ++ troubled t ∷ []) c.in-Err-Closed.field-0-is)
    c.loop-test.true c.in-Err-Closed.ensures.bytes

pub returns-in-Err-Failed-clause-calls : goal.returns-in-Err-Failed-clause-calls
returns-in-Err-Failed-clause-calls g c =
    reading-failed _ _ _ _ _ _ c.loop.invariant
    (c.in-Err-Failed.ensures.noted ∙ ap (λ t. reads c.loop.pipe ++ troubled t ∷ []) c.in-Err-Failed.field-0-is)
    c.loop-test.true c.in-Err-Failed.ensures.bytes

pub loop-preserved : goal.loop-preserved
loop-preserved g c = elim c.match-read.branch [
  | in-Ok+in_ok-add_kept-in-Ok w ↦ rw w.output-is (reading-taken _ _ _ _ _ _ _ w.in-Ok.count _ _ _ c.loop.invariant w.in-Ok.ensures.noted (search rules) (search rules) w.in-Ok.ensures.bytes.0 w.in_ok-add_kept-in-Ok.ensures.added w.in_ok-add_kept-in-Ok.ensures.fits (search rules) (grind (arith, common_steps)))
  | in-Err-Interrupted w ↦ rw w.output-is
      (reading-again _ _ _ _ _ _ c.loop.invariant
      (w.in-Err-Interrupted.ensures.noted ∙ ap (λ t. reads c.loop.pipe ++ troubled t ∷ []) w.in-Err-Interrupted.field-0-is)
      w.in-Err-Interrupted.ensures.bytes)
]
