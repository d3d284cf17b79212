use Rattle.std.proofs.Common.{◌++◌, ◌∷◌, [], ◌∙◌, Err, ap, arith, rules}
use Rattle.std.proofs.lemmas.Grind.{common_steps}
use Rattle.std.proofs.lemmas.Result.{err_from_is_err_and}
use Rattle.ccr_look.specs.Calls.{gave}
use Rattle.ccr_look.specs.Noted.{noted}
use Rattle.ccr_look.proofs.Reading.{reading-none, reading-more, reading-again, reading-full, reading-end, reading-hungry, reading-failed, reading-no_memory, reading-up, whole-full, whole-end}
use Rattle.ccr_look.proofs.reads.read_opened.Goals as goal
use Rattle.ccr_look.proofs.reads.read_opened.Goals.{in-Ok+in_ok-add-in-Ok, in-Err-Interrupted}

pub loop-init : goal.loop-init
loop-init g c = reading-none _ _ _ _ c.new-bytes.ensures.items

pub returns-then-len-most-clause-given : goal.returns-then-len-most-clause-given
returns-then-len-most-clause-given g c = reading-full _ _ _ _ _ _ _ c.loop.invariant (search rules)

pub returns-then-len-most-clause-whole : goal.returns-then-len-most-clause-whole
returns-then-len-most-clause-whole g c = whole-full _ _ _ _ _ _ _ c.loop.invariant (search rules)

pub returns-in-Ok-eq0-clause-given : goal.returns-in-Ok-eq0-clause-given
returns-in-Ok-eq0-clause-given g c =
    reading-end _ _ _ _ _ _ _ c.loop.invariant _ c.in-Ok-eq0.field-0 _ c.in-Ok-eq0.ensures.noted (search rules)

pub returns-in-Ok-eq0-clause-whole : goal.returns-in-Ok-eq0-clause-whole
returns-in-Ok-eq0-clause-whole g c =
    whole-end _ _ _ _ _ _ _ _ c.in-Ok-eq0.field-0 _ c.loop.invariant (search rules) c.in-Ok-eq0.ensures.bytes (grind (arith, common_steps))

pub returns-in_err-add-in-Ok-clause-given : goal.returns-in_err-add-in-Ok-clause-given
returns-in_err-add-in-Ok-clause-given g c =
    let p = err_from_is_err_and c.from_residual.result c.from_residual.ensures.1 in
    rw (p.1, p.2, c.in_err-add-in-Ok.ensures.only)
    (reading-no_memory _ _ _ _ _ _ _ c.loop.invariant _ c.in-Ok.count _ c.in-Ok.ensures.noted (search rules) (search rules))

pub returns-in-Err-NoMemory-clause-given : goal.returns-in-Err-NoMemory-clause-given
returns-in-Err-NoMemory-clause-given g c =
    reading-hungry _ _ _ _ _ _ _ c.loop.invariant _
    (c.in-Err-NoMemory.ensures.noted ∙ ap (λ t. noted c.loop.reader ++ gave c.loop.from.path.now (Err t) ∷ []) c.in-Err-NoMemory.field-0-is)

pub returns-in-Err-Other-clause-given : goal.returns-in-Err-Other-clause-given
returns-in-Err-Other-clause-given g c =
    reading-failed _ _ _ _ _ _ _ c.loop.invariant _
    (c.in-Err-Other.ensures.noted ∙ ap (λ t. noted c.loop.reader ++ gave c.loop.from.path.now (Err t) ∷ []) c.in-Err-Other.field-0-is)

pub returns-clause-given : goal.returns-clause-given
returns-clause-given g c = reading-up _ _ _ _ _ _ _ c.loop.invariant (search rules) (search rules)

pub loop-preserved : goal.loop-preserved
loop-preserved g c = elim c.match-read.branch [
  | in-Ok+in_ok-add-in-Ok w ↦ rw w.bytes-is
      (reading-more _ _ _ _ _ _ _ c.loop.invariant _ _ w.in-Ok.count _ _ _ _ w.in-Ok.ensures.noted (search rules) (search rules)
      (grind (arith, common_steps)) w.in-Ok.ensures.bytes.0 (search rules) w.in_ok-add-in-Ok.ensures.added c.read.ensures.path)
  | in-Err-Interrupted w ↦ rw w.bytes-is
      (reading-again _ _ _ _ _ _ _ c.loop.invariant _ _ _
      (w.in-Err-Interrupted.ensures.noted ∙ ap (λ t. noted c.loop.reader ++ gave c.loop.from.path.now (Err t) ∷ []) w.in-Err-Interrupted.field-0-is)
      w.in-Err-Interrupted.ensures.bytes c.read.ensures.path)
]
