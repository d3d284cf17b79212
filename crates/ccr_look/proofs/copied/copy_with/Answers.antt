use Rattle.std.proofs.Common.{◌≡◌, ◌∙◌, [], Ok, Err, IfSome, Option, ap, sym, subst, rules}
use Rattle.std.proofs.lemmas.Result.{err_from_is_err_and}
use Rattle.ccr_look.specs.declared.copied.Copied.{Copied}
use Rattle.ccr_look.specs.declared.fault.CopyFault.TheVariants.{Restless}
use Rattle.ccr_look.specs.Noted.{noted}
use Rattle.ccr_look.specs.Parts.{Adds}
use Rattle.ccr_look.specs.Reads.{CameOf, place_named, place_of}
use Rattle.ccr_look.proofs.Tries.{at_place, copied_at, failed_at, in_order, restless, unread, vain_more, vain_none}
use Rattle.ccr_look.proofs.copied.copy_with.Goals as goal

pub returns-in_err-names-clause-came : goal.returns-in_err-names-clause-came
returns-in_err-names-clause-came g c =
    let p = err_from_is_err_and c.from_residual.result c.from_residual.ensures.1 in
    rw p.1 (unread (place_of c.args.path.now) (noted c.args.reader.now) p.0 p.2)

pub loop-init : goal.loop-init
loop-init g c = vain_none (place_named c.in_ok-names.names) (noted c.args.reader.now)

pub returns-in-Ok-Some-clause-came : goal.returns-in-Ok-Some-clause-came
returns-in-Ok-Some-clause-came g c =
    let place = place_named c.in_ok-names.names in
    let last = subst (λ (o : Option Copied). Adds (noted c.loop.reader) (noted c.read_once.new.reader) (CameOf place (Ok o))) c.in-Ok-Some.field-0-is
    c.in-Ok-Some.ensures.came in
    at_place place (place_of c.args.path.now) _ _ (Ok c.in-Ok-Some.copied) c.in_ok-names.ensures
    (copied_at place _ _ _ c.loop.counter c.loop.invariant c.in-Ok-Some.copied c.loop-test.true last)

pub returns-in-Ok-Some-clause-read : goal.returns-in-Ok-Some-clause-read
returns-in-Ok-Some-clause-read g c =
    let place = place_named c.in_ok-names.names in
    let last = subst (λ (o : Option Copied). Adds (noted c.loop.reader) (noted c.read_once.new.reader) (CameOf place (Ok o))) c.in-Ok-Some.field-0-is
    c.in-Ok-Some.ensures.came in
    let path = subst (λ (o : Option Copied). IfSome o (λ x. x.path.now ≡ c.args.path.now)) c.in-Ok-Some.field-0-is c.in-Ok-Some.ensures.path in
    let calls = subst (λ (o : Option Copied). IfSome o (λ x. x.calls.list ≡ noted c.read_once.new.reader)) c.in-Ok-Some.field-0-is
    c.in-Ok-Some.ensures.calls in
    in_order place (noted c.loop.reader) (noted c.read_once.new.reader) c.in-Ok-Some.copied (c.in_ok-names.ensures ∙ ap place_of (sym path)) calls last

pub returns-in-Err-clause-came : goal.returns-in-Err-clause-came
returns-in-Err-clause-came g c =
    at_place (place_named c.in_ok-names.names) (place_of c.args.path.now) _ _ (Err c.in-Err.fault) c.in_ok-names.ensures
    (failed_at (place_named c.in_ok-names.names) _ _ _ c.loop.counter c.loop.invariant c.in-Err.fault c.loop-test.true c.in-Err.ensures.came)

pub loop-preserved : goal.loop-preserved
loop-preserved g c =
    let place = place_named c.in_ok-names.names in
    vain_more place _ _ _ c.loop.counter c.loop.invariant
    (subst (λ (o : Option Copied). Adds (noted c.loop.reader) (noted c.read_once.new.reader) (CameOf place (Ok o))) c.in-Ok-None.field-0-is
    c.in-Ok-None.ensures.came)

pub returns-clause-came : goal.returns-clause-came
returns-clause-came g c =
    at_place (place_named c.in_ok-names.names) (place_of c.args.path.now) _ _ (Err Restless) c.in_ok-names.ensures
    (restless (place_named c.in_ok-names.names) _ _ [] c.loop.counter c.loop.invariant (search rules) (search rules))
