use Rattle.std.proofs.Common.{◌≡◌, ◌<◌, ℕ, List, length, slice_index, Option, Vec, Global, sym, ap, ◌∙◌, subst, arith}
use Rattle.std.specs.Prelude.{Contains, IfSome}
use Rattle.std.proofs.lemmas.List.{get_or_default}
use Rattle.ccr_choice.specs.Problem.{ChoiceValue, input_at}
use Rattle.ccr_choice.proofs.Bounds.{rules_of}
use Rattle.ccr_resolve.specs.Sought.{AreWanted}
use Rattle.ccr_resolve.proofs.WantedLaws.{wanted_split}
use Rattle.ccr_resolve.proofs.wanted.best_split.Goals as goal

pub bounds-fixed-job : goal.bounds-fixed-job
bounds-fixed-job c =
    let p = c.args.index.now.problem in
    let items = c.jobs-name-items.result.now in
    let at = c.loop-name.name-index in
    let within : at < length items = omega (arith, c.loop-name-test.true, c.loop-name.auto.name-index-end) in
    let B : List ℕ → Type 0 = λ xs. (k : ℕ) → k < length xs → slice_index xs k < length p.jobs in
    let below : B items = subst B (sym c.jobs-name-items.ensures) c.input.ensures.below in
    let low : slice_index items at < length p.jobs = below at within in
    let few = (rules_of p c.input.ensures.kept).few_jobs in
    omega (arith, low, few)

pub returns-in-Some-2 : goal.returns-in-Some-2
returns-in-Some-2 c =
    let p = c.args.index.now.problem in
    let items = c.jobs-name-items.result.now in
    let at = c.loop-name.name-index in
    let within : at < length items = omega (arith, c.loop-name-test.true, c.loop-name.auto.name-index-end) in
    let B : List ℕ → Type 0 = λ xs. (k : ℕ) → k < length xs → slice_index xs k < length p.jobs in
    let below : B items = subst B (sym c.jobs-name-items.ensures) c.input.ensures.below in
    let low : slice_index items at < length p.jobs = below at within in
    let few = (rules_of p c.input.ensures.kept).few_jobs in
    let i = c.loop-i.i in
    let j = slice_index items at in
    let table = c.args.fixed.now in
    let upper = c.args.upper.now in
    let best = c.args.best.now.places in
    let named_by : items ≡ (input_at p i).jobs = c.jobs-name-items.ensures ∙ ap (λ x. x.jobs) c.input.ensures.value in
    let C : List ℕ → Type 0 = λ xs. Contains xs j in
    let named : Contains (input_at p i).jobs j = subst C named_by (at, within, get_or_default items at j 0 within) in
    let found_is : c.in-Some.found.now ≡ slice_index best i =
    c.in-Some.ensures.lookup.1 ∙ get_or_default c.deref.result.now i _ 0 c.in-Some.ensures.lookup.3.0 ∙ ap (λ xs. slice_index xs i) c.deref.ensures.value
    ∙ ap (λ (v : ChoiceValue). slice_index v.places i) c.best.view_is in
    let P : Option (Vec ℕ Global) → Type 0 = λ o. IfSome o (λ b. AreWanted p j i c.in-Some.found.now (slice_index upper i) b.items) in
    let Q : ℕ → Type 0 = λ n. AreWanted p j i n (slice_index upper i) c.in-Some-2.builds.items in
    let wanted : Q (slice_index best i) = subst Q found_is (subst P c.in-Some-2.is c.in_ok-builds.ensures) in
    wanted_split p c.input.ensures.kept table i j (omega (arith, c.loop-i-test.true, c.input_count-i-end.ensures.value)) named c.if-fixed-job-eq0.true (omega (arith, low, few, c.told-fixed)) upper best
    c.in-Some-2.builds.items c.requires c.loop-i.invariant wanted low
