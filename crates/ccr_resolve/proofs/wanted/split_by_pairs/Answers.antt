use Rattle.std.proofs.Common.{◌≡◌, ◌<◌, ◌≤◌, ℕ, List, length, slice_index, All, not, sym, ap, ◌∙◌, subst, arith}
use Rattle.std.specs.Prelude.{Contains}
use Rattle.std.proofs.lemmas.List.{get_or_default}
use Rattle.ccr_choice.specs.Problem.{BuildValue, input_at, builds_at}
use Rattle.ccr_choice.proofs.Bounds.{rules_of}
use Rattle.ccr_resolve.specs.Sought.{HasAllOf}
use Rattle.ccr_resolve.proofs.WantedLaws.{source_split}
use Rattle.ccr_resolve.proofs.wanted.split_by_pairs.Goals as goal

pub returns-then-not-is_over : goal.returns-then-not-is_over
returns-then-not-is_over c =
    let p = c.args.index.now.problem in
    let i = c.args.input in
    let items = c.jobs-name-items.result.now in
    let at = c.loop-name.name-index in
    let j = slice_index items at in
    let builds = c.rows-rows.result.now.builds in
    let list = c.add_builds_with_any.new.builds.items in
    let within : at < length items = omega (arith, c.loop-name-test.true, c.loop-name.auto.name-index-end) in
    let named_by : items ≡ (input_at p i).jobs = c.jobs-name-items.ensures ∙ ap (λ x. x.jobs) c.input-2.ensures.value in
    let C : List ℕ → Type 0 = λ xs. Contains xs j in
    let named : Contains (input_at p i).jobs j = subst C named_by (at, within, get_or_default items at j 0 within) in
    let B : List ℕ → Type 0 = λ xs. (k : ℕ) → k < length xs → slice_index xs k < length p.jobs in
    let below : B items = subst B (sym c.jobs-name-items.ensures) c.input-2.ensures.below in
    let low : j < length p.jobs = below at within in
    let few = (rules_of p c.input.ensures.kept).few_jobs in
    let S : ℕ → Type 0 = λ s. HasAllOf builds s c.args.pairs.now list in
    let T : List BuildValue → Type 0 = λ bs. HasAllOf bs (input_at p i).scope c.args.pairs.now list in
    let all : T (builds_at p j) = subst T c.rows-rows.ensures.value (subst S (c.scope-scope.ensures ∙ ap (λ x. x.scope) c.input.ensures.value) (c.in_ok-is_over.ensures.all (ap not c.if-not-is_over.true))) in
    let W : List BuildValue → Type 0 = λ bs. All (λ k. k < length bs) list in
    let short : length list ≤ length (builds_at p j) = omega (arith, c.add_builds_with_any.ensures.few, c.min.ensures, c.len.ensures, ap length c.rows-rows.ensures.value) in
    λ best.
    source_split p c.input.ensures.kept c.args.fixed.now i j c.requires.input named c.if-fixed-job-eq0.true (omega (arith, low, few, c.told-fixed)) c.args.pairs.now list c.requires.sources all best low short
    (subst W c.rows-rows.ensures.value c.add_builds_with_any.ensures.within)
