use Rattle.std.proofs.Common.{◌∙◌, ◌<◌, List, ℕ, length, refl, sym, ap, subst, arith}
use Rattle.std.specs.Prelude.{Contains}
use Rattle.std.proofs.lemmas.Bool.{false≢true}
use Rattle.ccr_choice.proofs.Places.{input_is}
use Rattle.ccr_index.proofs.IndexLaws.{scope_low}
use Rattle.ccr_index.proofs.ScopeLaws.{none_yet, seen_more, seen_kept, seen_all}
use Rattle.ccr_index.proofs.build.scopes_of.Goals.{then-names, else-names}
use Rattle.ccr_index.proofs.build.scopes_of.Goals as goal

pub loop-i-init : goal.loop-i-init
loop-i-init c = (refl, λ scope t. absurd (none_yet scope t), λ k less named. absurd (omega (arith, less)))

pub bounds-scopes-scope : goal.bounds-scopes-scope
bounds-scopes-scope c =
    let p = c.args.problem.now in
    let i = c.loop-i.i in
    let within : i < length p.inputs = omega (arith, c.loop-i-test.true, ap length c.inputs-i-end.ensures.value) in
    let is = c.scope.ensures ∙ ap (λ x. x.scope) (input_is p c.inputs.result.now i c.index-inputs-i.result c.inputs.ensures.value within c.index-inputs-i.is) in
    let low = scope_low p i c.inputs.ensures.kept within in
    omega (arith, low, is)

pub loop-i-preserved : goal.loop-i-preserved
loop-i-preserved c =
    let p = c.args.problem.now in
    let i = c.loop-i.i in
    let job = c.args.job in
    let within : i < length p.inputs = omega (arith, c.loop-i-test.true, ap length c.inputs-i-end.ensures.value) in
    let C : List ℕ → Type 0 = λ js. Contains js job in
    elim c.if-names.branch [
      | then-names w ↦ (let is = w.scope.ensures ∙ ap (λ x. x.scope) (input_is p w.inputs.result.now i w.index-inputs-i.result w.inputs.ensures.value within w.index-inputs-i.is) in
          let low = scope_low p i w.inputs.ensures.kept within in
          seen_more p job i w.scope.result c.loop-i.scopes c.if-names.scopes c.loop-i.invariant within is (omega (arith, low, is)) (subst C c.named.ensures.value (c.names.ensures.0 w.if-names.true)) w.scopes-is)
      | else-names w ↦ seen_kept p job i c.loop-i.scopes c.if-names.scopes c.loop-i.invariant (λ named. false≢true (sym w.if-names.false ∙ c.names.ensures.1 (subst C (sym c.named.ensures.value) named))) w.scopes-is
    ]

pub returns : goal.returns
returns c =
    seen_all c.args.problem.now c.args.job c.loop-i.i c.loop-i.scopes c.loop-i.invariant (omega (arith, c.loop-i-test.false, ap length c.inputs-i-end.ensures.value))
