-- What is told, from what its parts say.
use Rattle.std.proofs.Common.{◌≡◌, ◌∙◌, refl, sym, subst, ap, ℕ, false, Option}
use Rattle.ccr_history.specs.Text.{Text}
use Rattle.ccr_run.specs.declared.order.Order.{Order}
use Rattle.ccr_run.specs.declared.run.Outcome.{Outcome}
use Rattle.ccr_run.specs.Hints.{HintData}
use Rattle.ccr_run.specs.Refusals.{RefusalData}
use Rattle.ccr_run.specs.Explained.{ToldData, AreGates, IsToldOf, explained, has_set, has_shown, nothing_told}

-- nothing is told but gates, where nothing is told
pub nothing_but_gates : (t : ToldData) → t ≡ nothing_told → t ≡ record nothing_told { gates = t.gates }
nothing_but_gates t is = subst (λ (u : ToldData). u ≡ record nothing_told { gates = u.gates }) (sym is) refl

-- nothing is told but gates, where nothing was told before them
pub gates_alone : (t u : ToldData) → t ≡ nothing_told → u ≡ record t { gates = u.gates } → u ≡ record nothing_told { gates = u.gates }
gates_alone t u is so = subst (λ (v : ToldData). u ≡ record v { gates = u.gates }) is so

-- what is told of a command's end, where nothing was told before
pub end_alone : (order : Order) (outcome : Outcome) (t u : ToldData) → t ≡ nothing_told
    → u ≡ record (explained order outcome) { gates = t.gates } → u ≡ explained order outcome
end_alone order outcome t u is so = subst (λ (v : ToldData). u ≡ record (explained order outcome) { gates = v.gates }) is so

-- what is told of a command, with gates that were told before
pub told_of : (order : Order) (outcome : Outcome) (text kept : Option Text) (t u : ToldData) → text ≡ kept
    → AreGates (has_set order.command outcome.end) (has_shown order.command outcome.end) order.options.database.now text t.gates
    → u ≡ record (explained order outcome) { gates = t.gates }
    → IsToldOf order outcome kept u
told_of order outcome text kept t u same gates so = (
  t.gates,
  subst (λ (x : Option Text). AreGates (has_set order.command outcome.end) (has_shown order.command outcome.end)
      order.options.database.now x t.gates) same gates,
  so,
)

-- what is told of a command's end, in order
pub told_in_order : (t0 t1 t2 t3 : ToldData) (budget : Option ℕ) (refusal : Option RefusalData) (hint : Option HintData)
    → t0 ≡ record nothing_told { gates = t0.gates } → t1 ≡ record t0 { budget = budget } → t2 ≡ record t1 { refusal = refusal }
    → t3 ≡ record t2 { hint = hint }
    → t3 ≡ record { gates = t0.gates; budget = budget; refusal = refusal; hint = hint; is_unprinted = false }
told_in_order t0 t1 t2 t3 budget refusal hint e0 e1 e2 e3 =
    e3 ∙ ap (λ (t : ToldData). record t { hint = hint })
    (e2 ∙ ap (λ (t : ToldData). record t { refusal = refusal }) (e1 ∙ ap (λ (t : ToldData). record t { budget = budget }) e0))
