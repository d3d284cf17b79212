use Rattle.std.proofs.Common.{refl}
use Rattle.ccr_history.specs.declared.store_fault.StoreFault.TheVariants.{NoMemory}
use Rattle.ccr_store.proofs.StoreLemmas.{out_of_memory}
use Rattle.ccr_store.proofs.loading.add_built.Goals as goal

pub returns-in_err-are_built-clause-only : goal.returns-in_err-are_built-clause-only
returns-in_err-are_built-clause-only c h rules texts fits was same = out_of_memory c.from_residual-in_err-are_built.result NoMemory c.from_residual-in_err-are_built.ensures.1 refl
