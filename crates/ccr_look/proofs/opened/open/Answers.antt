use Rattle.std.proofs.Common.{refl, subst}
use Rattle.sqlite.specs.Files.{file_state}
use Rattle.sqlite.specs.Start.{FindsIn}
use Rattle.sqlite_pool.specs.Pool.{state}
use Rattle.sqlite_trees.specs.View.{doubt}
use Rattle.ccr_look.proofs.Bytes.{same_image}
use Rattle.ccr_look.proofs.Shut.{clean_left}
use Rattle.ccr_look.proofs.opened.open.Goals as goal

-- Memory is always clean.
pub returns-in-Ok-clause-opened : goal.returns-in-Ok-clause-opened
unfolding doubt state
returns-in-Ok-clause-opened c =
    let finds = c.in-Ok.ensures.found refl in
    let image = same_image _ _ _ _ c.files_of-files.ensures.log c.files_of-files.ensures.db in
    record {
      opened = c.in-Ok.ensures.opened refl;
      found = subst (λ i. FindsIn i (file_state c.in-Ok.conn)) image (record { holds = finds.holds; reads = finds.reads });
    }

pub returns-clause-shut : goal.returns-clause-shut
returns-clause-shut c = record {
  error = c.in-Err.error;
  named = c.in-Err.ensures.named;
  fault_is = c.open_fault_of.ensures;
  files = c.files_of-files.result;
  held = same_image _ _ _ _ c.files_of-files.ensures.log c.files_of-files.ensures.db;
  left = c.in-Err.field-0-1;
  why = c.in-Err.ensures.cause (clean_left c.in-Err.field-0-1);
}
