use Rattle.std.proofs.Common.{◌≡◌, ◌⊎◌, inl, inr}
use Rattle.std.proofs.Math.Logic.{∥∥₁_map}
use Rattle.sqlite_store.specs.Laws.{settled_at}
use Rattle.sqlite.specs.Files.{file_state}
use Rattle.ccr_store.specs.Causes.{IsBegun}
use Rattle.ccr_look.proofs.Begun.{history_begun}
use Rattle.ccr_look.proofs.Left.{clean_of, holds_what_is_left}
use Rattle.ccr_look.proofs.law.what_is_begun_is_taken.Goals as goal

pub returns : goal.returns
returns g c was h holds before opened found it clean sound image left =
    ∥∥₁_map (holds_what_is_left c.args.conn.now.store (clean_of _ clean) sound image left)
    (λ held.
    let either : (held.0 ≡ (file_state before).committed.trees) ⊎ IsBegun (file_state before) held.0 = elim (it.crash clean held.0 held.1) [
      | inl old ↦ inl (settled_at before.store g.met.D.Disk.seen_may_stay held.0 opened.0.is_open old)
      | inr begun ↦ inr begun
    ] in
    history_begun was before opened found image held.0 held.2 h holds either)
