use Rattle.std.proofs.Common.{◌≤◌, ◌∙◌, ℕ, List, length, sym, subst, ap, IsTrue, All}
use Rattle.std.specs.Prelude.{Contains, slice_index_or}
use Rattle.ccr_index.specs.Rows.{JobRowsValue, no_build, size_for}
use Rattle.ccr_index.specs.Alike.{does_count, counting}
use Rattle.ccr_index.proofs.AlikeLaws.{small_all}
use Rattle.ccr_index.proofs.rows.JobRows.has_small.Goals as goal

pub returns : goal.returns
returns c = λ t.
    let x = small_all c.self.inside.scopes c.pairs.result.now _ _ (λ pair. size_for c.self.inside.seen pair) c.args.most c.self.invariant.1 (c.has_small.ensures t) in
    let V : JobRowsValue → Type 0 = λ v. (x : ℕ × ℕ) × Contains (slice_index_or v.builds c.args.build no_build).pairs x × IsTrue (does_count v.scopes x.0) × All (λ b. Contains b.pairs x → length (counting v.scopes b.pairs) ≤ c.args.most) v.builds in
    let P : List (ℕ × ℕ) → Type 0 = λ ps. Contains ps x.0 in
    subst V c.self.view_is (x.0, subst P (c.pairs.ensures.value ∙ ap (λ v. (slice_index_or v.builds c.args.build no_build).pairs) (sym c.self.view_is)) x.1, x.2, x.3)
