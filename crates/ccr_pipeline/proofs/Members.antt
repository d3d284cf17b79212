-- The members of JSON objects.
use Rattle.std.proofs.Common.{◌≡◌, ◌==◌, List, [], ◌∷◌, refl, sym, ℕ, suc, length, false, String, Global, arith}
use Rattle.std.proofs.lemmas.Bool.Decides.{nat_tests}
use Rattle.serde_json.specs.declared.value.Value.{Value}
use Rattle.serde_json.specs.View.{members_view}
use Rattle.ccr_pipeline.specs.Kinds.{is_empty}

no_zero : (n : ℕ) → (suc n == 0) ≡ false
no_zero n = grind (arith, nat_tests)

pub is_empty-members_view : (es : List (String Global × Value)) → is_empty (members_view es) ≡ (length es == 0)
is_empty-members_view [] = refl
is_empty-members_view (e ∷ es) = sym (no_zero (length es))
