use Rattle.std.proofs.Common.{◌≡◌, ◌∙◌, not, true, List, [], ◌∷◌, length, map, nat_eq, string_bytes, String, refl, ap, arith}
use Rattle.std.specs.List.{list_any}
use Rattle.std.proofs.lemmas.Bool.Decides.{nat_tests}
use Rattle.std.specs.declared.alloc.Global.{Global}
use Rattle.ccr_problem.proofs.limit.is_grouped.Goals as goal

has_one : (gs : List (String Global)) → not (nat_eq (length gs) 0) ≡ list_any (λ group. true) (map string_bytes gs)
has_one [] = refl
has_one (g ∷ gs) = grind (arith, nat_tests)

pub returns : goal.returns
returns c =
    ap not c.is_empty.ensures ∙ ap (λ gs. not (nat_eq (length gs) 0)) c.as_slice.ensures.value ∙ has_one c.args.job.now.serial_groups.items
