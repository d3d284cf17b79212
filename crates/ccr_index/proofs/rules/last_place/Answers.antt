use Rattle.std.proofs.Common.{◌≡◌, suc, ◌-◌, length, inl, inr, arith}
use Rattle.std.proofs.lemmas.Bool.{cases_lt}
use Rattle.ccr_index.proofs.RuleLaws.{last_at}
use Rattle.ccr_index.proofs.rules.last_place.Goals as goal

pub returns : goal.returns
returns c =
    let some : length c.args.places.now ≡ suc (length c.args.places.now - 1) = elim (cases_lt 0 (length c.args.places.now)) [
      | inl less ↦ omega (arith, less)
      | inr none ↦ absurd (c.if-places-eq0.false (omega (arith, none)))
    ] in
    last_at 0 c.args.places.now (length c.args.places.now - 1) 0 some
