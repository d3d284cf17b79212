-- What holds on a premise.
use Rattle.std.proofs.Common.{Result, Ok, Err, OnOk, OnErr}

-- what holds after a call on a premise
pub on_ok_under : {A E : Type 0} (P Q : Type 0) (r : Result A E) → (P → OnOk r Q) → OnOk r (P → Q)
on_ok_under P Q (Ok a) h = λ p. h p
on_ok_under P Q (Err e) h = tt

pub on_err_under : {A E : Type 0} (P Q : Type 0) (r : Result A E) → (P → OnErr r Q) → OnErr r (P → Q)
on_err_under P Q (Ok a) h = tt
on_err_under P Q (Err e) h = λ p. h p
