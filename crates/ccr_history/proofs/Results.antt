-- What clauses on one result say together.
use Rattle.std.proofs.Common.{◌≡◌, Result, Ok, Err}
use Rattle.std.specs.Result.{IfOk, IsErrAnd, IsErrOf}

-- a fault that is handed on
pub same_fault : {T E : Type 0} (r : Result T E) (x f : E) → IsErrAnd r (λ e. e ≡ x) → IsErrOf r f → x ≡ f
same_fault (Ok v) x f h is = cc
same_fault (Err e) x f h is = cc

pub both_ok : {T E : Type 0} (r : Result T E) (P Q R : T → Type 0) → ((v : T) → P v → Q v → R v) → IfOk r P → IfOk r Q → IfOk r R
both_ok (Ok v) P Q R f p q = f v p q
both_ok (Err e) P Q R f p q = tt
