-- What the exit of a `?` returns.
use Rattle.theory.proofs.Prelude.{◌≡◌}
use Rattle.std.specs.Prelude.{Result, Ok, Err, IsErrAnd}

pub err_returned : {A E : Type 0} (r : Result A E) {e : E} → IsErrAnd r (λ x. x ≡ e) → r ≡ Err e
err_returned (Ok x) h = absurd h
err_returned (Err e) h = cc
