-- What holds where a call succeeded.
use Rattle.std.proofs.Common.{Result, Ok, Err}
use Rattle.std.specs.Result.{IfOk, OnOk}

pub ok-both : {X E : Type 0} (r : Result X E) {P Q R : Type 0} → (P → Q → R) → OnOk r P → OnOk r Q → OnOk r R
ok-both (Ok x) f p q = f p q
ok-both (Err e) f p q = tt

pub ok-more : {X E : Type 0} (r : Result X E) {P Q : X → Type 0} → ((x : X) → P x → Q x) → IfOk r P → IfOk r Q
ok-more (Ok x) f p = f x p
ok-more (Err e) f p = tt
