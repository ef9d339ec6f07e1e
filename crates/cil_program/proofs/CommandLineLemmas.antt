-- Beginnings of texts that sinks take.
use Rattle.cil_program.proofs.Common.{ℕ, List, [], length, Option, Result, Ok, Err, OnErr, sym, subst, arith, take_all, Gains, GainsFront, gains-none}

-- nothing begins nothing
pub front-none : (old : Option (List ℕ)) → GainsFront old old []
front-none old = (0, omega arith, gains-none old)

-- all of a text begins it
pub front-all : (old new : Option (List ℕ)) (text : List ℕ) → Gains old new text → GainsFront old new text
front-all old new text gains = (
  length text,
  omega arith,
  subst (Gains old new) (sym (take_all (length text) text (omega arith))) gains,
)

pub on-err : {T E : Type 0} (r : Result T E) (P Q : Type 0) → (P → Q) → OnErr r P → OnErr r Q
on-err (Ok x) P Q f h = tt
on-err (Err e) P Q f h = f h
