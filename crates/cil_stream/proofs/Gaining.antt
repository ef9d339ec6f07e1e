-- Pieces of a text, taken one after another.
use Rattle.std.proofs.Common.{◌≡◌, inl, inr, ℕ, ◌+◌, ◌<◌, ◌≤◌, List, [], ◌∷◌, ◌++◌, length, get_or, take, drop, Option, None, Some, Result, Ok, Err, OnErr, refl, sym, ap, ◌∙◌, subst, append_assoc, append-nil, take-add, arith, length-append}
use Rattle.std.specs.List.{flat_map}
use Rattle.std.specs.Option.{option_map}
use Rattle.std.proofs.lemmas.List.{take-append-le, take-append-drop, take_more}
use Rattle.std.proofs.lemmas.List.Concat.{flat_map-append}
use Rattle.std.proofs.Math.Seq.{take-append-add}
use Rattle.cil_stream.specs.Device.{HasFailed, Gains, GainsFront}

-- one text and then another
pub gains-both : (old mid new : Option (List ℕ)) (first second : List ℕ) → Gains old mid first → Gains mid new second → Gains old new (first ++ second)
gains-both None mid new first second a b = b ∙ ap (option_map (λ bytes. bytes ++ second)) a
gains-both (Some bytes) mid new first second a b = b ∙ ap (option_map (λ bs. bs ++ second)) a ∙ ap Some (append_assoc bytes first second)

-- a front of a text and then more of it
pub gains-front : (old mid new : Option (List ℕ)) (text : List ℕ) (done n : ℕ) → Gains old mid (take done text) → Gains mid new (take n (drop done text)) → Gains old new (take (done + n) text)
gains-front old mid new text done n a b = gains-both old mid new (take done text) (take n (drop done text)) a b ∙ ap (λ t. option_map (λ bytes. bytes ++ t) old) (sym (take-add done n text))

-- nothing
pub gains-none : (old : Option (List ℕ)) → Gains old old []
gains-none None = refl
gains-none (Some bytes) = ap Some (sym (append-nil bytes))

-- a text and then a beginning of more
pub gains-then_front : (old mid new : Option (List ℕ)) (first second : List ℕ) → Gains old mid first → GainsFront mid new second → GainsFront old new (first ++ second)
gains-then_front old mid new first second gains (n, within, front) = (
  length first + n,
  (let whole = length-append first second in omega (arith, whole)),
  subst (Gains old new) (sym (take-append-add first second n)) (gains-both old mid new first (take n second) gains front),
)

-- a beginning of a text begins what begins with the text
pub front-longer : (old new : Option (List ℕ)) (first second : List ℕ) → GainsFront old new first → GainsFront old new (first ++ second)
front-longer old new first second (n, within, front) = (
  n,
  (let whole = length-append first second in omega (arith, whole)),
  subst (Gains old new) (sym (take-append-le n first second within)) front,
)

-- a failure after others
pub failed-later : (old mid new : ℕ) → old ≤ mid → HasFailed mid new → HasFailed old new
failed-later old mid new before (inl rose) = inl (omega arith)
failed-later old mid new before (inr greatest) = inr greatest

-- what is so, is so where there is an error
pub on_err : {T E P : Type 0} (r : Result T E) → P → OnErr r P
on_err (Ok x) holds = tt
on_err (Err e) holds = holds

pieces-more : {X : Type 0} (f : X → List ℕ) (xs : List X) (i : ℕ) (d : X) → i < length xs → flat_map f (take i xs) ++ f (get_or xs i d) ≡ flat_map f (take (i + 1) xs)
pieces-more f xs i d within =
    sym (ap (flat_map f) (take_more xs i d within) ∙ flat_map-append f (take i xs) (get_or xs i d ∷ []) ∙ ap (λ l. flat_map f (take i xs) ++ l) (append-nil (f (get_or xs i d))))

-- the texts of some elements, and then that of the next
pub gains-pieces_more : {X : Type 0} (f : X → List ℕ) (old mid new : Option (List ℕ)) (xs : List X) (i : ℕ) (d : X) → i < length xs → Gains old mid (flat_map f (take i xs)) → Gains mid new (f (get_or xs i d))
    → Gains old new (flat_map f (take (i + 1) xs))
gains-pieces_more f old mid new xs i d within gains more = subst (Gains old new) (pieces-more f xs i d within) (gains-both old mid new (flat_map f (take i xs)) (f (get_or xs i d)) gains more)

-- or a beginning of it
pub gains-pieces_front : {X : Type 0} (f : X → List ℕ) (old mid new : Option (List ℕ)) (xs : List X) (i : ℕ) (d : X) → i < length xs → Gains old mid (flat_map f (take i xs)) → GainsFront mid new (f (get_or xs i d))
    → GainsFront old new (flat_map f xs)
gains-pieces_front f old mid new xs i d within gains front =
    let whole : flat_map f (take (i + 1) xs) ++ flat_map f (drop (i + 1) xs) ≡ flat_map f xs = sym (flat_map-append f (take (i + 1) xs) (drop (i + 1) xs)) ∙ ap (flat_map f) (take-append-drop (i + 1) xs) in
    subst (GainsFront old new) whole
    (front-longer old new (flat_map f (take (i + 1) xs)) (flat_map f (drop (i + 1) xs))
    (subst (GainsFront old new) (pieces-more f xs i d within) (gains-then_front old mid new (flat_map f (take i xs)) (f (get_or xs i d)) gains front)))
