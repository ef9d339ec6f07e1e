-- Parts of parts.
use Rattle.std.proofs.Common.{◌≡◌, ◌≤◌, ◌+◌, ◌-◌, ℕ, zero, suc, List, [], ◌∷◌, length, take, drop, refl, sym, ap, ◌∙◌, arith, min}
use Rattle.std.proofs.lemmas.List.{length-drop, length-take-le}

take-take : {X : Type 0} (xs : List X) (n count : ℕ) → count ≤ n → take count (take n xs) ≡ take count xs
take-take xs n zero low = refl
take-take xs zero (suc count) low = absurd (omega arith)
take-take [] (suc n) (suc count) low = refl
take-take (x ∷ xs) (suc n) (suc count) low = ap (λ l. x ∷ l) (take-take xs n count (omega arith))

part-front : {X : Type 0} (xs : List X) (n from count : ℕ) → from + count ≤ n → take count (drop from (take n xs)) ≡ take count (drop from xs)
part-front xs n zero count low = take-take xs n count (omega (arith, low))
part-front xs zero (suc from) count low = absurd (omega (arith, low))
part-front [] (suc n) (suc from) count low = refl
part-front (x ∷ xs) (suc n) (suc from) count low = part-front xs n from count (omega (arith, low))

drop-none : {X : Type 0} (n : ℕ) → drop {A = X} n [] ≡ []
drop-none zero = refl
drop-none (suc n) = refl

drop-add : {X : Type 0} (xs : List X) (start from : ℕ) → drop (start + from) xs ≡ drop from (drop start xs)
drop-add xs zero from = let e : 0 + from ≡ from = omega arith in ap (λ n. drop n xs) e
drop-add [] (suc start) from = drop-none (suc start + from) ∙ sym (drop-none from)
drop-add (x ∷ xs) (suc start) from = let e : suc start + from ≡ suc (start + from) = omega arith in ap (λ n. drop n (x ∷ xs)) e ∙ drop-add xs start from

-- the part from one index up to another is as long as that
pub part-long : {X : Type 0} (xs : List X) (start end : ℕ) → start ≤ end → end ≤ length xs → length (take (end - start) (drop start xs)) + start ≡ end
part-long xs start end low high =
    let long = length-drop start xs in
    let is = length-take-le (end - start) (drop start xs) (omega arith) in
    omega arith

-- so many items of a part are a part
pub part-part : {X : Type 0} (xs : List X) (start end from count : ℕ) → start ≤ end → end ≤ length xs → from + count ≤ length (take (end - start) (drop start xs))
    → take (start + from + count - (start + from)) (drop (start + from) xs) ≡ take count (drop from (take (end - start) (drop start xs)))
part-part xs start end from count low high within =
    let long = part-long xs start end low high in
    let short : start + from + count - (start + from) ≡ count = omega arith in
    ap (λ n. take n (drop (start + from) xs)) short ∙ ap (take count) (drop-add xs start from) ∙ sym (part-front (drop start xs) (end - start) from count (omega arith))
