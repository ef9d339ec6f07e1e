-- Pieces of a text that are copied into a buffer.
use Rattle.std.proofs.Common.{◌≡◌, ◌∙◌, ℕ, ◌+◌, ◌-◌, ◌≤◌, List, ◌++◌, length, take, drop, ap, sym, length-drop, length-append, take-add, arith}
use Rattle.std.proofs.Math.Seq.{take-append_seam}
use Rattle.std.proofs.lemmas.List.{take_all, length-take-le}

-- n bytes of the text from an offset on, copied to the front of a buffer
pub piece-given : (text buffer copied : List ℕ) (at n : ℕ) → n ≤ length buffer → length copied ≡ length (take n buffer) → copied ≡ take n (take (length text - at) (drop at text))
    → take (at + n) text ≡ take at text ++ take n (copied ++ drop n buffer)
piece-given text buffer copied at n small size is =
    let whole : take (length text - at) (drop at text) ≡ drop at text = take_all _ _ (omega (arith, length-drop at text)) in
    let long : length copied ≡ n = size ∙ length-take-le n buffer small in
    take-add at n text ∙ ap (λ l. take at text ++ l) (sym (ap (take n) whole) ∙ sym is
    ∙ sym (ap (λ k. take k (copied ++ drop n buffer)) (sym long) ∙ take-append_seam copied (drop n buffer)))

pub piece-length : (buffer copied : List ℕ) (n : ℕ) → n ≤ length buffer → length copied ≡ length (take n buffer) → length (take n (copied ++ drop n buffer)) ≡ n
piece-length buffer copied n small size = length-take-le n _ (omega (arith, size, length-take-le n buffer small, length-append copied (drop n buffer)))
