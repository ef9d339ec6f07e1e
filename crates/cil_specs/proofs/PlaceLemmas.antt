-- Places from one byte to a later one.
use Rattle.cil_specs.proofs.Common.{suc, zero, ◌≡◌, ℕ, ◌+◌, ◌-◌, ◌<◌, ◌≤◌, false, not, List, length, take, get_or, ap, ◌∙◌, arith, suffix_len, count_by_more_no, count_by-le-length, suffix_len-take_yes, suffix_len-le-length, length-take-le, Place, is_line_feed, place_at}

-- a place further right on its line
abbrev pub to_right : Place → ℕ → Place
to_right p n = record { offset = p.offset + n; line = p.line; column = p.column + n }

-- the front of the next line behind a place
abbrev pub next_line : Place → Place
next_line p = record { offset = p.offset + 1; line = p.line + 1; column = 1 }

same_place : (a b c d e f : ℕ) → a ≡ d → b ≡ e → c ≡ f → (let p : Place = record { offset = a; line = b; column = c } in let q : Place = record { offset = d; line = e; column = f } in p ≡ q)
same_place a b c d e f x y z = λ i. record { offset = x i; line = y i; column = z i }

-- behind a byte that is no line feed
pub place_at-step : (bytes : List ℕ) (at : ℕ) → at < length bytes → is_line_feed (get_or bytes at 0) ≡ false → place_at bytes (at + 1) ≡ to_right (place_at bytes at) 1
place_at-step bytes at within other =
    let columns : suffix_len (λ b. not (is_line_feed b)) (take (at + 1) bytes) ≡ 1 + suffix_len (λ b. not (is_line_feed b)) (take ((at + 1) - 1) bytes) =
    suffix_len-take_yes (λ b. not (is_line_feed b)) bytes (at + 1) 0 (omega arith) (omega arith) (ap (λ n. not (is_line_feed (get_or bytes n 0))) (let e : (at + 1) - 1 ≡ at = omega arith in e) ∙ ap not other) in
    let back : (at + 1) - 1 ≡ at = omega arith in
    same_place _ _ _ _ _ _ (let e : at + 1 ≡ at + 1 = omega arith in e) (ap (λ n. 1 + n) (count_by_more_no is_line_feed bytes at 0 within other))
    (ap (λ n. 1 + n) (columns ∙ ap (λ n. 1 + suffix_len (λ b. not (is_line_feed b)) (take n bytes)) back)
    ∙ (let n : ℕ = suffix_len (λ b. not (is_line_feed b)) (take at bytes) in let e : 1 + (1 + n) ≡ (1 + n) + 1 = omega arith in e))

to_right-more : (p : Place) (n : ℕ) → to_right (to_right p n) 1 ≡ to_right p (suc n)
to_right-more p n =
    same_place _ _ _ _ _ _ (let e : (p.offset + n) + 1 ≡ p.offset + suc n = omega arith in e) (let e : p.line ≡ p.line = omega arith in e) (let e : (p.column + n) + 1 ≡ p.column + suc n = omega arith in e)

-- behind bytes that are no line feeds
pub place_at-run : (bytes : List ℕ) (at n : ℕ) → at + n ≤ length bytes → ((k : ℕ) → k < n → is_line_feed (get_or bytes (at + k) 0) ≡ false) → place_at bytes (at + n) ≡ to_right (place_at bytes at) n
place_at-run bytes at zero within free =
    let p : Place = place_at bytes at in
    ap (place_at bytes) (let e : at + 0 ≡ at = omega arith in e) ∙ same_place _ _ _ _ _ _ (let e : at ≡ at + 0 = omega arith in e) (let e : p.line ≡ p.line = omega arith in e) (let e : p.column ≡ p.column + 0 = omega arith in e)
place_at-run bytes at (suc n) within free =
    let so_far : place_at bytes (at + n) ≡ to_right (place_at bytes at) n = place_at-run bytes at n (omega arith) (λ k less. free k (omega arith)) in
    ap (place_at bytes) (let e : at + suc n ≡ (at + n) + 1 = omega arith in e) ∙ place_at-step bytes (at + n) (omega arith) (free n (omega arith))
    ∙ ap (λ p. to_right p 1) so_far ∙ to_right-more (place_at bytes at) n

-- lines and columns are no greater than the offset and one
pub place_at-small : (bytes : List ℕ) (at : ℕ) → at ≤ length bytes → ((place_at bytes at).line ≤ at + 1) × ((place_at bytes at).column ≤ at + 1)
place_at-small bytes at within =
    let size : length (take at bytes) ≡ at = length-take-le at bytes within in
    (omega (arith, size, count_by-le-length is_line_feed (take at bytes)), omega (arith, size, suffix_len-le-length (λ b. not (is_line_feed b)) (take at bytes)))
