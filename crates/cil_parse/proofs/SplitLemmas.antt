-- Splitting a text at its dots.
use Rattle.cil_parse.proofs.Common.{◌≡◌, ◌⊎◌, inl, inr, ℕ, ◌+◌, ◌-◌, ◌<◌, ◌≤◌, ◌==◌, Bool, true, false, not, cond, List, [], ◌∷◌, length, take, drop, Some, None, position, nat_lt, refl, sym, ap, ◌∙◌, arith, slice_split, onto_first, position_or_len, take_rest, cond_some}
use Rattle.std.proofs.lemmas.Bool.{cases_lt}
use Rattle.std.proofs.lemmas.Bool.Decides.{Decides-ltb}
use Rattle.std.proofs.lemmas.List.Splits.{slice_split_first}

abbrev pub is_dot : ℕ → Bool
is_dot b = b == 46

-- a text is cut at its first dot
pub split-found : (text : List ℕ) (at : ℕ) → position is_dot text ≡ Some at
    → slice_split is_dot text ≡ take at text ∷ slice_split is_dot (take (length text - (at + 1)) (drop (at + 1) text))
split-found text at found =
    let parts = cond_some (nat_lt (position_or_len is_dot text) (length text)) (position_or_len is_dot text) at found in
    let within = (Decides-ltb (position_or_len is_dot text) (length text)).0 parts.0 in
    slice_split_first is_dot text 0 within ∙ ap (λ n. take n text ∷ slice_split is_dot (drop (n + 1) text)) parts.1
    ∙ ap (λ l. take at text ∷ slice_split is_dot l) (sym (take_rest text (at + 1)))

split-whole : (text : List ℕ) → length text ≤ position_or_len is_dot text → slice_split is_dot text ≡ text ∷ []
split-whole [] past = refl
split-whole (b ∷ text) past = by (split-whole text) (is_dot b) refl
  where
    by : (length text ≤ position_or_len is_dot text → slice_split is_dot text ≡ text ∷ []) → (r : Bool) → is_dot b ≡ r → slice_split is_dot (b ∷ text) ≡ (b ∷ text) ∷ []
    by whole true e = absurd (let none : position_or_len is_dot (b ∷ text) ≡ 0 = ap (λ r. cond (not r) (1 + position_or_len is_dot text) 0) e in omega arith)
    by whole false e =
        let next : position_or_len is_dot (b ∷ text) ≡ 1 + position_or_len is_dot text = ap (λ r. cond (not r) (1 + position_or_len is_dot text) 0) e in
        ap (λ r. cond r ([] ∷ slice_split is_dot text) (onto_first b (slice_split is_dot text))) e ∙ ap (onto_first b) (whole (omega arith))

pub split-none : (text : List ℕ) → position is_dot text ≡ None → slice_split is_dot text ≡ text ∷ []
split-none text none = by (cases_lt (position_or_len is_dot text) (length text))
  where
    by : (position_or_len is_dot text < length text) ⊎ (length text ≤ position_or_len is_dot text) → slice_split is_dot text ≡ text ∷ []
    by (inl less) =
        let found = ap (λ r. cond r (Some (position_or_len is_dot text)) None) ((Decides-ltb (position_or_len is_dot text) (length text)).1 less) in
        absurd (let e = sym found ∙ none in cc)
    by (inr past) = split-whole text past
