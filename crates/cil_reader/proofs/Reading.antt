-- Steps of the reader.
use Rattle.cil_reader.proofs.Common.{suc, ◌≡◌, ℕ, ◌+◌, ◌<◌, ◌≤◌, Bool, true, false, not, List, [], ◌∷◌, ◌++◌, length, take, drop, get_or, refl, ap, sym, ◌∙◌, subst, length-append, length-drop, get_or-drop, arith, list_all, prefix_len, drop-cons, get_or_append_left, take-append-drop, drop-drop, length-take-le, prefix_len-le-length, is_comment_byte, is_line_feed, place_at, Part, spelling, IsPart, EndsBefore, Moves, Mark, told, all-at, place_of, IsPlaced, GoesOver, IsRead, open_lists, Reader}
use Rattle.std.proofs.Common.{true≢false}
use Rattle.cil_specs.proofs.PlaceLemmas.{to_right, place_at-run, place_at-small}

pub placed-column : {A : Type 0} (r : Reader A) → IsPlaced r → r.at.column ≤ r.at.offset + 1
placed-column r placed =
    let column : r.at.column ≡ (place_at r.text.now r.at.offset).column = ap (λ p. p.column) placed.place in
    omega (arith, column, (place_at-small r.text.now r.at.offset placed.within).1)

no_line_feed : (b : ℕ) → is_comment_byte b ≡ true → is_line_feed b ≡ false
no_line_feed b is = by (is_line_feed b) is
  where
    by : (c : Bool) → not c ≡ true → c ≡ false
    by true e = absurd (true≢false (sym e))
    by false e = refl

-- the bytes at an offset begin with these
pub front-at : (bytes text rest : List ℕ) (at k : ℕ) → drop at bytes ≡ text ++ rest → k < length text → get_or bytes (at + k) 0 ≡ get_or text k 0
front-at bytes text rest at k here less = sym (get_or-drop at bytes k 0) ∙ ap (λ l. get_or l k 0) here ∙ get_or_append_left text rest 0 k less

-- the part fits in the text
pub front-within : (bytes text rest : List ℕ) (at : ℕ) → at ≤ length bytes → drop at bytes ≡ text ++ rest → at + length text ≤ length bytes
front-within bytes text rest at within here =
    let size : length (drop at bytes) ≡ length (text ++ rest) = ap length here in
    omega (arith, size, length-drop at bytes, length-append text rest)

-- the front of a list and the rest
pub front-rest : (bytes : List ℕ) (at n : ℕ) → drop at bytes ≡ take n (drop at bytes) ++ drop (at + n) bytes
front-rest bytes at n = sym (take-append-drop n (drop at bytes)) ∙ ap (λ l. take n (drop at bytes) ++ l) (drop-drop n at bytes)

-- the reader's place after a part with no line feed in it
pub placed-right : {A : Type 0} (old new : Reader A) (text : List ℕ) → IsPlaced old → list_all is_comment_byte text ≡ true → drop old.at.offset old.text.now ≡ text ++ drop (old.at.offset + length text) old.text.now
    → place_of new.at ≡ to_right (place_of old.at) (length text) → new.text.now ≡ old.text.now → length new.nodes.items ≤ old.at.offset + length text → (seen : List Mark) × IsRead new seen → IsPlaced new
placed-right old new text placed free here at same few read =
    let bytes : List ℕ = old.text.now in
    let offset : new.at.offset ≡ old.at.offset + length text = ap (λ p. p.offset) at in
    let within : old.at.offset + length text ≤ length bytes = front-within bytes text (drop (old.at.offset + length text) bytes) old.at.offset placed.within here in
    record {
      place =
          at ∙ ap (λ p. to_right p (length text)) placed.place
          ∙ sym (place_at-run bytes old.at.offset (length text) within (λ k less. no_line_feed (get_or bytes (old.at.offset + k) 0) (ap is_comment_byte (front-at bytes text (drop (old.at.offset + length text) bytes) old.at.offset k here less) ∙ all-at is_comment_byte text k free less)))
          ∙ ap (place_at bytes) (sym offset) ∙ ap (λ l. place_at l new.at.offset) (sym same);
      within = omega (arith, offset, within, ap length same);
      small = omega (arith, placed.small, ap length same);
      few = omega (arith, offset, few);
      read = read;
    }

-- a step over a part with no line feed in it
pub goes-right : {A : Type 0} (old new : Reader A) (part : Part) → IsPlaced old → IsPart part → list_all is_comment_byte (spelling part) ≡ true
    → drop old.at.offset old.text.now ≡ spelling part ++ drop (old.at.offset + length (spelling part)) old.text.now → EndsBefore part (drop (old.at.offset + length (spelling part)) old.text.now)
    → Moves (open_lists old) old.at.offset part (open_lists new) → ((seen : List Mark) → IsRead old seen → IsRead new (seen ++ told old.text.now old.at.offset (part ∷ [])))
    → length new.nodes.items ≤ old.at.offset + length (spelling part)
    → place_of new.at ≡ to_right (place_of old.at) (length (spelling part)) → new.text.now ≡ old.text.now → GoesOver old new part
goes-right old new part placed is free here ends moves marks few at same =
    let offset : new.at.offset ≡ old.at.offset + length (spelling part) = ap (λ p. p.offset) at in
    record {
      is = is;
      here = here ∙ ap (λ n. spelling part ++ drop n old.text.now) (sym offset);
      ends = subst (λ n. EndsBefore part (drop n old.text.now)) (sym offset) ends;
      moves = moves;
      told_more = marks;
      same = same;
      placed = placed-right old new (spelling part) placed free here at same few (placed.read.0 ++ told old.text.now old.at.offset (part ∷ []), marks placed.read.0 placed.read.1);
    }

-- what stands at an offset, and behind it
pub byte-rest : (bytes : List ℕ) (at b : ℕ) → at < length bytes → get_or bytes at 0 ≡ b → drop at bytes ≡ b ∷ drop (at + 1) bytes
byte-rest bytes at b within is = drop-cons bytes at 0 within ∙ ap (λ x. x ∷ drop (suc at) bytes) is ∙ ap (λ n. b ∷ drop n bytes) (let e : suc at ≡ at + 1 = omega arith in e)

-- a byte, and then the longest run behind it that passes
pub byte-run : (p : ℕ → Bool) (bytes : List ℕ) (at b n : ℕ) → at < length bytes → get_or bytes at 0 ≡ b → n ≡ prefix_len p (drop (at + 1) bytes)
    → drop at bytes ≡ (b ∷ take n (drop (at + 1) bytes)) ++ drop (at + length (b ∷ take n (drop (at + 1) bytes))) bytes
byte-run p bytes at b n within is run =
    let rest : List ℕ = drop (at + 1) bytes in
    let fits : n ≤ length rest = omega (arith, run, prefix_len-le-length p rest) in
    let size : length (take n rest) ≡ n = length-take-le n rest fits in
    byte-rest bytes at b within is ∙ ap (λ l. b ∷ l) (front-rest bytes (at + 1) n)
    ∙ ap (λ k. b ∷ (take n rest ++ drop k bytes)) (let e : (at + 1) + n ≡ at + length (b ∷ take n rest) = omega (arith, size) in e)
