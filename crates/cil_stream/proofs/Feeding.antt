-- What a source over a reader gives, of the bytes that its reader knew.
use Rattle.std.proofs.Common.{◌≡◌, ◌∙◌, ◌⊎◌, inl, inr, ℕ, zero, suc, ◌+◌, ◌<◌, ◌≤◌, Bool, true, false, nat_le, if◌then◌else◌, List, [], ◌++◌, length, take, drop, Option, None, Some, refl, ap, sym, subst, arith, length-drop, length-append, take-add, drop-drop}
use Rattle.std.specs.Option.{option_map}
use Rattle.std.specs.Io.KnownBytes.{Consumes, IsAtEnd}
use Rattle.std.proofs.lemmas.List.{take_all, length-take-le}
use Rattle.std.proofs.lemmas.Bool.{leb-true}
use Rattle.std.proofs.Math.Seq.{drop-append_seam, take-append_seam}
use Rattle.cil_stream.specs.Device.{Feed, IsFed, Gives, account_of_feed}

-- The reader had all these bytes left, and has some of them after it gave the others.
record IsLeft (all bytes : List ℕ) (new : Option (List ℕ)) : Type 0 where
  rest : List ℕ
  now : new ≡ Some rest
  split : all ≡ bytes ++ rest

left-after : (left new : Option (List ℕ)) (bytes all : List ℕ) → left ≡ Some all → Consumes left new bytes → IsLeft all bytes new
left-after None new bytes all known given = absurd (cc)
left-after (Some xs) None bytes all known given = absurd given
left-after (Some xs) (Some ys) bytes all known given = record { rest = ys; now = refl; split = (cc) }

-- the text behind more of its bytes
drop-more : (text bytes rest : List ℕ) (count : ℕ) → drop count text ≡ bytes ++ rest → drop (count + length bytes) text ≡ rest
drop-more text bytes rest count is = sym (drop-drop (length bytes) count text) ∙ ap (drop (length bytes)) is ∙ drop-append_seam bytes rest

-- a front of the text and more of its bytes
take-more : (text bytes rest : List ℕ) (count : ℕ) → drop count text ≡ bytes ++ rest → take (count + length bytes) text ≡ take count text ++ bytes
take-more text bytes rest count is = take-add count (length bytes) text ∙ ap (λ l. take count text ++ take (length bytes) l) is ∙ ap (λ l. take count text ++ l) (take-append_seam bytes rest)

ended-rest : (new : Option (List ℕ)) (rest : List ℕ) → new ≡ Some rest → IsAtEnd new → rest ≡ []
ended-rest None rest now end = absurd (cc)
ended-rest (Some xs) rest now end = (cc)

-- after a read
pub fed-read : (whole left new : Option (List ℕ)) (count before n ends : ℕ) (buffer : List ℕ) → IsFed whole left count before → n ≤ length buffer → Consumes left new (take n buffer)
    → (0 < ends → (0 < before) ⊎ IsAtEnd new) → IsFed whole new (count + n) ends
fed-read whole left new count before n ends buffer fed small given end = subst (λ k. IsFed whole new (count + k) ends) (length-take-le n buffer small) (record {
  rest = λ text known. let r = at text known in r.now ∙ ap Some (sym (drop-more text bytes r.rest count r.split));
  within = within;
  all = λ ended text known. all text known (end ended);
})
  where
    bytes : List ℕ
    bytes = take n buffer

    at : (text : List ℕ) → whole ≡ Some text → IsLeft (drop count text) bytes new
    at text known = left-after left new bytes (drop count text) (fed.rest text known) given

    within : (text : List ℕ) → whole ≡ Some text → count + length bytes ≤ length text
    within text known =
        let r = at text known in let before : count ≤ length text = fed.within text known in let long = ap length r.split in
        omega (arith, length-append bytes r.rest, length-drop count text)

    all : (text : List ℕ) → whole ≡ Some text → (0 < before) ⊎ IsAtEnd new → length text ≤ count + length bytes
    all text known (inl ended) = let before : length text ≤ count = fed.all ended text known in omega arith
    all text known (inr end) =
        let r = at text known in let none = ap length (ended-rest new r.rest r.now end) in let long = ap length r.split in
        omega (arith, length-append bytes r.rest, length-drop count text)

-- once the end was told, the whole text is as before
whole-still : (whole left : Option (List ℕ)) (count ends : ℕ) → IsFed whole left count ends → option_map (λ text. if nat_le 1 ends then take count text else text) whole ≡ whole
whole-still whole left count ends fed = by whole (nat_le 1 ends) refl fed.all
  where
    by : (known : Option (List ℕ)) (b : Bool) → nat_le 1 ends ≡ b → (0 < ends → (text : List ℕ) → known ≡ Some text → length text ≤ count) → option_map (λ text. if b then take count text else text) known ≡ known
    by None b is all = refl
    by (Some text) false is all = refl
    by (Some text) true is all = ap Some (take_all count text (all (leb-true 1 ends is) text refl))

-- what a read gives
pub gives-read : (old : Feed) (whole left new : Option (List ℕ)) (count before failures n ends : ℕ) (buffer : List ℕ) → record { whole = whole; count = count; ends = before; failures = failures } ≡ old
    → IsFed whole left count before → n ≤ length buffer → Consumes left new (take n buffer) → (0 < ends → (0 < before) ⊎ IsAtEnd new) → before ≤ ends
    → Gives (account_of_feed old) (account_of_feed (record { whole = whole; count = count + n; ends = ends; failures = failures })) (take n buffer)
gives-read old whole left new count before failures n ends buffer is fed small given end later = subst (λ (f : Feed). Gives (account_of_feed f) (account_of_feed (record { whole = whole; count = count + n; ends = ends; failures = failures })) bytes) is (record {
  whole = whole-still whole new (count + n) ends (fed-read whole left new count before n ends buffer fed small given end) ∙ sym (whole-still whole left count before fed);
  given = ap (λ k. option_map (take (count + k)) whole) long ∙ more whole fed.rest;
  count = ap (λ k. count + k) long;
  ends = later;
})
  where
    bytes : List ℕ
    bytes = take n buffer

    long : n ≡ length (take n buffer)
    long = sym (length-take-le n buffer small)

    more : (known : Option (List ℕ)) → ((text : List ℕ) → known ≡ Some text → left ≡ Some (drop count text)) → option_map (take (count + length bytes)) known ≡ option_map (λ l. l ++ bytes) (option_map (take count) known)
    more None rest = refl
    more (Some text) rest = let r = left-after left new bytes (drop count text) (rest text refl) given in ap Some (take-more text bytes r.rest count r.split)

-- where an end was told, it was told before, or the reader is at its end
pub ended-or_end : (new : Option (List ℕ)) (before n ends wanted : ℕ) → (n ≡ 0 → 0 < wanted → before ≡ 0 → IsAtEnd new) → (0 < n → ends ≡ before) → (wanted ≡ 0 → ends ≡ before) → 0 < ends → (0 < before) ⊎ IsAtEnd new
ended-or_end new before n ends wanted end some empty ended = by before n wanted end some empty
  where
    by : (before n wanted : ℕ) → (n ≡ 0 → 0 < wanted → before ≡ 0 → IsAtEnd new) → (0 < n → ends ≡ before) → (wanted ≡ 0 → ends ≡ before) → (0 < before) ⊎ IsAtEnd new
    by before (suc n) wanted end some empty = inl (let e : ends ≡ before = some (omega arith) in omega arith)
    by before zero zero end some empty = inl (let e : ends ≡ before = empty refl in omega arith)
    by zero zero (suc wanted) end some empty = inr (end refl (omega arith) refl)
    by (suc before) zero (suc wanted) end some empty = inl (omega arith)
