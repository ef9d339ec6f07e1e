-- Words whose bits move up together.
use Rattle.cil_accesses.proofs.Common.{◌≡◌, ◌↔◌, ◌⊎◌, inl, inr, ℕ, zero, suc, ◌<◌, ◌≤◌, ◌+◌, ◌-◌, ◌*◌, ◌/◌, ◌%◌, ◌^◌, List, length, get_or, w64, refl, sym, ap, ◌∙◌, subst, arith, eq-eqb, bit_at, trailing_zeros, leading_zeros, IsStrictlyIncreasing, cases_lt, shr-shr, shr_split, leading_top, pow_pos, bit_at-zero, bit_at_above, bit_at_cat_low, bit_at_cat_high, bit_at-trailing_zeros, AccessNumbers, Chunk, IsAccessOf, IsGiven, IsWithin, IsMoved, IsTarget, IsRenumbered, IsRenumberedIn, MovesUp, access_at}
use Rattle.std.proofs.Common.{eqb-true}
use Rattle.cil_accesses.proofs.Members.{access-of}

-- ---- the bits of two words

module _ (bits up : ℕ) where
  low-bit : (j : ℕ) → j < 64 → bit_at (bits * 2 ^ up % 2 ^ 64) j ≡ bit_at (bits * 2 ^ up + 0) j
  low-bit j within =
      let n : ℕ = bits * 2 ^ up in
      sym (bit_at_cat_low (n / 2 ^ 64) 64 (n % 2 ^ 64) j within) ∙ ap (λ k. bit_at k j) (shr_split n 64) ∙ ap (λ k. bit_at k j) (plain n)
    where
      plain : (n : ℕ) → n ≡ n + 0
      plain n = omega arith

  pub moved-low : (j : ℕ) → j < 64 → (bit_at (bits * 2 ^ up % 2 ^ 64) j ≡ 1) ↔ IsMoved bits up j
  moved-low j within = (to (cases_lt j up), back)
    where
      to : (j < up) ⊎ (up ≤ j) → bit_at (bits * 2 ^ up % 2 ^ 64) j ≡ 1 → IsMoved bits up j
      to (inl below) set =
          let clear = sym (low-bit j within) ∙ set in
          let none = bit_at_cat_low bits up 0 j below ∙ bit_at-zero j in
          absurd (omega (arith, clear, none))
      to (inr above) set = record {
        bit = j - up;
        set = sym (bit_at_cat_high bits up 0 j (pow_pos up) above) ∙ sym (low-bit j within) ∙ set;
        at = omega arith;
      }

      back : IsMoved bits up j → bit_at (bits * 2 ^ up % 2 ^ 64) j ≡ 1
      back moved =
          let at = moved.at in
          let above : up ≤ j = omega (arith, at) in
          let place : j - up ≡ moved.bit = omega (arith, at) in
          low-bit j within ∙ bit_at_cat_high bits up 0 j (pow_pos up) above ∙ ap (bit_at bits) place ∙ moved.set

  high-bit : (j : ℕ) → bit_at (bits / 2 ^ (64 - up)) j ≡ bit_at bits (64 - up + j)
  high-bit j = ap (λ k. k % 2) (shr-shr bits (64 - up) j)

  pub moved-high : up < 64 → (j : ℕ) → (bit_at (bits / 2 ^ (64 - up)) j ≡ 1) ↔ IsMoved bits up (64 + j)
  moved-high within j = (
    λ set. record { bit = 64 - up + j; set = sym (high-bit j) ∙ set; at = omega arith },
    λ moved.
        let at = moved.at in
        let place : 64 - up + j ≡ moved.bit = omega (arith, at) in
        high-bit j ∙ ap (bit_at bits) place ∙ moved.set,
  )

-- bits that stay leave the second word without one
pub stays-high : (bits : ℕ) → bits < 2 ^ 64 → (up : ℕ) → up ≡ 0 → (j : ℕ) → (bit_at 0 j ≡ 1) ↔ IsMoved bits up (64 + j)
stays-high bits fits up none j = (
  λ set. let clear = bit_at-zero j in absurd (omega (arith, set, clear)),
  λ moved.
      let at = moved.at in
      let set = moved.set in
      let clear = bit_at_above bits 64 moved.bit fits (omega (arith, at, none)) in
      absurd (omega (arith, set, clear)),
)

-- ---- the lowest and the highest bit

module _ (bits : ℕ) (some : 0 < bits) (fits : bits < 2 ^ 64) where
  abbrev lowest : ℕ
  lowest = trailing_zeros w64 bits

  abbrev highest : ℕ
  highest = 63 - leading_zeros w64 bits

  pub lowest-small : lowest < 64
  lowest-small = (bit_at-trailing_zeros w64 bits some fits).0

  pub lowest-set : bit_at bits lowest ≡ 1
  lowest-set = (bit_at-trailing_zeros w64 bits some fits).1

  top : (j : ℕ) × (leading_zeros w64 bits + suc j ≡ 64) × (2 ^ j ≤ bits) × (bits < 2 ^ suc j)
  top = leading_top 64 bits some fits

-- ---- numbers that rise

module _ (numbers : List ℕ) (rising : IsStrictlyIncreasing numbers) where
  apart : (d i : ℕ) → i + d < length numbers → get_or numbers i 0 + d ≤ get_or numbers (i + d) 0
  apart zero i within = omega (arith, ap (λ k. get_or numbers k 0) (same i))
    where
      same : (k : ℕ) → k + 0 ≡ k
      same k = omega arith
  apart (suc d) i within =
      let before = apart d i (omega arith) in
      let next = rising (i + d) (omega arith) in
      let place : get_or numbers (i + d + 1) 0 ≡ get_or numbers (i + suc d) 0 = ap (λ k. get_or numbers k 0) (same i d) in
      omega (arith, before, next, place)
    where
      same : (k m : ℕ) → k + m + 1 ≡ k + suc m
      same k m = omega arith

  pub rises : (i j : ℕ) → i ≤ j → j < length numbers → get_or numbers i 0 + (j - i) ≤ get_or numbers j 0
  rises i j order within =
      let place : i + (j - i) ≡ j = omega arith in
      subst (λ k. get_or numbers i 0 + (j - i) ≤ get_or numbers k 0) place (apart (j - i) i (omega arith))

  pub not-lower : (i : ℕ) → i < length numbers → i ≤ get_or numbers i 0
  not-lower i within = let from = rises 0 i (omega arith) within in omega (arith, from)

  -- between two numbers that are higher than their places by as much
  pub between : (i p j : ℕ) → i ≤ p → p ≤ j → j < length numbers → get_or numbers j 0 - j ≡ get_or numbers i 0 - i → get_or numbers p 0 ≡ p + (get_or numbers i 0 - i)
  between i p j above below within same =
      let first = rises i p above (omega arith) in
      let second = rises p j below within in
      let i_least = not-lower i (omega arith) in
      let j_least = not-lower j within in
      omega (arith, first, second, i_least, j_least, same)

-- ---- the targets of a chunk

module _ (numbers : List ℕ) (c : Chunk) (within : (a : AccessNumbers) → IsAccessOf c a → IsWithin (length numbers) a) where
  pub target-within : (b : ℕ) → b < 64 → bit_at c.bits b ≡ 1 → 64 * c.word + b < length numbers
  target-within b small set = (within (access_at b c) (access-of c b (access_at b c) small (eq-eqb (bit_at c.bits b) 1 set) refl)).target

  module _ (rising : IsStrictlyIncreasing numbers) (some : 0 < c.bits) (fits : c.bits < 2 ^ 64) where
    abbrev first : ℕ
    first = 64 * c.word + trailing_zeros w64 c.bits

    abbrev last : ℕ
    last = 64 * c.word + (63 - leading_zeros w64 c.bits)

-- ---- the accesses of a chunk whose targets stand in a word

module _ (numbers : List ℕ) (c : Chunk) (word bits : ℕ) (exact : (j : ℕ) → j < 64 → (bit_at bits j ≡ 1) ↔ IsTarget numbers c (64 * word + j)) where
  abbrev in-word : Chunk
  in-word = record { kind = c.kind; source = get_or numbers c.source 0; word = word; class = get_or numbers c.class 0; permission = get_or numbers c.permission 0; bits = bits }

  its-bit : (a : AccessNumbers) → IsRenumberedIn numbers c word a → bit_at bits (a.target % 64) ≡ 1
  its-bit a r =
      let target = ap (λ (x : AccessNumbers). x.target) r.some.at.is in
      let stands = r.stands in
      (exact (a.target % 64) (omega arith)).1 (record { bit = r.some.bit; within = r.some.within; set = r.some.at.set; is = omega (arith, target, stands) })

  pub word-accesses : (a : AccessNumbers) → IsAccessOf in-word a ↔ IsRenumberedIn numbers c word a
  word-accesses a = (to, back)
    where
      to : IsAccessOf in-word a → IsRenumberedIn numbers c word a
      to of =
          let t = (exact (a.target % 64) (omega arith)).0 of.bit in
          let stands = of.word in
          let is = t.is in
          let target : a.target ≡ get_or numbers (64 * c.word + t.bit) 0 = omega (arith, stands, is) in
          record {
            some = record {
              bit = t.bit;
              within = t.within;
              at = record { set = t.set; is = λ i. record { kind = of.kind i; source = of.source i; target = target i; class = of.the_class i; permission = of.permission i } };
            };
            stands = of.word;
          }

      back : IsRenumberedIn numbers c word a → IsAccessOf in-word a
      back r = let is = r.some.at.is in record {
        kind = ap (λ (x : AccessNumbers). x.kind) is;
        source = ap (λ (x : AccessNumbers). x.source) is;
        word = r.stands;
        the_class = ap (λ (x : AccessNumbers). x.class) is;
        permission = ap (λ (x : AccessNumbers). x.permission) is;
        bit = its-bit a r;
      }

  pub word-put : (old new : List Chunk) → ((a : AccessNumbers) → IsGiven new a ↔ (IsGiven old a ⊎ IsAccessOf in-word a)) → (a : AccessNumbers) → IsGiven new a ↔ (IsGiven old a ⊎ IsRenumberedIn numbers c word a)
  word-put old new more a = (
    λ h. elim ((more a).0 h) [ inl before ↦ inl before | inr here ↦ inr ((word-accesses a).0 here) ],
    λ h. (more a).1 (elim h [ inl before ↦ inl before | inr here ↦ inr ((word-accesses a).1 here) ]),
  )

  -- a bit that is set has a target
  pub some-target : 0 < bits → bits < 2 ^ 64 → (j : ℕ) × IsTarget numbers c (64 * word + j)
  some-target some fits = (trailing_zeros w64 bits, (exact (trailing_zeros w64 bits) (lowest-small bits some fits)).0 (lowest-set bits some fits))

  -- the numbers of the chunk have places
  pub its-numbers : ((a : AccessNumbers) → IsAccessOf c a → IsWithin (length numbers) a) → 0 < bits → bits < 2 ^ 64 → (c.source < length numbers) × (c.class < length numbers) × (c.permission < length numbers)
  its-numbers within some fits =
      let t = (some-target some fits).1 in
      let of = access-of c t.bit (access_at t.bit c) t.within t.set refl in
      let low = within (access_at t.bit c) of in
      (omega (arith, of.source, low.source), omega (arith, of.the_class, low.the_class), omega (arith, of.permission, low.permission))

  pub word-low : ((i : ℕ) → get_or numbers i 0 < 2 ^ 32) → 0 < bits → bits < 2 ^ 64 → word < 2 ^ 26
  word-low low some fits =
      let t = (some-target some fits).1 in
      let is = t.is in
      let small = low (64 * c.word + t.bit) in
      omega (arith, is, small)

-- ---- the two words to which the targets of a chunk move up

module _ (numbers : List ℕ) (c : Chunk) (up : ℕ) (fits : c.bits < 2 ^ 64) (moves : MovesUp numbers c up) where
  moved-target : (place : ℕ) → IsMoved c.bits (up % 64) place ↔ IsTarget numbers c (64 * (c.word + up / 64) + place)
  moved-target place = (to, back)
    where
      to : IsMoved c.bits (up % 64) place → IsTarget numbers c (64 * (c.word + up / 64) + place)
      to moved =
          let at = moved.at in
          let set = eq-eqb (bit_at c.bits moved.bit) 1 moved.set in
          let within = small (cases_lt moved.bit 64) moved.set in
          let is = moves moved.bit within set in
          record { bit = moved.bit; within = within; set = set; is = omega (arith, at, is) }
        where
          small : {b : ℕ} → (b < 64) ⊎ (64 ≤ b) → bit_at c.bits b ≡ 1 → b < 64
          small {b} (inl below) set = below
          small {b} (inr above) set = let clear = bit_at_above c.bits 64 b fits above in absurd (omega (arith, set, clear))

      back : IsTarget numbers c (64 * (c.word + up / 64) + place) → IsMoved c.bits (up % 64) place
      back t =
          let is = t.is in
          let moved = moves t.bit t.within t.set in
          record { bit = t.bit; set = eqb-true (bit_at c.bits t.bit) 1 t.set; at = omega (arith, is, moved) }

  pub low-targets : (low : ℕ) → ((j : ℕ) → j < 64 → (bit_at low j ≡ 1) ↔ IsMoved c.bits (up % 64) j) → (j : ℕ) → j < 64 → (bit_at low j ≡ 1) ↔ IsTarget numbers c (64 * (c.word + up / 64) + j)
  low-targets low exact j within = (λ set. (moved-target j).0 ((exact j within).0 set), λ t. (exact j within).1 ((moved-target j).1 t))

  pub high-targets : (high : ℕ) → ((j : ℕ) → (bit_at high j ≡ 1) ↔ IsMoved c.bits (up % 64) (64 + j)) → (j : ℕ) → j < 64 → (bit_at high j ≡ 1) ↔ IsTarget numbers c (64 * (c.word + up / 64 + 1) + j)
  high-targets high exact j within =
      let place : 64 * (c.word + up / 64) + (64 + j) ≡ 64 * (c.word + up / 64 + 1) + j = omega arith in
      subst (λ k. (bit_at high j ≡ 1) ↔ IsTarget numbers c k) place (λ set. (moved-target (64 + j)).0 ((exact j).0 set), λ t. (exact j).1 ((moved-target (64 + j)).1 t))

  in-either : (a : AccessNumbers) → IsRenumbered numbers c 64 a → IsRenumberedIn numbers c (c.word + up / 64) a ⊎ IsRenumberedIn numbers c (c.word + up / 64 + 1) a
  in-either a r = by (cases_lt (a.target / 64) (c.word + up / 64 + 1))
    where
      target : a.target ≡ 64 * c.word + r.bit + up
      target = ap (λ (x : AccessNumbers). x.target) r.at.is ∙ moves r.bit r.within r.at.set

      by : (a.target / 64 < c.word + up / 64 + 1) ⊎ (c.word + up / 64 + 1 ≤ a.target / 64) → IsRenumberedIn numbers c (c.word + up / 64) a ⊎ IsRenumberedIn numbers c (c.word + up / 64 + 1) a
      by (inl below) = let is = target in let small = r.within in inl (record { some = r; stands = omega (arith, is, small, below) })
      by (inr above) = let is = target in let small = r.within in inr (record { some = r; stands = omega (arith, is, small, above) })

  pub both-words : (old mid new : List Chunk) → ((a : AccessNumbers) → IsGiven mid a ↔ (IsGiven old a ⊎ IsRenumberedIn numbers c (c.word + up / 64) a)) → ((a : AccessNumbers) → IsGiven new a ↔ (IsGiven mid a ⊎ IsRenumberedIn numbers c (c.word + up / 64 + 1) a))
      → (a : AccessNumbers) → IsGiven new a ↔ (IsGiven old a ⊎ IsRenumbered numbers c 64 a)
  both-words old mid new first second a = (
    λ h. elim ((second a).0 h) [
      | inl before ↦ elim ((first a).0 before) [ inl given ↦ inl given | inr here ↦ inr here.some ]
      | inr here ↦ inr here.some
    ],
    λ h. (second a).1 (elim h [
      | inl given ↦ inl ((first a).1 (inl given))
      | inr r ↦ elim (in-either a r) [ inl low ↦ inl ((first a).1 (inr low)) | inr high ↦ inr high ]
    ]),
  )
