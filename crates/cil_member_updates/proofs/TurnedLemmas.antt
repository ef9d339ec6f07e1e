-- A bit that is visited of a set statement of two policies is one where they may differ.
use Rattle.cil_member_updates.proofs.Common.{◌≡◌, ◌≢◌, ◌+◌, ◌-◌, ◌*◌, ◌<◌, ◌||◌, ℕ, Bool, true, false, List, IsTrue, Some, bit_or, bit_xor, min, nat_lt, slice_get, refl, sym, ap, ◌∙◌, subst, inl, inr, arith, bit_at, cases_eq, cases_lt, le-ltb, lt-ltb, bit_at_or, bit_at_xor, bit_at-lt, bit_at-zero, leaves, keeps_type, Meaning, is_member, an_attribute, Element, SetStatement, differ, mentions, one_if, AreBits, AreUnsettledAt, HasTurned, IsTurnedAt, IsUnsettled, keeps, Tell}
use Rattle.std.proofs.Common.{Contains}
use Rattle.cil_member_updates.proofs.EvaluatedLemmas.{either-true, first-true, second-true}
use Rattle.cil_member_updates.proofs.NameLemmas.{keeps-name, keeps-named, there-mentioned}

module _ (symbols : List (List ℕ)) (before now : ℕ → ℕ → ℕ) where
  -- the row of an attribute by whose changes the bits are
  pub turned-row : (row word bits : ℕ) (attribute : List ℕ) → slice_get symbols row ≡ Some attribute
      → ((b : ℕ) → b < 64 → bit_at bits b ≡ (min 1 (now row (64 * word + b)) - min 1 (before row (64 * word + b))) + (min 1 (before row (64 * word + b)) - min 1 (now row (64 * word + b))))
      → IsTurnedAt symbols before now (an_attribute attribute) word bits
  turned-row row word bits attribute at change b within set = (attribute, row, refl, at, λ same. let is = change b within in omega (arith, is, set, same))

  pub turned-none : (element : Element) (word : ℕ) → IsTurnedAt symbols before now element word 0
  turned-none element word b within set = absurd (let none = bit_at-zero b in omega (arith, none, set))

  -- one of the names so far has turned
  abbrev pub TurnedBelow : (ℕ → Element) → ℕ → ℕ → ℕ → Type 0
  TurnedBelow elements k word bits = (b : ℕ) → b < 64 → bit_at bits b ≡ 1 → (m : ℕ) × (m < k) × HasTurned symbols before now (elements m) (64 * word + b)

  pub turned-first : (elements : ℕ → Element) (word : ℕ) → TurnedBelow elements 0 word 0
  turned-first elements word b within set = absurd (let none = bit_at-zero b in omega (arith, none, set))

  pub turned-more : (elements : ℕ → Element) (k word bits more : ℕ) → TurnedBelow elements k word bits → IsTurnedAt symbols before now (elements k) word more → TurnedBelow elements (k + 1) word (bit_or bits more)
  turned-more elements k word bits more below next b within set =
      elim (cases_eq (bit_at bits b) 1) [
        | inl one ↦ let at = below b within one in (at.0, (let low = at.1 in omega (arith, low)), at.2)
        | inr other ↦ (k, omega arith, next b within (let of = bit_at_or bits more b in let low = bit_at-lt bits b in let high = bit_at-lt more b in omega (arith, of, low, high, other, set)))
      ]

above-other : (m n : ℕ) → min 1 n ≢ min 1 m → differ (nat_lt 0 m) (nat_lt 0 n) ≡ true
above-other m n other =
    elim (cases_lt 0 m) [
      | inl some ↦ ap (λ a. differ a (nat_lt 0 n)) (lt-ltb 0 m some) ∙ ap (differ true) (le-ltb 0 n (omega (arith, other, some)))
      | inr none ↦ ap (λ a. differ a (nat_lt 0 n)) (le-ltb 0 m none) ∙ lt-ltb 0 n (omega (arith, other, none))
    ]

-- A set statement of two policies, at the symbols of a word.
module _ (symbols : List (List ℕ)) (old new : Meaning) (s r : SetStatement) (same : s.expr ≡ r.expr) (before now : ℕ → ℕ → ℕ) (was : Tell symbols old s before) (is : Tell symbols new r now) where
  -- the name of a type that one of the policies keeps
  kept-name : (t : ℕ) → IsTrue (keeps symbols old t || keeps symbols new t) → (name : List ℕ) × (slice_get symbols t ≡ Some name) × IsTrue (keeps_type old name || keeps_type new name)
  kept-name t kept =
      elim (either-true (keeps symbols old t) (keeps symbols new t) kept) [
        | inl one ↦ let (name, at, keep) = keeps-name symbols old t one in (name, at, first-true (keeps_type old name) (keeps_type new name) keep)
        | inr other ↦ let (name, at, keep) = keeps-name symbols new t other in (name, at, second-true (keeps_type old name) (keeps_type new name) keep)
      ]

  turned-unsettled : (t : ℕ) → IsTrue (keeps symbols old t || keeps symbols new t) → (element : Element) → Contains (leaves r.expr) element → HasTurned symbols before now element t → IsUnsettled symbols old new r t
  turned-unsettled t kept element there (attribute, a, named, at_a, other) =
      let (name, at, keep) = kept-name t kept in
      let mentioned : IsTrue (mentions attribute r.expr) = there-mentioned attribute r.expr (subst (Contains (leaves r.expr)) named there) in
      record {
        name = name;
        here = at;
        kept = keep;
        why = inr (
          attribute,
          mentioned,
          ap (λ b. differ b (is_member new attribute name)) (sym (was a t attribute name at_a at (subst (λ e. IsTrue (mentions attribute e)) (sym same) mentioned)))
              ∙ ap (differ (nat_lt 0 (before a t))) (sym (is a t attribute name at_a at mentioned)) ∙ above-other (before a t) (now a t) other,
        );
      }

  kept-unsettled : (t : ℕ) → IsTrue (keeps symbols old t || keeps symbols new t) → differ (keeps symbols old t) (keeps symbols new t) ≡ true → IsUnsettled symbols old new r t
  kept-unsettled t kept other =
      let (name, at, keep) = kept-name t kept in
      record {
        name = name;
        here = at;
        kept = keep;
        why = inl (ap (λ b. differ b (keeps_type new name)) (sym (keeps-named symbols old t name at)) ∙ ap (differ (keeps symbols old t)) (sym (keeps-named symbols new t name at)) ∙ other);
      }

  pub unsettled-bits : (word changed kept_old kept_new : ℕ) → AreBits (keeps symbols old) word kept_old → AreBits (keeps symbols new) word kept_new
      → ((b : ℕ) → b < 64 → bit_at changed b ≡ 1 → (element : Element) × Contains (leaves r.expr) element × HasTurned symbols before now element (64 * word + b))
      → AreUnsettledAt symbols old new r word (bit_or changed (bit_xor kept_old kept_new))
  unsettled-bits word changed kept_old kept_new are_old are_new turned b within set kept =
      elim (cases_eq (bit_at changed b) 1) [
        | inl one ↦ let at = turned b within one in turned-unsettled (64 * word + b) kept at.0 at.1 at.2
        | inr other ↦ kept-unsettled (64 * word + b) kept (apart (keeps symbols old (64 * word + b)) (keeps symbols new (64 * word + b)) (sym (are_old b within)) (sym (are_new b within)) (unlike other))
      ]
    where
      unlike : bit_at changed b ≢ 1 → bit_at kept_old b ≢ bit_at kept_new b
      unlike other equal =
          let of = bit_at_or changed (bit_xor kept_old kept_new) b in
          let xor = bit_at_xor kept_old kept_new b in
          let low = bit_at-lt changed b in
          omega (arith, of, xor, low, other, equal, set)

      apart : (p q : Bool) → one_if p ≡ bit_at kept_old b → one_if q ≡ bit_at kept_new b → bit_at kept_old b ≢ bit_at kept_new b → differ p q ≡ true
      apart true true p_is q_is other = absurd (other (sym p_is ∙ q_is))
      apart true false p_is q_is other = refl
      apart false true p_is q_is other = refl
      apart false false p_is q_is other = absurd (other (sym p_is ∙ q_is))
