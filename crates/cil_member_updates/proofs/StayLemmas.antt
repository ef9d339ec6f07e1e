-- A set statement of two policies that holds the same in both, and one that holds nothing in a word.
use Rattle.cil_member_updates.proofs.Common.{◌≡◌, ◌+◌, ◌*◌, ◌/◌, ◌<◌, ◌%◌, ◌&&◌, ℕ, false, List, length, Some, bytes_eq, slice_get, sym, ap, ◌∙◌, arith, IsDistinct, true≢false, and-false, bit_at-zero, Meaning, an_attribute, SetStatement, differ, one_if, Cover, CoversStayed, IsMovedAt, IsSameSet, IsUnchanged, MustHold, MustMove, given, given_of, gives, held_by, holds, is_given, is_of, meaning_in, new_in, of_name, old_in, set_at, set_of, was_given}
use Rattle.cil_member_updates.specs.declared.side.Reading.{Reading}
use Rattle.cil_member_updates.specs.declared.side.Stayed.{Stayed}
use Rattle.cil_member_updates.proofs.BitLemmas.{alike}
use Rattle.cil_member_updates.proofs.EvaluatedLemmas.{moved-within}
use Rattle.cil_member_updates.proofs.NameLemmas.{unchanged-row}
use Rattle.cil_member_updates.proofs.RenewLemmas.{same-attribute}

-- the attribute of a row whose counters of a word are the same before and now
pub unchanged-word : (symbols : List (List ℕ)) (before now : ℕ → ℕ → ℕ) → IsDistinct bytes_eq symbols → (row : ℕ) (attribute : List ℕ) → slice_get symbols row ≡ Some attribute
    → (w : ℕ) → ((t : ℕ) → t / 64 ≡ w → before row t ≡ now row t) → IsUnchanged symbols before now (an_attribute attribute) w 0
unchanged-word symbols before now distinct row attribute at w same =
    unchanged-row symbols before now distinct row w 0 attribute at (λ b within. let here = same (64 * w + b) (omega (arith, within)) in omega (arith, bit_at-zero b, here))

module _ (symbols : List (List ℕ)) (old new : Meaning) (s r : SetStatement) (word : ℕ) (covers : Cover (λ t. differ (holds symbols old s t) (holds symbols new r t)) word 0) where
  none-differ : (t : ℕ) → t / 64 ≡ word → differ (holds symbols old s t) (holds symbols new r t) ≡ false
  none-differ t at =
      let here : 64 * word + t % 64 ≡ t = omega (arith, at) in
      sym (ap (λ n. differ (holds symbols old s n) (holds symbols new r n)) here) ∙ covers (t % 64) (omega arith) (bit_at-zero (t % 64))

  pub stay-unmoved : (t : ℕ) → t / 64 ≡ word → IsMovedAt symbols old s new r t → ⊥
  stay-unmoved t at moved = true≢false (sym moved ∙ none-differ t at)

  -- and gives the same
  pub stay-gives : s.attribute ≡ r.attribute → (a t : ℕ) → t / 64 ≡ word → one_if (gives symbols old a t s) ≡ one_if (gives symbols new a t r)
  unfolding is_of
  stay-gives same a t at =
      ap (λ h. one_if (is_of symbols s a && h)) (alike (holds symbols old s t) (holds symbols new r t) (none-differ t at))
      ∙ ap (λ attribute. one_if (of_name (λ name. bytes_eq name attribute) (slice_get symbols a) && holds symbols new r t)) same

module _ {A : Type 0} (s : Stayed A) where
  pub stayed-within : (t : ℕ) → MustMove s t → t < length s.policies.now.symbols.now
  stayed-within = moved-within s.policies.now.symbols.now (meaning_in (old_in s.policies.now)) (meaning_in (new_in s.policies.now)) (set_at (old_in s.policies.now) s.i) (set_at (new_in s.policies.now) s.j)

  module _ (word : ℕ) (covers : CoversStayed s word 0) where
    pub stayed-unmoved : (t : ℕ) → t / 64 ≡ word → MustMove s t → ⊥
    stayed-unmoved = stay-unmoved s.policies.now.symbols.now (meaning_in (old_in s.policies.now)) (meaning_in (new_in s.policies.now)) (set_at (old_in s.policies.now) s.i) (set_at (new_in s.policies.now) s.j) word covers

    pub stayed-gives : IsSameSet (set_at (old_in s.policies.now) s.i) (set_at (new_in s.policies.now) s.j) → (a t : ℕ) → t / 64 ≡ word → was_given s a t ≡ is_given s a t
    unfolding given
    stayed-gives same = stay-gives s.policies.now.symbols.now (meaning_in (old_in s.policies.now)) (meaning_in (new_in s.policies.now)) (set_at (old_in s.policies.now) s.i) (set_at (new_in s.policies.now) s.j) word covers
        (same-attribute (set_at (old_in s.policies.now) s.i) (set_at (new_in s.policies.now) s.j) same)

-- A set statement that holds no type of a word.
module _ {A : Type 0} (r : Reading A) (word : ℕ) (covers : Cover (held_by r) word 0) where
  none-held : (t : ℕ) → t / 64 ≡ word → held_by r t ≡ false
  none-held t at =
      let here : 64 * word + t % 64 ≡ t = omega (arith, at) in
      sym (ap (held_by r) here) ∙ covers (t % 64) (omega arith) (bit_at-zero (t % 64))

  pub unheld : (t : ℕ) → t / 64 ≡ word → MustHold r t → ⊥
  unheld t at held = true≢false (sym held ∙ none-held t at)

  -- gives none
  pub given-unheld : (a t : ℕ) → t / 64 ≡ word → given_of r a t ≡ 0
  unfolding given
  given-unheld a t at = ap (λ h. one_if (is_of r.symbols.now (set_of r) a && h)) (none-held t at) ∙ ap one_if (and-false (is_of r.symbols.now (set_of r) a))
