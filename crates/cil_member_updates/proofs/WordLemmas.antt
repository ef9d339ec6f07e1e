-- What a set statement gives at the types of a word, and the masks of it.
use Rattle.cil_member_updates.proofs.Common.{◌≡◌, ◌==◌, ◌+◌, ◌*◌, ◌/◌, ◌%◌, ◌≤◌, ◌&&◌, ℕ, Bool, false, List, length, Some, bytes_eq, slice_get, refl, sym, ap, ◌∙◌, inl, inr, arith, IsDistinct, bit_at, bit_at-zero, and-false, cases_eq, eq-eqb, ne_eqb, slice_get_past, hit, Meaning, SetStatement, differ, one_if, AreHeld, Cover, IsMoved, nothing, holds, is_of, gives}
use Rattle.cil_recorded.specs.Log.{hit_at}
use Rattle.cil_recorded.proofs.LogLemmas.{hit_in}
use Rattle.cil_member_updates.proofs.MovedLemmas.{hit-held, hit-most, moved-by, visited-same}
use Rattle.cil_member_updates.proofs.NameLemmas.{is-of-row, holds-past}

-- it gives in the row of its attribute
pub gives-row : (symbols : List (List ℕ)) → IsDistinct bytes_eq symbols → (row : ℕ) (meaning : Meaning) (s : SetStatement) → slice_get symbols row ≡ Some s.attribute
    → (a t : ℕ) → one_if (gives symbols meaning a t s) ≡ one_if ((a == row) && holds symbols meaning s t)
gives-row symbols distinct row meaning s at a t = ap (λ b. one_if (b && holds symbols meaning s t)) (is-of-row symbols distinct s row at a)

-- Two tests of the symbols of a word with their masks, and what is given in a row where they hold.
module _ (row word visits : ℕ) (was is : ℕ → Bool) (was_mask is_mask : ℕ) (covers : Cover (λ t. differ (was t) (is t)) word visits) (held_was : AreHeld visits was word was_mask) (held_is : AreHeld visits is word is_mask)
    (gave gives : ℕ → ℕ → ℕ) (was_row : (a t : ℕ) → gave a t ≡ one_if ((a == row) && was t)) (is_row : (a t : ℕ) → gives a t ≡ one_if ((a == row) && is t)) (count : ℕ → ℕ → ℕ) where
  -- the masks differ where what is given does
  hit-moved : (a t : ℕ) → t / 64 ≡ word → gave a t + hit_at row word is_mask a t ≡ gives a t + hit_at row word was_mask a t
  hit-moved a t here =
      let hit_was = hit-held row word visits was_mask was held_was a t here in
      let hit_is = hit-held row word visits is_mask is held_is a t here in
      let visited = bit_at visits (t % 64) == 1 in
      let by : (value : Bool → ℕ) → ((b : Bool) → one_if ((a == row) && b) ≡ value b) → value (was t) + value (visited && is t) ≡ value (is t) + value (visited && was t)
      → gave a t + hit_at row word is_mask a t ≡ gives a t + hit_at row word was_mask a t
      = (λ value read same. omega (arith, hit_was ∙ read (visited && was t), hit_is ∙ read (visited && is t), was_row a t ∙ read (was t), is_row a t ∙ read (is t), same)) in
      elim (cases_eq a row) [
        | inl same ↦ by one_if (λ b. ap (λ x. one_if (x && b)) (eq-eqb a row same)) (visited-same visits word was is covers t here)
        | inr other ↦ by (λ b. 0) (λ b. ap (λ x. one_if (x && b)) (ne_eqb a row other)) refl
      ]

  pub move-above : ((a t : ℕ) → t / 64 ≡ word → gave a t ≤ count a t) → (t : ℕ) → hit word was_mask t ≤ count row t + hit word is_mask t
  move-above above t =
      hit-most row word was_mask (λ t. count row t + hit word is_mask t)
      (λ t here. let moved = hit-moved row t here in let most = above row t here in omega (arith, moved, most, hit_in row word is_mask row t refl)) t

  pub moved-word : (new : ℕ → ℕ → ℕ) → ((a t : ℕ) → new a t + hit_at row word was_mask a t ≡ count a t + hit_at row word is_mask a t) → IsMoved word gave gives count new
  moved-word new shifted = moved-by gave gives row word was_mask is_mask count new shifted hit-moved

-- One test, and none.
module _ (row word visits : ℕ) (test : ℕ → Bool) (mask : ℕ) (covers : Cover test word visits) (held : AreHeld visits test word mask) (gives : ℕ → ℕ → ℕ) (in_row : (a t : ℕ) → gives a t ≡ one_if ((a == row) && test t)) (count : ℕ → ℕ → ℕ) where
  abbrev no : ℕ → Bool
  no t = false

  held-no : AreHeld visits no word 0
  held-no b within = bit_at-zero b ∙ sym (ap one_if (and-false (bit_at visits b == 1)))

  no-row : (a t : ℕ) → 0 ≡ one_if ((a == row) && false)
  no-row a t = sym (ap one_if (and-false (a == row)))

  covers-lone : Cover (λ t. differ (test t) false) word visits
  covers-lone b within none = ap (λ h. differ h false) (covers b within none)

  pub lower-above : ((a t : ℕ) → t / 64 ≡ word → gives a t ≤ count a t) → (t : ℕ) → hit word mask t ≤ count row t + hit word 0 t
  lower-above = move-above row word visits test no mask 0 covers-lone held held-no gives nothing in_row no-row count

  pub lowered-word : (new : ℕ → ℕ → ℕ) → ((a t : ℕ) → new a t + hit_at row word mask a t ≡ count a t + hit_at row word 0 a t) → IsMoved word gives nothing count new
  lowered-word = moved-word row word visits test no mask 0 covers-lone held held-no gives nothing in_row no-row count

  pub raised-word : (new : ℕ → ℕ → ℕ) → ((a t : ℕ) → new a t + hit_at row word 0 a t ≡ count a t + hit_at row word mask a t) → IsMoved word nothing gives count new
  raised-word = moved-word row word visits no test 0 mask covers held-no held nothing gives no-row in_row count

-- nothing is given where no bit is to be visited
pub gives-none : (symbols : List (List ℕ)) (meaning : Meaning) (s : SetStatement) (word : ℕ) → Cover (holds symbols meaning s) word 0 → (a t : ℕ) → t / 64 ≡ word → one_if (gives symbols meaning a t s) ≡ 0
gives-none symbols meaning s word covers a t here =
    let at : 64 * word + t % 64 ≡ t = omega (arith, here) in
    ap (λ b. one_if (is_of symbols s a && b)) (sym (ap (holds symbols meaning s) at) ∙ covers (t % 64) (omega arith) (bit_at-zero (t % 64))) ∙ ap one_if (and-false (is_of symbols s a))

-- a symbol without a name has nothing
pub gives-past : (symbols : List (List ℕ)) (meaning : Meaning) (s : SetStatement) (a t : ℕ) → length symbols ≤ t → one_if (gives symbols meaning a t s) ≡ 0
gives-past symbols meaning s a t past =
    ap (λ b. one_if (is_of symbols s a && b)) (holds-past symbols meaning s t (slice_get_past symbols t past)) ∙ ap one_if (and-false (is_of symbols s a))
