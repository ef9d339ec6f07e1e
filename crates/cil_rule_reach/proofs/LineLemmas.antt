-- Types alone, and members of a row as a line, word by word.
use Rattle.std.proofs.Common.{◌≡◌, ℕ, ◌+◌, ◌*◌, ◌/◌, ◌%◌, ◌<◌, ◌≤◌, ◌==◌, Bool, true, false, List, length, get_or, min, nat_lt, refl, sym, ap, ◌∙◌, inl, inr, arith}
use Rattle.std.proofs.Math.ListN.{get_or-eq_default}
use Rattle.std.proofs.lemmas.Bool.{cases_lt, lt-ltb, le-ltb, ne_eqb}
use Rattle.std.proofs.lemmas.Nat.Bits.{bit_at-zero}
use Rattle.std.specs.Int.{bit_at}
use Rattle.std.specs.Prelude.{slice_index}
use Rattle.cil_lines.specs.Line.{Counters, count_of, IsPresence}
use Rattle.cil_rule_shifts.specs.Reach.{is_present, one_if}

one-if-some : (n : ℕ) → min 1 n ≡ one_if (nat_lt 0 n)
one-if-some n =
    elim (cases_lt 0 n) [
      | inl some ↦ let one : min 1 n ≡ 1 = omega (arith, some) in one ∙ sym (ap one_if (lt-ltb 0 n some))
      | inr none ↦ let zero : min 1 n ≡ 0 = omega (arith, none) in zero ∙ sym (ap one_if (le-ltb 0 n none))
    ]

-- words that say who is a member, as far as any type is one
pub words-all : (line : Counters) (counts : ℕ → ℕ) (words : List ℕ) (symbols n t : ℕ) → n ≡ symbols / 64 + 1 → (symbols ≤ t → counts t ≡ 0) → length words ≤ n
    → ((w : ℕ) → w < n → IsPresence counts w (slice_index words w)) → count_of line t ≡ bit_at (get_or words (t / 64) 0) (t % 64) → is_present line t ≡ nat_lt 0 (counts t)
unfolding is_present
words-all line counts words symbols n t all none few are is =
    elim (cases_lt (t / 64) n) [
      | inl within ↦
          let here : 64 * (t / 64) + t % 64 ≡ t = omega arith in
          ap (nat_lt 0) (is ∙ are (t / 64) within (t % 64) (omega arith) ∙ ap (λ k. min 1 (counts k)) here ∙ one-if-some (counts t)) ∙ positive (nat_lt 0 (counts t))
      | inr past ↦
          ap (nat_lt 0) (is ∙ ap (λ w. bit_at w (t % 64)) (get_or-eq_default words 0 (omega (arith, few, past))) ∙ bit_at-zero (t % 64))
          ∙ sym (ap (nat_lt 0) (none (omega (arith, all, past))))
    ]
  where
    positive : (b : Bool) → nat_lt 0 (one_if b) ≡ b
    positive true = refl
    positive false = refl

-- no type has a number behind those of the code
pub one-short : (f : ℕ → Bool) (ty symbols : ℕ) → ty < symbols → symbols ≤ 18446744073709551615 → ((t : ℕ) → f t ≡ (ty == t)) → (t : ℕ) → 18446744073709551615 ≤ t → f t ≡ false
one-short f ty symbols low few is t past = is t ∙ ne_eqb ty t (λ e. omega (arith, e, low, few, past))

pub many-short : (f : ℕ → Bool) (counts : ℕ → ℕ) (symbols : ℕ) → symbols ≤ 18446744073709551615 → ((t : ℕ) → symbols ≤ t → counts t ≡ 0) → ((t : ℕ) → f t ≡ nat_lt 0 (counts t))
    → (t : ℕ) → 18446744073709551615 ≤ t → f t ≡ false
many-short f counts symbols few none is t past = is t ∙ ap (nat_lt 0) (none t (omega (arith, few, past)))
