-- Masks before and after, and what was a member and is.
use Rattle.cil_member_rows.proofs.Common.{◌≡◌, ℕ, ◌-◌, ◌/◌, ◌%◌, ◌^◌, ◌<◌, bit_and, bit_xor, arith, inl, inr, w64, cases_eq, bit_not, hit, IsPresence, hit_at, hit_in, hit_off, IsChange}
use Rattle.std.proofs.lemmas.Nat.Bits.{bit_at_and, bit_at_not, bit_at_xor, bit_at-lt}
use Rattle.cil_lines.proofs.StepLemmas.{hit-here, hit-there}

-- a target of one mask that isn't in another
pub hit_without : (word one other t : ℕ) → other < 2 ^ 64 → hit word (bit_and one (bit_not w64 other)) t ≡ hit word one t - hit word other t
hit_without word one other t fits =
    elim (cases_eq (t / 64) word) [
      | inl e ↦
          let b = t % 64 in
          let within : b < 64 = omega arith in
          omega (
            arith,
            hit-here word (bit_and one (bit_not w64 other)) t e,
            hit-here word one t e,
            hit-here word other t e,
            bit_at_and one (bit_not w64 other) b,
            bit_at_not w64 other b fits within,
            bit_at-lt one b,
            bit_at-lt other b,
          )
      | inr n ↦ omega (arith, hit-there word (bit_and one (bit_not w64 other)) t n, hit-there word one t n, hit-there word other t n)
    ]

pub hit_at_without : (row word one other r t : ℕ) → other < 2 ^ 64 → hit_at row word (bit_and one (bit_not w64 other)) r t ≡ hit_at row word one r t - hit_at row word other r t
hit_at_without row word one other r t fits =
    elim (cases_eq r row) [
      | inl same ↦
          omega (
            arith,
            hit_without word one other t fits,
            hit_in row word (bit_and one (bit_not w64 other)) r t same,
            hit_in row word one r t same,
            hit_in row word other r t same,
          )
      | inr n ↦ omega (arith, hit_off row word (bit_and one (bit_not w64 other)) r t n, hit_off row word one r t n, hit_off row word other r t n)
    ]

pub changed_is : (before now : ℕ → ℕ) (word was is : ℕ) → IsPresence before word was → IsPresence now word is → IsChange before now word (bit_xor is was)
changed_is before now word was is had has b within = omega (arith, had b within, has b within, bit_at_xor is was b)
