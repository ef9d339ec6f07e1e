-- Rows of bits in which one row, or a row more, stands.
use Rattle.cil_member_rows.proofs.Common.{◌≡◌, ◌≢◌, ℕ, ◌<◌, ◌≤◌, List, [], length, set, ap, arith, inl, inr, cases_eq, row_of, bits_at, words_of}
use Rattle.std.proofs.lemmas.Grind.{get_or-set_at}
use Rattle.std.proofs.lemmas.List.{get_or-set_other}
use Rattle.std.proofs.Math.ListN.{get_or-eq_default}

-- no bit stands behind the last word of a row
pub none_behind : (held : List (List ℕ)) (r w : ℕ) → words_of held r ≤ w → bits_at held r w ≡ 0
none_behind held r w past = get_or-eq_default (row_of held r) 0 past

module _ (held : List (List ℕ)) (row : ℕ) (x : List ℕ) (within : row < length held) where
  set_here : (r : ℕ) → r ≡ row → row_of (set held row x) r ≡ x
  set_here r same = get_or-set_at held row r x [] same within

  set_other : (r : ℕ) → r ≢ row → row_of (set held row x) r ≡ row_of held r
  set_other r other = get_or-set_other held row r x [] other

  old : (r : ℕ) → r ≡ row → row_of held r ≡ row_of held row
  old r same = ap (row_of held) same

  pub longer : length (row_of held row) ≤ length x → (r : ℕ) → words_of held r ≤ words_of (set held row x) r
  longer more r =
      elim (cases_eq r row) [
        | inl same ↦ omega (arith, more, ap (length {A = ℕ}) (set_here r same), ap (length {A = ℕ}) (old r same))
        | inr other ↦ omega (arith, ap (length {A = ℕ}) (set_other r other))
      ]
