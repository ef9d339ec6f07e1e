-- How many accesses came, by places and by keys.
use Rattle.cil_symbol_changes.proofs.Common.{◌≡◌, ◌-◌, ◌^◌, ◌<◌, ◌&&◌, ℕ, Bool, true, false, not, Some, length, get_or, nat_lt, position, refl, sym, ap, ◌∙◌, arith, true≢false, lt-ltb, ltb-true, get_or_from_slice_get, same_Some, slice_get-get_or, Keyed, IsLineOf, before_at, is_key, now_at, count_before, count_now, SymbolKey, below, RisesBy, AreCounted, AreSoMany, came_at, has_come, has_come_at, has_risen, present_at, went_at}
use Rattle.std.specs.List.{IsDistinct}
use Rattle.cil_keyed_lines.proofs.KeyedLemmas.{key_placed, no_key, placed_at, placed_within}
use Rattle.cil_sums.proofs.RiseLemmas.{rises-stand}
use Rattle.cil_symbol_changes.specs.declared.counted_changes.ChangeCounts.{ChangeCounts}
use Rattle.cil_symbol_changes.proofs.ChangeLemmas.{line-led, place-before, place-now}

-- a count that is small enough is exact
pub so-many : {X : Type 0} (p : X → Bool) (count : ℕ) → count < 2 ^ 128 - 1 → RisesBy p 0 count → AreSoMany p count
so-many p count small rises = record {
  those = rises.those;
  exact = rises.exact;
  once = rises.once;
  all = omega (arith, small, rises.at_most, rises.at_least);
}

-- both of two that hold
pub both-hold : (a b : Bool) → (a && b) ≡ true → (a ≡ true) × (b ≡ true)
both-hold true b is = (refl, is)
both-hold false b is = absurd (true≢false (sym is))

-- ---- keys

module _ (lines : Keyed) (distinct : IsDistinct is_key lines.keys) (f g : ℕ → ℕ → ℕ) (was is : SymbolKey → ℕ → ℕ)
    (at : (l : ℕ) (key : SymbolKey) → IsLineOf lines l key → (t : ℕ) → (f l t ≡ was key t) × (g l t ≡ is key t))
    (find : (key : SymbolKey) (t : ℕ) → 0 < is key t → (l : ℕ) × (position (is_key key) lines.keys ≡ Some l)) where
  abbrev key_at : ℕ → SymbolKey
  key_at l = get_or lines.keys l no_key

  abbrev pub in_lines : ℕ × ℕ → Bool
  in_lines = below (has_come_at f g) (length lines.keys)

  abbrev pub by_key : ℕ × ℕ → SymbolKey × ℕ
  by_key p = (key_at p.0, p.1)

  -- the key of a place leads to it
  led : (p : ℕ × ℕ) → in_lines p ≡ true → position (is_key (key_at p.0)) lines.keys ≡ Some p.0
  led p passes =
      let within = ltb-true p.0 (length lines.keys) (both-hold (nat_lt p.0 (length lines.keys)) (has_come_at f g p.0 p.1) passes).0 in
      placed_at lines.keys p.0 (key_at p.0) distinct (slice_get-get_or lines.keys p.0 no_key within)

  come-at : (l : ℕ) (key : SymbolKey) (t : ℕ) → position (is_key key) lines.keys ≡ Some l → in_lines (l, t) ≡ has_come was is (key, t)
  come-at l key t leads =
      let (before, now) = at l key (line-led lines l key leads) t in
      ap (λ b. b && has_come_at f g l t) (lt-ltb l (length lines.keys) (placed_within lines.keys key l leads)) ∙ (λ i. has_risen (before i) (now i))

  of-lines : (p : ℕ × ℕ) → in_lines p ≡ true → has_come was is (by_key p) ≡ true
  of-lines p passes = sym (come-at p.0 (key_at p.0) p.1 (led p passes)) ∙ passes

  to-lines : (q : SymbolKey × ℕ) → has_come was is q ≡ true → (p : ℕ × ℕ) × (in_lines p ≡ true) × (by_key p ≡ q)
  to-lines q come =
      let present = (both-hold (nat_lt 0 (is q.0 q.1)) (not (nat_lt 0 (was q.0 q.1))) come).0 in
      let (l, leads) = find q.0 q.1 (ltb-true 0 (is q.0 q.1) present) in
      let key = get_or_from_slice_get lines.keys l q.0 no_key (key_placed lines.keys q.0 l leads) in
      ((l, q.1), come-at l q.0 q.1 leads ∙ come, λ i. (key i, q.1))

  one-line : (p q : ℕ × ℕ) → in_lines p ≡ true → in_lines q ≡ true → by_key p ≡ by_key q → p ≡ q
  one-line p q first second same =
      let lines_same = same_Some p.0 q.0 (sym (led p first) ∙ ap (λ r. position (is_key r.0) lines.keys) same ∙ led q second) in
      let targets = ap (λ r. r.1) same in
      λ i. (lines_same i, targets i)

  pub key-count : (before after : ℕ) → RisesBy in_lines before after → RisesBy (has_come was is) before after
  key-count = rises-stand by_key in_lines (has_come was is) one-line of-lines to-lines

-- what is counted place by place is counted by key
module _ (lines : Keyed) (distinct : IsDistinct is_key lines.keys) where
  pub present-count : (count : ℕ) → RisesBy (below (present_at lines) (length lines.keys)) 0 count → RisesBy (has_come (λ key t. 0) (count_now lines)) 0 count
  present-count = key-count lines distinct (λ l t. 0) (now_at lines) (λ key t. 0) (count_now lines) (λ l key line t. (refl, line.now t)) (place-now lines) 0

  pub change-count : (counts : ChangeCounts) → AreCounted (below (came_at lines) (length lines.keys)) (below (went_at lines) (length lines.keys)) counts
      → AreCounted (has_come (count_before lines) (count_now lines)) (has_come (count_now lines) (count_before lines)) counts
  change-count counts are = record {
    added = key-count lines distinct (before_at lines) (now_at lines) (count_before lines) (count_now lines) (λ l key line t. (line.before t, line.now t)) (place-now lines) 0 counts.added are.added;
    removed = key-count lines distinct (now_at lines) (before_at lines) (count_now lines) (count_before lines) (λ l key line t. (line.now t, line.before t)) (place-before lines) 0 counts.removed are.removed;
  }
