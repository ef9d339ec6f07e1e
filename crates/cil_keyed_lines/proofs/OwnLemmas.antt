-- The changes of a line that a place names and named.
use Rattle.cil_keyed_lines.proofs.Common.{◌≡◌, ◌≢◌, ◌⊎◌, ℕ, ◌+◌, ◌*◌, ◌-◌, ◌/◌, ◌%◌, ◌^◌, ◌<◌, ◌≤◌, Bool, true, false, List, length, get_or, refl, sym, ap, ◌∙◌, inl, inr, arith, cases_eq, subst, hit_at, sum_by, name_now}
use Rattle.std.proofs.lemmas.List.{get_or_default}
use Rattle.std.specs.Int.{bit_at}
use Rattle.std.specs.Prelude.{min}
use Rattle.cil_recorded.specs.Differences.{change_key, key_of}
use Rattle.cil_recorded.specs.Recorded as recorded
use Rattle.cil_recorded.specs.declared.recorded_lines.changes.Change.{Change}
use Rattle.cil_keyed_lines.specs.Keyed.{Keyed, before_at, now_at}
use Rattle.cil_keyed_lines.specs.Past.{is_before, AreOwnFrom, IsNextTurned, IsOwnTurn, IsPast, IsSame, NoneTurned}
use Rattle.cil_keyed_lines.specs.declared.keyed_lines.past.Past.{Past}
use Rattle.cil_keyed_lines.proofs.PastLemmas.{ascends-strictly, before-less, before-most, bits-before, bits-here, key-back, key-lower, same-line, short-at, split-most}

-- a change is before a word of a line if its number is less than that of the word, and isn't if it is not
less-before : (l w : ℕ) (c : Change) → w < 2 ^ 64 → change_key c < key_of l w → is_before l w c ≡ true
less-before l w c fits less = by (is_before l w c) refl
  where
    by : (b : Bool) → is_before l w c ≡ b → b ≡ true
    by true is = refl
    by false is = let most = before-most l w c is fits in absurd (omega (arith, less, most))

most-behind : (l w : ℕ) (c : Change) → c.word < 2 ^ 64 → key_of l w ≤ change_key c → is_before l w c ≡ false
most-behind l w c short most = by (is_before l w c) refl
  where
    by : (b : Bool) → is_before l w c ≡ b → b ≡ false
    by true is = let less = before-less l w c is short in absurd (omega (arith, less, most))
    by false is = refl

-- no number stands between those of a word and of the next
key-next : (l w n : ℕ) → key_of l w < n → key_of l (w + 1) ≤ n
unfolding key_of
key-next l w n above = omega (arith, above)

module _ {A : Type 0} (k : Keyed) (past : Past A) (i from at : ℕ) (fits : from < 2 ^ 64) (asked : IsPast k past) (own : AreOwnFrom k past i from at) where
  abbrev xs : List Change
  xs = past.turned.items

  abbrev line : ℕ
  line = name_now k.names i

  nothing : (t : ℕ) → from ≤ t / 64 → ((d : Change) → at < length xs → ((get_or xs at d).line ≢ line) ⊎ (t / 64 < (get_or xs at d).word)) → IsSame k i t
  nothing t on other =
      let nowhere = λ (mask : Change → ℕ). bits-before mask xs at line from t asked.turns.order asked.turns.short fits own.split on other in
      same-line k xs i t asked.turns line (omega (arith, nowhere (λ d. d.appeared), nowhere (λ d. d.gone))) refl (sym own.own)

  -- where none of the line stands there, no target turned
  pub none-own : ((d : Change) → at < length xs → (get_or xs at d).line ≢ line) → NoneTurned k i from
  none-own other t on = nothing t on (λ d within. inl (other d within))

  module _ (d : Change) (within : at < length xs) (of_line : (get_or xs at d).line ≡ line) where
    abbrev here : Change
    here = get_or xs at d

    next : IsNextTurned k i from here.word
    next = record {
      from_on = key-back line from here.word (subst (λ l. key_of line from ≤ key_of l here.word) of_line (split-most line from xs asked.turns.order asked.turns.short fits at own.split at d (omega arith) within));
      first = λ t on less. nothing t on (λ e there. inr (subst (λ (x : Change). t / 64 < x.word) (sym (get_or_default xs at e d there)) less));
    }

    -- a bit of it is that of its target among all changes
    told : (mask : Change → ℕ) (b : ℕ) → b < 64 → bit_at (mask here) b ≡ sum_by (λ c. hit_at c.line c.word (mask c) line (64 * here.word + b)) xs
    told mask b small =
        let t = 64 * here.word + b in
        let word : t / 64 ≡ here.word = omega (arith, small) in
        let bit : t % 64 ≡ b = omega (arith, small) in
        ap (bit_at (mask here)) (sym bit) ∙ sym (bits-here mask xs at d line t asked.turns.order within of_line (sym word))

    came : (b : ℕ) → b < 64 → bit_at here.appeared b ≡ min 1 (now_at k i (64 * here.word + b)) - min 1 (before_at k i (64 * here.word + b))
    came b small =
        told (λ c. c.appeared) b small ∙ asked.turns.appeared line (64 * here.word + b)
        ∙ ap (λ l. min 1 (recorded.count_now k.lines line (64 * here.word + b)) - min 1 (recorded.count_before k.lines l (64 * here.word + b))) (sym own.own)

    went : (b : ℕ) → b < 64 → bit_at here.gone b ≡ min 1 (before_at k i (64 * here.word + b)) - min 1 (now_at k i (64 * here.word + b))
    went b small =
        told (λ c. c.gone) b small ∙ asked.turns.gone line (64 * here.word + b)
        ∙ ap (λ l. min 1 (recorded.count_before k.lines l (64 * here.word + b)) - min 1 (recorded.count_now k.lines line (64 * here.word + b))) (sym own.own)

    -- those before the next place stand before the word behind it, and the others don't
    module _ (more : here.word + 1 < 2 ^ 64) where
      own_key : change_key here ≡ key_of line here.word
      own_key n = key_of (of_line n) here.word

      lower : key_of line here.word < key_of line (here.word + 1)
      lower = key-lower line here.word (here.word + 1) (omega arith)

      before : (j : ℕ) (e : Change) → 0 ≤ j → j < at + 1 → is_before line (here.word + 1) (get_or xs j e) ≡ true
      before j e on less =
          let there : j < length xs = omega (arith, less, within) in
          less-before line (here.word + 1) (get_or xs j e) more (elim (cases_eq j at) [
            | inl same ↦
                let at_e = ap change_key (get_or_default xs at e d within) in
                let at_j = ap (λ n. change_key (get_or xs n e)) same in
                omega (arith, own_key, lower, at_e, at_j)
            | inr other ↦
                let up = ascends-strictly 0 xs asked.turns.order j at d (omega (arith, less, other)) within in
                let at_e = ap change_key (get_or_default xs j e d there) in
                omega (arith, own_key, lower, up, at_e)
          ])

      behind : (j : ℕ) (e : Change) → at + 1 ≤ j → j < length xs → is_before line (here.word + 1) (get_or xs j e) ≡ false
      behind j e on less =
          let up = ascends-strictly 0 xs asked.turns.order at j d (omega (arith, on)) less in
          let at_e = ap change_key (get_or_default xs j e d less) in
          most-behind line (here.word + 1) (get_or xs j e) (short-at line from xs asked.turns.order asked.turns.short fits j e less) (key-next line here.word (change_key (get_or xs j e)) (omega (arith, own_key, up, at_e)))

      own-behind : AreOwnFrom k past i (here.word + 1) (at + 1)
      own-behind = record { own = own.own; split = (before, behind) }

    pub own-turn : at + 1 < 2 ^ 64 → IsOwnTurn k past i from at here
    own-turn room = record { room = room; next = next; appeared = came; gone = went; within = within; behind = own-behind }
