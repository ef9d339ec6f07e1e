-- Changes of lines, and the lines that places named before.
use Rattle.cil_keyed_lines.proofs.Common.{◌≡◌, ◌≢◌, ◌⊎◌, ℕ, zero, suc, ◌+◌, ◌/◌, ◌%◌, ◌^◌, ◌<◌, ◌≤◌, Bool, true, false, List, [], ◌∷◌, length, get_or, nat_lt, refl, sym, ap, ◌∙◌, inl, inr, arith, cases_eq, cases_lt, sum_by, subst, All, hit_at, hit_off}
use Rattle.std.proofs.lemmas.Bool.{le-ltb, lt-ltb, ltb-false, ltb-true}
use Rattle.cil_keyed_lines.proofs.Common.{ne_eqb, true≢false, ◌==◌, ◌&&◌, ◌||◌, eq-eqb}
use Rattle.std.proofs.lemmas.List.Elements.{AllWithin-from_all}
use Rattle.std.proofs.lemmas.List.Sums.{sum_by-cons}
use Rattle.std.specs.List.Sorted.{IsNonDecreasingBy, IsPartitionedBy}
use Rattle.std.proofs.lemmas.List.{get_or_default}
use Rattle.std.specs.Int.{bit_at}
use Rattle.cil_recorded.proofs.LogLemmas.{hit_on, hit_out}
use Rattle.cil_recorded.specs.Differences.{change_key, key_of, Ascends}
use Rattle.cil_recorded.specs.declared.recorded_lines.changes.Change.{Change}
use Rattle.cil_keyed_lines.specs.Past.{is_before, turns_at, AreMarked, AreTurns, IsBelow, IsFrom, IsNextTurn, IsNextTurned, IsSame, IsSplit, NoTurn, NoneTurned}
use Rattle.std.specs.Prelude.{not}
use Rattle.cil_keyed_lines.specs.Keyed.{Keyed}
use Rattle.cil_keyed_lines.proofs.Common.{name_before, name_now}
use Rattle.cil_keyed_lines.proofs.Common.{MatchOption, None, Option, Some, bit_and, w64, ◌-◌}
use Rattle.cil_lines.specs.Line.{IsNextPresent, NonePresent}
use Rattle.std.specs.Int.{bit_not}
use Rattle.std.specs.Int.Bits.{bit_or}
use Rattle.std.proofs.lemmas.Nat.Bits.{bit_at-lt, bit_at_and, bit_at_not, bit_at_or}
use Rattle.cil_recorded.specs.Recorded as recorded
use Rattle.cil_recorded.specs.Recorded.{State}
use Rattle.std.specs.Prelude.{min}

-- ---- sums of which one adds

module _ {X : Type 0} (f : X → ℕ) where
  pub none-adds : (xs : List X) → ((i : ℕ) (d : X) → i < length xs → f (get_or xs i d) ≡ 0) → sum_by f xs ≡ 0
  none-adds [] none = refl
  none-adds (x ∷ xs) none =
      omega (arith, sum_by-cons f x xs, none 0 x (omega arith), none-adds xs (λ i d within. none (suc i) d (omega (arith, within))))

  pub one-adds : (xs : List X) (i : ℕ) (d : X) → i < length xs → ((j : ℕ) (e : X) → j < length xs → j ≢ i → f (get_or xs j e) ≡ 0) → sum_by f xs ≡ f (get_or xs i d)
  one-adds [] i d within others = absurd (omega (arith, within))
  one-adds (x ∷ xs) zero d within others =
      omega (arith, sum_by-cons f x xs, none-adds xs (λ i e less. others (suc i) e (omega (arith, less)) (omega arith)))
  one-adds (x ∷ xs) (suc i) d within others =
      omega (
        arith,
        sum_by-cons f x xs,
        others 0 x (omega arith) (omega arith),
        one-adds xs i d (omega (arith, within)) (λ j e less other. others (suc j) e (omega (arith, less)) (omega (arith, other))),
      )

-- ---- the numbers of words of lines

pub key-less : (a b x y : ℕ) → x < 2 ^ 64 → a < b → key_of a x < key_of b y
unfolding key_of
key-less a b x y short less = omega (arith, short, less)

pub key-lower : (a x y : ℕ) → x < y → key_of a x < key_of a y
unfolding key_of
key-lower a x y less = omega (arith, less)

pub key-most : (a x y : ℕ) → x ≤ y → key_of a x ≤ key_of a y
unfolding key_of
key-most a x y most = omega (arith, most)

pub key-back : (a x y : ℕ) → key_of a x ≤ key_of a y → x ≤ y
unfolding key_of
key-back a x y most = omega (arith, most)

-- ---- changes in their order

-- a change is at least at the number from which on they rise
ascends-from : (k : ℕ) (xs : List Change) → Ascends change_key k xs → (i : ℕ) (d : Change) → i < length xs → k + i ≤ change_key (get_or xs i d)
ascends-from k [] up i d within = absurd (omega (arith, within))
ascends-from k (x ∷ xs) up zero d within = omega (arith, up.0)
ascends-from k (x ∷ xs) up (suc i) d within =
    let rest = ascends-from (change_key x + 1) xs up.1 i d (omega (arith, within)) in
    omega (arith, up.0, rest)

-- they rise
pub ascends-strictly : (k : ℕ) (xs : List Change) → Ascends change_key k xs → (i j : ℕ) (d : Change) → i < j → j < length xs → change_key (get_or xs i d) < change_key (get_or xs j d)
ascends-strictly k [] up i j d less within = absurd (omega (arith, within))
ascends-strictly k (x ∷ xs) up zero zero d less within = absurd (omega (arith, less))
ascends-strictly k (x ∷ xs) up zero (suc j) d less within =
    let rest = ascends-from (change_key x + 1) xs up.1 j d (omega (arith, within)) in
    omega (arith, rest)
ascends-strictly k (x ∷ xs) up (suc i) zero d less within = absurd (omega (arith, less))
ascends-strictly k (x ∷ xs) up (suc i) (suc j) d less within = ascends-strictly (change_key x + 1) xs up.1 i j d (omega (arith, less)) (omega (arith, within))

pub ascends-rising : (k : ℕ) (xs : List Change) → Ascends change_key k xs → IsNonDecreasingBy change_key xs
ascends-rising k xs up i j d le within = elim (cases_eq i j) [
  | inl same ↦ let at = ap (λ n. change_key (get_or xs n d)) same in omega (arith, at)
  | inr other ↦ let less = ascends-strictly k xs up i j d (omega (arith, le, other)) within in omega (arith, less)
]

-- ---- changes before a word of a line

-- a change is before it if its number is less
pub before-less : (l w : ℕ) (c : Change) → is_before l w c ≡ true → c.word < 2 ^ 64 → change_key c < key_of l w
before-less l w c is short = elim (cases_lt c.line l) [
  | inl lower ↦ key-less c.line l c.word w short lower
  | inr most ↦
      let rest = sym (ap (λ b. b || ((c.line == l) && nat_lt c.word w)) (le-ltb c.line l most)) ∙ is in
      elim (cases_eq c.line l) [
        | inl same ↦
            let less = ltb-true c.word w (sym (ap (λ b. b && nat_lt c.word w) (eq-eqb c.line l same)) ∙ rest) in
            let at = ap (λ n. key_of n c.word) same in
            let keys = key-lower l c.word w less in
            omega (arith, at, keys)
        | inr other ↦ absurd (true≢false (sym rest ∙ ap (λ b. b && nat_lt c.word w) (ne_eqb c.line l other)))
      ]
]

pub before-most : (l w : ℕ) (c : Change) → is_before l w c ≡ false → w < 2 ^ 64 → key_of l w ≤ change_key c
before-most l w c not short = elim (cases_lt c.line l) [
  | inl lower ↦ absurd (true≢false (sym (ap (λ b. b || ((c.line == l) && nat_lt c.word w)) (lt-ltb c.line l lower)) ∙ not))
  | inr most ↦ elim (cases_eq c.line l) [
    | inl same ↦
        let rest = sym (ap (λ b. b || ((c.line == l) && nat_lt c.word w)) (le-ltb c.line l most)) ∙ not in
        let from = ltb-false c.word w (sym (ap (λ b. b && nat_lt c.word w) (eq-eqb c.line l same)) ∙ rest) in
        let at = ap (λ n. key_of n c.word) same in
        let keys = key-most l w c.word from in
        omega (arith, at, keys)
    | inr other ↦ let keys = key-less l c.line w c.word short (omega (arith, most, other)) in omega (arith, keys)
  ]
]

-- those before it stand before the others
module _ (l w : ℕ) (xs : List Change) (up : Ascends change_key 0 xs) (short : All (λ c. c.word < 2 ^ 64) xs) (fits : w < 2 ^ 64) where
  pub short-at : (k : ℕ) (d : Change) → k < length xs → (get_or xs k d).word < 2 ^ 64
  short-at k d within = AllWithin-from_all (λ c. c.word < 2 ^ 64) xs short k d (omega arith) within

  pub before-first : IsPartitionedBy (is_before l w) xs
  before-first i j d le within is = by (is_before l w (get_or xs i d)) refl
    where
      by : (b : Bool) → is_before l w (get_or xs i d) ≡ b → b ≡ true
      by true same = refl
      by false same =
          let less = before-less l w (get_or xs j d) is (short-at j d within) in
          let most = before-most l w (get_or xs i d) same fits in
          let rising = ascends-rising 0 xs up i j d le within in
          absurd (omega (arith, less, most, rising))

  module _ (i : ℕ) (split : IsSplit xs l w i) where
    pub split-less : (j : ℕ) (d : Change) → j < i → j < length xs → change_key (get_or xs j d) < key_of l w
    split-less j d before less = before-less l w (get_or xs j d) (split.0 j d (omega arith) before) (short-at j d less)

    pub split-most : (j : ℕ) (d : Change) → i ≤ j → j < length xs → key_of l w ≤ change_key (get_or xs j d)
    split-most j d from less = before-most l w (get_or xs j d) (split.1 j d from less) fits

-- ---- the targets of a word

module _ (mask : Change → ℕ) where
  abbrev bits_at : List Change → ℕ → ℕ → ℕ
  bits_at cs l t = sum_by (λ c. hit_at c.line c.word (mask c) l t) cs

  -- another change has no target of it
  other-change : (c : Change) (l t : ℕ) → (c.line ≢ l) ⊎ (c.word ≢ t / 64) → hit_at c.line c.word (mask c) l t ≡ 0
  other-change c l t (inl other) = hit_off c.line c.word (mask c) l t (λ e. other (sym e))
  other-change c l t (inr other) = hit_out c.line c.word (mask c) l t (λ e. other (sym e))

  -- a change of another number is another
  key-apart : (c : Change) (l w : ℕ) → change_key c ≢ key_of l w → (c.line ≢ l) ⊎ (c.word ≢ w)
  key-apart c l w apart = elim (cases_eq c.line l) [
    | inl same ↦ inr (λ e. apart (λ i. key_of (same i) (e i)))
    | inr other ↦ inl other
  ]

  -- the change of a word has all of its targets
  pub bits-here : (xs : List Change) (i : ℕ) (d : Change) (l t : ℕ) → Ascends change_key 0 xs → i < length xs → (get_or xs i d).line ≡ l → (get_or xs i d).word ≡ t / 64
      → bits_at xs l t ≡ bit_at (mask (get_or xs i d)) (t % 64)
  bits-here xs i d l t up within line word =
      let c = get_or xs i d in
      one-adds (λ c. hit_at c.line c.word (mask c) l t) xs i d within
      (λ j e less other. other-change (get_or xs j e) l t (key-apart (get_or xs j e) l (t / 64) (λ same. apart j e less other same)))
      ∙ hit_on c.line c.word (mask c) l t (sym line) (sym word)
    where
      here : change_key (get_or xs i d) ≡ key_of l (t / 64)
      here n = key_of (line n) (word n)

      apart : (j : ℕ) (e : Change) → j < length xs → j ≢ i → change_key (get_or xs j e) ≢ key_of l (t / 64)
      apart j e less other same =
          let own = get_or_default xs i d e within in
          let at = ap change_key own in
          elim (cases_lt j i) [
            | inl before ↦ let up = ascends-strictly 0 xs up j i e before within in omega (arith, up, same, here, at)
            | inr from ↦ let up = ascends-strictly 0 xs up i j e (omega (arith, from, other)) less in omega (arith, up, same, here, at)
          ]

  -- where no change is of the word it has no target
  pub bits-nowhere : (xs : List Change) (i : ℕ) (l w t : ℕ) → Ascends change_key 0 xs → All (λ c. c.word < 2 ^ 64) xs → w < 2 ^ 64 → IsSplit xs l w i → w ≡ t / 64 → ((d : Change) → i < length xs → ((get_or xs i d).line ≢ l) ⊎ ((get_or xs i d).word ≢ w)) → bits_at xs l t ≡ 0
  bits-nowhere xs i l w t up short fits split word other =
      none-adds (λ c. hit_at c.line c.word (mask c) l t) xs (λ j d less. other-change (get_or xs j d) l t (apart j d less))
    where
      moved : (c : Change) → (c.line ≢ l) ⊎ (c.word ≢ w) → (c.line ≢ l) ⊎ (c.word ≢ t / 64)
      moved c (inl line) = inl line
      moved c (inr there) = inr (λ e. there (e ∙ sym word))

      apart : (j : ℕ) (d : Change) → j < length xs → ((get_or xs j d).line ≢ l) ⊎ ((get_or xs j d).word ≢ t / 64)
      apart j d less = elim (cases_lt j i) [
        | inl before ↦
            let below = split-less l w xs up short fits i split j d before less in
            moved (get_or xs j d) (key-apart (get_or xs j d) l w (λ e. omega (arith, e, below)))
        | inr from ↦ elim (cases_eq j i) [
          | inl same ↦ moved (get_or xs j d) (subst (λ n. ((get_or xs n d).line ≢ l) ⊎ ((get_or xs n d).word ≢ w)) (sym same) (other d (omega (arith, same, less))))
          | inr behind ↦
              let at_least = split-most l w xs up short fits i split i d (omega arith) (omega (arith, from, less)) in
              let above = ascends-strictly 0 xs up i j d (omega (arith, from, behind)) less in
              moved (get_or xs j d) (key-apart (get_or xs j d) l w (λ e. omega (arith, e, at_least, above)))
        ]
      ]

  -- and none in the words from one on before the next change of the line
  pub bits-before : (xs : List Change) (i : ℕ) (l from t : ℕ) → Ascends change_key 0 xs → All (λ c. c.word < 2 ^ 64) xs → from < 2 ^ 64 → IsSplit xs l from i → from ≤ t / 64
      → ((d : Change) → i < length xs → ((get_or xs i d).line ≢ l) ⊎ (t / 64 < (get_or xs i d).word)) → bits_at xs l t ≡ 0
  bits-before xs i l from t up short fits split on next =
      none-adds (λ c. hit_at c.line c.word (mask c) l t) xs (λ j d less. other-change (get_or xs j d) l t (apart j d less))
    where
      short-here : (k : ℕ) (d : Change) → k < length xs → (get_or xs k d).word < 2 ^ 64
      short-here = short-at l from xs up short fits

      apart : (j : ℕ) (d : Change) → j < length xs → ((get_or xs j d).line ≢ l) ⊎ ((get_or xs j d).word ≢ t / 64)
      apart j d less = elim (cases_eq (get_or xs j d).line l) [
        | inr other ↦ inl other
        | inl line ↦ inr (λ word. elim (cases_lt j i) [
          | inl before ↦
              let below = split-less l from xs up short fits i split j d before less in
              let keys = key-most l from (get_or xs j d).word (omega (arith, on, word)) in
              let at = ap (λ n. key_of n (get_or xs j d).word) line in
              omega (arith, below, keys, at)
          | inr behind ↦
              let within : i < length xs = omega (arith, behind, less) in
              let first = get_or xs i d in
              let this = get_or xs j d in
              let at_least = split-most l from xs up short fits i split i d (omega arith) within in
              let rising = ascends-rising 0 xs up i j d behind less in
              let at = ap (λ n. key_of n this.word) line in
              elim (next d within) [
                | inr later ↦ elim (cases_lt first.line l) [
                  | inl lower ↦ let below = key-less first.line l first.word from (short-here i d within) lower in omega (arith, below, at_least)
                  | inr higher ↦ elim (cases_eq first.line l) [
                    | inl own ↦
                        let keys = key-lower l this.word first.word (omega (arith, later, word)) in
                        let mine = ap (λ n. key_of n first.word) own in
                        omega (arith, keys, mine, rising, at)
                    | inr other ↦
                        let above = key-less l first.line this.word first.word (short-here j d less) (omega (arith, higher, other)) in
                        omega (arith, above, rising, at)
                  ]
                ]
                | inl other ↦ elim (cases_lt first.line l) [
                  | inl lower ↦ let below = key-less first.line l first.word from (short-here i d within) lower in omega (arith, below, at_least)
                  | inr higher ↦
                      let above = key-less l first.line this.word first.word (short-here j d less) (omega (arith, higher, other)) in
                      omega (arith, above, rising, at)
                ]
              ]
        ])
      ]

-- ---- lines without a mark

-- a line that has none has not turned
pub unmarked-turns : (marks : List Bool) (changes : List Change) (l t : ℕ) → AreMarked marks changes → get_or marks l false ≡ false → turns_at changes l t ≡ 0
unmarked-turns marks changes l t marked is =
    let other = λ (i : ℕ) (d : Change) (within : i < length changes). AllWithin-from_all (λ c. c.line ≢ l) changes (marked l is) i d (omega arith) within in
    let nowhere = λ (mask : Change → ℕ). none-adds (λ c. hit_at c.line c.word (mask c) l t) changes (λ i d within. other-change mask (get_or changes i d) l t (inl (other i d within))) in
    omega (arith, nowhere (λ c. c.appeared), nowhere (λ c. c.gone))

-- what did not turn is above 0 as it was
pub turned-same : (changes : List Change) (s : State) (l t : ℕ) → AreTurns changes s → turns_at changes l t ≡ 0 → min 1 (recorded.count_now s l t) ≡ min 1 (recorded.count_before s l t)
turned-same changes s l t turns none = omega (arith, turns.appeared l t, turns.gone l t, none)

-- the targets that had counters are those that have, without those that came and with those that went
pub bits-before-steps : (now appeared gone b is was : ℕ) → b < 64 → appeared < 2 ^ 64 → bit_at now b ≡ min 1 is → bit_at appeared b ≡ min 1 is - min 1 was → bit_at gone b ≡ min 1 was - min 1 is
    → bit_at (bit_or (bit_and now (bit_not w64 appeared)) gone) b ≡ min 1 was
bits-before-steps now appeared gone b is was small fits has came went =
    omega (arith, bit_at_or (bit_and now (bit_not w64 appeared)) gone b, bit_at_and now (bit_not w64 appeared) b, bit_at_not w64 appeared b fits small, has, came, went, bit_at-lt now b, bit_at-lt appeared b)

-- ---- words that were found

-- no target below the next turn has turned
pub below-turn : (changes : List Change) (l from t : ℕ) (found : Option ℕ) → MatchOption found (NoTurn changes l from) (IsNextTurn changes l from) → from ≤ t / 64 → IsBelow found (t / 64) → turns_at changes l t ≡ 0
below-turn changes l from t None none on below = none t on
below-turn changes l from t (Some w) next on below = next.first t on below

pub turn-from : (changes : List Change) (l from : ℕ) (found : Option ℕ) → MatchOption found (NoTurn changes l from) (IsNextTurn changes l from) → IsFrom from found
turn-from changes l from None none = tt
turn-from changes l from (Some w) next = next.from_on

-- no counter below the next that is above 0 is
pub below-present : (counts : ℕ → ℕ) (from t : ℕ) (found : Option ℕ) → MatchOption found (NonePresent counts from) (IsNextPresent counts from) → from ≤ t / 64 → IsBelow found (t / 64) → counts t ≡ 0
below-present counts from t None none on below = none t on
below-present counts from t (Some w) next on below = next.first t on below

pub present-from : (counts : ℕ → ℕ) (from : ℕ) (found : Option ℕ) → MatchOption found (NonePresent counts from) (IsNextPresent counts from) → IsFrom from found
present-from counts from None none = tt
present-from counts from (Some w) next = next.from_on

pub next-turned : (k : Keyed) (i from : ℕ) (found : Option ℕ) → IsFrom from found → ((t : ℕ) → from ≤ t / 64 → IsBelow found (t / 64) → IsSame k i t)
    → MatchOption found (NoneTurned k i from) (IsNextTurned k i from)
next-turned k i from None on same = λ t more. same t more tt
next-turned k i from (Some w) on same = record { from_on = on; first = same }

-- ---- places

pub not-holds : (b : Bool) → not b ≡ true → b ≡ false
not-holds true is = absurd (true≢false (sym is))
not-holds false is = refl

module _ (k : Keyed) (changes : List Change) (i t : ℕ) (turns : AreTurns changes k.lines) where
  -- the line that a place names and named has not turned
  pub same-line : (l : ℕ) → turns_at changes l t ≡ 0 → l ≡ name_now k.names i → l ≡ name_before k.names i → IsSame k i t
  same-line l none is was =
      ap (λ n. min 1 (recorded.count_now k.lines n t)) (sym is) ∙ turned-same changes k.lines l t turns none ∙ ap (λ n. min 1 (recorded.count_before k.lines n t)) was

  -- nothing stands in the line that it names, and nothing stood in that which it named
  pub other-line : (l n : ℕ) → turns_at changes l t ≡ 0 → recorded.count_now k.lines l t ≡ 0 → recorded.count_now k.lines n t ≡ 0 → l ≡ name_before k.names i → n ≡ name_now k.names i → IsSame k i t
  other-line l n none had has was is =
      ap (λ m. min 1 (recorded.count_now k.lines m t)) (sym is) ∙ ap (min 1) (has ∙ sym had) ∙ turned-same changes k.lines l t turns none ∙ ap (λ m. min 1 (recorded.count_before k.lines m t)) was
