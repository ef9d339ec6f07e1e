-- How many targets came: word by word and place by place.
use Rattle.cil_symbol_changes.proofs.Common.{◌≡◌, ℕ, ◌+◌, ◌-◌, ◌*◌, ◌/◌, ◌%◌, ◌^◌, ◌<◌, ◌≤◌, ◌==◌, ◌&&◌, Bool, true, false, not, cond, min, nat_lt, count_ones, refl, sym, ap, subst, ◌∙◌, inl, inr, arith, true≢false, add-zero, zero-add, eqb-true, bit_at, cases_eq, cases_lt, eq-eqb, le-ltb, lt-ltb, ne_eqb, bit_at_above, bit_at-lt, Keyed, before_at, now_at, IsNextPresent, IsPresence, NonePresent, below, RisesBy, rises-added, rises-bits, rises-first, rises-map, rises-more, rises-next, rises-none, rises-same, AreCounted, came_at, has_risen, present_at, went_at}
use Rattle.std.specs.Int.{bit_not}
use Rattle.std.proofs.Common.{w64}
use Rattle.std.specs.Int.Bits.{bit_and, and_lt}
use Rattle.std.proofs.lemmas.Nat.Bits.{bit_at_and, bit_at_not}
use Rattle.cil_keyed_lines.specs.Past.{AreAlike, IsNextTurned, IsOwnTurn, NoneTurned}
use Rattle.cil_keyed_lines.specs.declared.keyed_lines.past.Past.{Past}
use Rattle.cil_recorded.specs.declared.recorded_lines.changes.Change.{Change}
use Rattle.cil_symbol_changes.specs.declared.counted_changes.ChangeCounts.{ChangeCounts}
use Rattle.cil_symbol_changes.proofs.CountLemmas.{both-hold}
use Rattle.cil_symbol_changes.proofs.Common.{None, Option, Some, none-some, same_Some}
use Rattle.std.specs.Option.{SomeIff}
use Rattle.std.proofs.Math.Nat.{mul-suc, mul-zero, zero-mul}
use Rattle.std.proofs.Common.{zero, suc}

-- ---- words

-- targets that pass a test
module _ (test : ℕ → Bool) where
  -- whether one does so in a word before one
  abbrev pub is_before : ℕ → ℕ → Bool
  is_before from t = nat_lt (t / 64) from && test t

  -- no word is before the first
  pub before-none : RisesBy (is_before 0) 0 0
  before-none = rises-none (is_before 0) 0 (λ t. ap (λ b. b && test t) (le-ltb (t / 64) 0 (omega arith)))

  pub words-all : (from before after : ℕ) → ((t : ℕ) → from ≤ t / 64 → test t ≡ false) → RisesBy (is_before from) before after → RisesBy test before after
  words-all from before after none = rises-same (is_before from) test before after same
    where
      same : (t : ℕ) → is_before from t ≡ test t
      same t =
          elim (cases_lt (t / 64) from) [
            | inl low ↦ ap (λ b. b && test t) (lt-ltb (t / 64) from low)
            | inr past ↦ ap (λ b. b && test t) (le-ltb (t / 64) from past) ∙ sym (none t past)
          ]

  -- the bits of a word tell which of its targets pass
  module _ (word : ℕ) (bit : ℕ → Bool) (low : (b : ℕ) → b < 64 → bit b ≡ test (64 * word + b)) (high : (b : ℕ) → 64 ≤ b → bit b ≡ false) where
    abbrev is_here : ℕ → Bool
    is_here t = (t / 64 == word) && test t

    there : (b : ℕ) → bit b ≡ true → is_here (64 * word + b) ≡ true
    there b is =
        elim (cases_lt b 64) [
          | inl less ↦ ap (λ a. a && test (64 * word + b)) (eq-eqb ((64 * word + b) / 64) word (omega (arith, less))) ∙ sym (low b less) ∙ is
          | inr more ↦ absurd (true≢false (sym is ∙ high b more))
        ]

    back : (t : ℕ) → is_here t ≡ true → (b : ℕ) × (bit b ≡ true) × (64 * word + b ≡ t)
    back t is =
        let (same, passes) = both-hold (t / 64 == word) (test t) is in
        let here = eqb-true (t / 64) word same in
        let target : 64 * word + t % 64 ≡ t = omega (arith, here) in
        (t % 64, low (t % 64) (omega arith) ∙ ap test target ∙ passes, target)

    -- the targets before the next word that has one, those of it, and those before the word behind it
    module _ (from behind : ℕ) (on : from ≤ word) (first : (t : ℕ) → from ≤ t / 64 → t / 64 < word → test t ≡ false) (one_more : behind ≡ word + 1) where
      joined : (t : ℕ) → cond (is_before from t) 1 0 + cond (is_here t) 1 0 ≡ cond (is_before behind t) 1 0
      joined t =
          elim (cases_lt (t / 64) from) [
            | inl before ↦
                tell true false true (lt-ltb (t / 64) from before) (ne_eqb (t / 64) word (λ e. omega (arith, on, before, e))) (lt-ltb (t / 64) behind (omega (arith, on, before, one_more)))
                (add-zero (cond (test t) 1 0))
            | inr past ↦ elim (cases_eq (t / 64) word) [
              | inl here ↦
                  tell false true true (le-ltb (t / 64) from past) (eq-eqb (t / 64) word here) (lt-ltb (t / 64) behind (omega (arith, here, one_more))) (zero-add (cond (test t) 1 0))
              | inr other ↦ elim (cases_lt (t / 64) word) [
                | inl between ↦
                    tell false false true (le-ltb (t / 64) from past) (ne_eqb (t / 64) word other) (lt-ltb (t / 64) behind (omega (arith, between, one_more)))
                    (sym (ap (λ b. cond b 1 0) (first t past between)))
                | inr above ↦ tell false false false (le-ltb (t / 64) from past) (ne_eqb (t / 64) word other) (le-ltb (t / 64) behind (omega (arith, above, other, one_more))) refl
              ]
            ]
          ]
        where
          tell : (low_is here within : Bool) → nat_lt (t / 64) from ≡ low_is → (t / 64 == word) ≡ here → nat_lt (t / 64) behind ≡ within
              → cond (low_is && test t) 1 0 + cond (here && test t) 1 0 ≡ cond (within && test t) 1 0 → cond (is_before from t) 1 0 + cond (is_here t) 1 0 ≡ cond (is_before behind t) 1 0
          tell low_is here within is_low is_same is_within same =
              ap (λ b. cond (b && test t) 1 0 + cond (is_here t) 1 0) is_low ∙ ap (λ b. cond (low_is && test t) 1 0 + cond (b && test t) 1 0) is_same ∙ same
              ∙ sym (ap (λ b. cond (b && test t) 1 0) is_within)

      pub word-more : (before between some after : ℕ) → after ≡ min (between + some) (2 ^ 128 - 1) → RisesBy bit 0 some → RisesBy (is_before from) before between → RisesBy (is_before behind) before after
      word-more before between some after sum own rises =
          rises-more (is_before from) is_here (is_before behind) joined before between some after rises
          (rises-map (λ b. 64 * word + b) (λ a b same. omega (arith, same)) bit is_here there back 0 some own) sum

-- ---- bits

-- a bit that is 1 where a counter was 0 and is above 0
bit-risen : (bit was is : ℕ) → bit ≡ min 1 is - min 1 was → (bit == 1) ≡ has_risen was is
bit-risen bit was is told =
    elim (cases_lt 0 is) [
      | inl some ↦ elim (cases_lt 0 was) [
        | inl had ↦ ne_eqb bit 1 (λ e. omega (arith, told, had, some, e)) ∙ sym (ap (λ b. b && not (nat_lt 0 was)) (lt-ltb 0 is some) ∙ ap not (lt-ltb 0 was had))
        | inr new ↦ eq-eqb bit 1 (omega (arith, told, some, new)) ∙ sym (ap (λ b. b && not (nat_lt 0 was)) (lt-ltb 0 is some) ∙ ap not (le-ltb 0 was new))
      ]
      | inr none ↦ ne_eqb bit 1 (λ e. omega (arith, told, none, e)) ∙ sym (ap (λ b. b && not (nat_lt 0 was)) (le-ltb 0 is none))
    ]

-- a counter that is above 0 as it was didn't rise from 0
pub same-risen : (was is : ℕ) → min 1 is ≡ min 1 was → has_risen was is ≡ false
same-risen was is same = sym (bit-risen 0 was is (omega (arith, same)))

-- what tells whether counters are above 0 tells whether they rose from 0
min-risen : (a b was is : ℕ) → a ≡ min 1 was → b ≡ min 1 is → has_risen a b ≡ has_risen was is
min-risen a b was is before now = sym (bit-risen (min 1 b - min 1 a) a b refl) ∙ bit-risen (min 1 b - min 1 a) was is (omega (arith, before, now))

-- the bits of one mask that another doesn't have
abbrev pub only_in : (is was : ℕ) → ℕ
only_in is was = bit_and is (bit_not w64 was)

pub bits-risen : (was is : ℕ) → was < 2 ^ 64 → is < 2 ^ 64 → RisesBy (λ b. has_risen (bit_at was b) (bit_at is b)) 0 (count_ones (only_in is was))
bits-risen was is was_fits is_fits =
    rises-same (λ b. bit_at (only_in is was) b == 1) (λ b. has_risen (bit_at was b) (bit_at is b)) 0 (count_ones (only_in is was)) same
    (rises-bits 64 (only_in is was) (and_lt 64 is (bit_not w64 was) is_fits (omega arith)))
  where
    same : (b : ℕ) → (bit_at (only_in is was) b == 1) ≡ has_risen (bit_at was b) (bit_at is b)
    same b =
        bit-risen (bit_at (only_in is was) b) (bit_at was b) (bit_at is b) (elim (cases_lt b 64) [
          | inl low ↦ omega (arith, bit_at_and is (bit_not w64 was) b, bit_at_not w64 was b was_fits low, bit_at-lt is b, bit_at-lt was b)
          | inr high ↦ omega (arith, bit_at_and is (bit_not w64 was) b, bit_at_above is 64 b is_fits high)
        ])

-- the next of a word is a word, where the sum is told
pub word-fits : (told : Option ℕ) (word behind : ℕ) → told ≡ Some behind → SomeIff told (word + 1 < 2 ^ 64) (word + 1) → (behind ≡ word + 1) × (word + 1 < 2 ^ 64)
word-fits None word behind is sum = absurd (none-some behind is)
word-fits (Some n) word behind is sum = (sym (same_Some n behind is) ∙ sum.1, sum.0)

-- ---- the words of a place

module _ (lines : Keyed) (place : ℕ) where
  -- those that stand
  pub present-more : (word mask from behind : ℕ) → mask < 2 ^ 64 → IsPresence (now_at lines place) word mask → IsNextPresent (now_at lines place) from word → behind ≡ word + 1
      → (before between after : ℕ) → after ≡ min (between + count_ones mask) (2 ^ 128 - 1) → RisesBy (is_before (present_at lines place) from) before between
      → RisesBy (is_before (present_at lines place) behind) before after
  present-more word mask from behind fits present next one_more before between after sum =
      word-more (present_at lines place) word (λ b. bit_at mask b == 1) (λ b low. bit-risen (bit_at mask b) 0 (now_at lines place (64 * word + b)) (omega (arith, present b low)))
      (λ b high. ap (λ n. n == 1) (bit_at_above mask 64 b fits high)) from behind next.from_on
      (λ t past low. same-risen 0 (now_at lines place t) (ap (min 1) (next.first t past low))) one_more before between (count_ones mask) after sum (rises-bits 64 mask fits)

  pub present-all : (from before after : ℕ) → NonePresent (now_at lines place) from → RisesBy (is_before (present_at lines place) from) before after → RisesBy (present_at lines place) before after
  present-all from before after none = words-all (present_at lines place) from before after (λ t past. same-risen 0 (now_at lines place t) (ap (min 1) (none t past)))

  -- those that came or went: of a word, and of the words before one
  abbrev pub AreOfWord : ℕ → ℕ → ChangeCounts → Type 0
  AreOfWord was is = AreCounted (λ b. has_risen (bit_at was b) (bit_at is b)) (λ b. has_risen (bit_at is b) (bit_at was b))

  abbrev pub AreBefore : ℕ → ChangeCounts → Type 0
  AreBefore from = AreCounted (is_before (came_at lines place) from) (is_before (went_at lines place) from)

  module _ (word was is from behind : ℕ) (was_fits : was < 2 ^ 64) (is_fits : is < 2 ^ 64) (had : IsPresence (before_at lines place) word was) (has : IsPresence (now_at lines place) word is)
      (next : IsNextTurned lines place from word) (one_more : behind ≡ word + 1) where
    above : (b : ℕ) → 64 ≤ b → (bit_at was b ≡ 0) × (bit_at is b ≡ 0)
    above b high = (bit_at_above was 64 b was_fits high, bit_at_above is 64 b is_fits high)

    pub turned-more : (old more new : ChangeCounts) → new.added ≡ min (old.added + more.added) (2 ^ 128 - 1) → new.removed ≡ min (old.removed + more.removed) (2 ^ 128 - 1)
        → AreOfWord was is more → AreBefore from old → AreBefore behind new
    turned-more old more new added removed of_word are = record {
      added = word-more (came_at lines place) word (λ b. has_risen (bit_at was b) (bit_at is b))
          (λ b low. min-risen (bit_at was b) (bit_at is b) (before_at lines place (64 * word + b)) (now_at lines place (64 * word + b)) (had b low) (has b low))
          (λ b high. same-risen (bit_at was b) (bit_at is b) (omega (arith, above b high))) from behind next.from_on
          (λ t past low. same-risen (before_at lines place t) (now_at lines place t) (next.first t past low)) one_more 0 old.added more.added new.added added of_word.added are.added;
      removed = word-more (went_at lines place) word (λ b. has_risen (bit_at is b) (bit_at was b))
          (λ b low. min-risen (bit_at is b) (bit_at was b) (now_at lines place (64 * word + b)) (before_at lines place (64 * word + b)) (has b low) (had b low))
          (λ b high. same-risen (bit_at is b) (bit_at was b) (omega (arith, above b high))) from behind next.from_on
          (λ t past low. same-risen (now_at lines place t) (before_at lines place t) (sym (next.first t past low))) one_more 0 old.removed more.removed new.removed removed of_word.removed are.removed;
    }

  -- of a word by a change of it
  abbrev pub AreOfChange : Change → ChangeCounts → Type 0
  AreOfChange c = AreCounted (λ b. bit_at c.appeared b == 1) (λ b. bit_at c.gone b == 1)

  pub own-more : {A : Type 0} (past : Past A) (from at behind : ℕ) (c : Change) → c.appeared < 2 ^ 64 → c.gone < 2 ^ 64 → IsOwnTurn lines past place from at c → behind ≡ c.word + 1
      → (old more new : ChangeCounts) → new.added ≡ min (old.added + more.added) (2 ^ 128 - 1) → new.removed ≡ min (old.removed + more.removed) (2 ^ 128 - 1)
      → AreOfChange c more → AreBefore from old → AreBefore behind new
  own-more past from at behind c came_fits gone_fits turn one_more old more new added removed of_change are = record {
    added = word-more (came_at lines place) c.word (λ b. bit_at c.appeared b == 1)
        (λ b low. bit-risen (bit_at c.appeared b) (before_at lines place (64 * c.word + b)) (now_at lines place (64 * c.word + b)) (turn.appeared b low))
        (λ b high. ap (λ n. n == 1) (bit_at_above c.appeared 64 b came_fits high)) from behind turn.next.from_on
        (λ t past low. same-risen (before_at lines place t) (now_at lines place t) (turn.next.first t past low)) one_more 0 old.added more.added new.added added of_change.added are.added;
    removed = word-more (went_at lines place) c.word (λ b. bit_at c.gone b == 1)
        (λ b low. bit-risen (bit_at c.gone b) (now_at lines place (64 * c.word + b)) (before_at lines place (64 * c.word + b)) (turn.gone b low))
        (λ b high. ap (λ n. n == 1) (bit_at_above c.gone 64 b gone_fits high)) from behind turn.next.from_on
        (λ t past low. same-risen (now_at lines place t) (before_at lines place t) (sym (turn.next.first t past low))) one_more 0 old.removed more.removed new.removed removed of_change.removed are.removed;
  }

  pub turned-all : (from : ℕ) (counts : ChangeCounts) → NoneTurned lines place from → AreBefore from counts → AreCounted (came_at lines place) (went_at lines place) counts
  turned-all from counts none are = record {
    added = words-all (came_at lines place) from 0 counts.added (λ t past. same-risen (before_at lines place t) (now_at lines place t) (none t past)) are.added;
    removed = words-all (went_at lines place) from 0 counts.removed (λ t past. same-risen (now_at lines place t) (before_at lines place t) (sym (none t past))) are.removed;
  }

  pub turned-none : (counts : ChangeCounts) → counts.added ≡ 0 → counts.removed ≡ 0 → AreBefore 0 counts
  turned-none counts added removed = record {
    added = subst (RisesBy (is_before (came_at lines place) 0) 0) (sym added) (before-none (came_at lines place));
    removed = subst (RisesBy (is_before (went_at lines place) 0) 0) (sym removed) (before-none (went_at lines place));
  }

  -- where no target turned
  pub none-came : NoneTurned lines place 0 → (t : ℕ) → came_at lines place t ≡ false
  none-came none t = same-risen (before_at lines place t) (now_at lines place t) (none t (omega arith))

  pub none-went : NoneTurned lines place 0 → (t : ℕ) → went_at lines place t ≡ false
  none-went none t = same-risen (now_at lines place t) (before_at lines place t) (sym (none t (omega arith)))

  -- where the place counts the same as another
  pub alike-counts : (other : ℕ) (counts : ChangeCounts) → AreAlike lines place other → AreCounted (came_at lines other) (went_at lines other) counts → AreCounted (came_at lines place) (went_at lines place) counts
  alike-counts other counts alike are = record {
    added = rises-same (came_at lines other) (came_at lines place) 0 counts.added (λ t. sym (λ i. has_risen ((alike t).1 i) ((alike t).0 i))) are.added;
    removed = rises-same (went_at lines other) (went_at lines place) 0 counts.removed (λ t. sym (λ i. has_risen ((alike t).0 i) ((alike t).1 i))) are.removed;
  }

-- ---- places

-- a count that rises by what each place has
pub place-more : {X : Type 0} (test : ℕ → X → Bool) (place before between some after : ℕ) → after ≡ min (between + some) (2 ^ 128 - 1) → RisesBy (test place) 0 some → RisesBy (below test place) before between
    → RisesBy (below test (place + 1)) before after
place-more test place before between some after sum own rises =
    rises-next test place before between after rises (rises-added (test place) between some after own (omega (arith, sum)) (omega (arith, sum)))

-- a count that rises by what each place of a run has, which is the same of all
module _ {X : Type 0} (test : ℕ → X → Bool) (place before between some : ℕ) (rises : RisesBy (below test place) before between) where
  abbrev pub AreSo : ℕ → Type 0
  AreSo n = (p : ℕ) → place ≤ p → p < place + n → RisesBy (test p) 0 some

  run-up : (n : ℕ) → AreSo n → RisesBy (below test (place + n)) before (between + some * n)
  run-up zero own =
      let none = mul-zero some in
      let end : place ≡ place + 0 = omega arith in
      let same : between ≡ between + some * 0 = omega (arith, none) in
      subst (λ e. RisesBy (below test e) before (between + some * 0)) end (subst (RisesBy (below test place) before) same rises)
  run-up (suc n) own =
      let step = mul-suc some n in
      let long = between + some * n in
      let longer = between + some * suc n in
      let end : place + n + 1 ≡ place + suc n = omega arith in
      subst (λ e. RisesBy (below test e) before longer) end
      (rises-next test (place + n) before long longer (run-up n (λ p from low. own p from (omega (arith, low))))
      (rises-added (test (place + n)) long some longer (own (place + n) (omega arith) (omega arith)) (omega (arith, step)) (omega (arith, step))))

  pub run-more : (n after : ℕ) → after ≤ between + some * n → min (between + some * n) (2 ^ 128 - 1) ≤ after → AreSo n → RisesBy (below test (place + n)) before after
  run-more n after most least own =
      let all = run-up n own in
      record {
        those = all.those;
        exact = all.exact;
        once = all.once;
        at_most = omega (arith, most, all.at_most);
        at_least = omega (arith, least, all.at_least);
      }

module _ (came went : ℕ → ℕ → Bool) where
  pub no-places : (counts : ChangeCounts) → counts.added ≡ 0 → counts.removed ≡ 0 → AreCounted (below came 0) (below went 0) counts
  no-places counts added removed = record {
    added = subst (RisesBy (below came 0) 0) (sym added) (rises-first came 0);
    removed = subst (RisesBy (below went 0) 0) (sym removed) (rises-first went 0);
  }

  -- places that have the same numbers
  pub places-run : (place n : ℕ) (old more all new : ChangeCounts) → all.added ≡ min (more.added * n) (2 ^ 128 - 1) → all.removed ≡ min (more.removed * n) (2 ^ 128 - 1)
      → new.added ≡ min (old.added + all.added) (2 ^ 128 - 1) → new.removed ≡ min (old.removed + all.removed) (2 ^ 128 - 1)
      → ((p : ℕ) → place ≤ p → p < place + n → AreCounted (came p) (went p) more) → AreCounted (below came place) (below went place) old
      → AreCounted (below came (place + n)) (below went (place + n)) new
  places-run place n old more all new added removed sum_added sum_removed own are = record {
    added = run-more came place 0 old.added more.added are.added n new.added (omega (arith, added, sum_added)) (omega (arith, added, sum_added)) (λ p from low. (own p from low).added);
    removed = run-more went place 0 old.removed more.removed are.removed n new.removed (omega (arith, removed, sum_removed)) (omega (arith, removed, sum_removed)) (λ p from low. (own p from low).removed);
  }

  -- places that count nothing
  pub places-none : (place n : ℕ) (counts : ChangeCounts) → ((p x : ℕ) → place ≤ p → p < place + n → came p x ≡ false) → ((p x : ℕ) → place ≤ p → p < place + n → went p x ≡ false)
      → AreCounted (below came place) (below went place) counts → AreCounted (below came (place + n)) (below went (place + n)) counts
  places-none place n counts none_came none_went are =
      let nothing = zero-mul n in
      record {
        added = run-more came place 0 counts.added 0 are.added n counts.added (omega (arith, nothing)) (omega (arith, nothing)) (λ p from low. rises-none (came p) 0 (λ x. none_came p x from low));
        removed = run-more went place 0 counts.removed 0 are.removed n counts.removed (omega (arith, nothing)) (omega (arith, nothing)) (λ p from low. rises-none (went p) 0 (λ x. none_went p x from low));
      }
