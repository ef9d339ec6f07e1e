-- What moves word by word where the targets of a source change.
use Rattle.cil_rule_shifts.proofs.Common.{◌≡◌, ◌⊎◌, ℕ, ◌+◌, ◌*◌, ◌/◌, ◌%◌, ◌^◌, ◌<◌, ◌≤◌, ◌==◌, ◌&&◌, ◌||◌, ◌++◌, ◌-◌, Bool, true, false, not, nat_lt, List, [], ◌∷◌, length, min, w64, bit_and, bit_not, count_ones, refl, sym, ap, ◌∙◌, subst, inl, inr, arith, true≢false, bit_at, cases_eq, cases_lt, eq-eqb, le-ltb, ne_eqb, eqb-true, bit_at_above, bit_at_and, bit_at_not, hit, hit-here, hit-there, differs, one_if, takes, AreMovesBelow, AreMovesOf, AreShort, Moved, NoneFromWord, Targets, move_at, ones_of, RisesBy, rises-added, rises-bits, rises-both, rises-map, rises-none, rises-same, same-from_counts}
use Rattle.std.proofs.lemmas.Bool.{and_parts}
use Rattle.std.proofs.lemmas.List.{get_or_append_left, get_or_push, length-append}
use Rattle.std.proofs.lemmas.List.Sums.{sum_by_push}
use Rattle.cil_rule_shifts.proofs.ReachLemmas.{no-first, no-second, one-true}
use Rattle.cil_rule_shifts.proofs.ShiftLemmas.{same-either-way, source-all, source-more, wider}

-- a bit that both masks have, and one that the first has alone
pub bit-both : (x y : ℕ) (f g : Bool) → x ≡ one_if f → y ≡ one_if g → min x y ≡ one_if (f && g)
bit-both x y true true one other = omega (arith, one, other)
bit-both x y true false one other = omega (arith, one, other)
bit-both x y false true one other = omega (arith, one, other)
bit-both x y false false one other = omega (arith, one, other)

pub bit-without : (x y : ℕ) (f g : Bool) → x ≡ one_if f → y ≡ one_if g → min x (1 - y) ≡ one_if (f && not g)
bit-without x y true true one other = omega (arith, one, other)
bit-without x y true false one other = omega (arith, one, other)
bit-without x y false true one other = omega (arith, one, other)
bit-without x y false false one other = omega (arith, one, other)

-- the bits of a mask of a word that another hasn't
pub hit-without : (word a b t : ℕ) (f g : Bool) → b < 2 ^ 64 → hit word a t ≡ one_if ((t / 64 == word) && f) → hit word b t ≡ one_if ((t / 64 == word) && g)
    → hit word (bit_and a (bit_not w64 b)) t ≡ one_if ((t / 64 == word) && (f && not g))
hit-without word a b t f g fits first second =
    elim (cases_eq (t / 64) word) [
      | inl same ↦
          hit-here word (bit_and a (bit_not w64 b)) t same ∙ bit_at_and a (bit_not w64 b) (t % 64)
          ∙ ap (min (bit_at a (t % 64))) (bit_at_not w64 b (t % 64) fits (let low : t % 64 < 64 = omega arith in low))
          ∙ bit-without (bit_at a (t % 64)) (bit_at b (t % 64)) f g (sym (hit-here word a t same) ∙ first ∙ in-word f same) (sym (hit-here word b t same) ∙ second ∙ in-word g same)
          ∙ sym (in-word (f && not g) same)
      | inr other ↦ hit-there word (bit_and a (bit_not w64 b)) t other ∙ sym (ap (λ c. one_if (c && (f && not g))) (ne_eqb (t / 64) word other))
    ]
  where
    in-word : (h : Bool) → t / 64 ≡ word → one_if ((t / 64 == word) && h) ≡ one_if h
    in-word h same = ap (λ c. one_if (c && h)) (eq-eqb (t / 64) word same)

-- the targets of a word at which a test holds are as many as the bits of their mask
module _ (word mask : ℕ) (f : ℕ → Bool) (fits : mask < 2 ^ 64) (hits : (t : ℕ) → hit word mask t ≡ one_if ((t / 64 == word) && f t)) where
  abbrev in_word : ℕ → Bool
  in_word t = (t / 64 == word) && f t

  abbrev place : ℕ → ℕ
  place b = 64 * word + b

  there : (b : ℕ) → (bit_at mask b == 1) ≡ true → in_word (place b) ≡ true
  there b is =
      let one = eqb-true (bit_at mask b) 1 is in
      elim (cases_lt b 64) [
        | inl low ↦
            let same : (64 * word + b) / 64 ≡ word = omega (arith, low) in
            let bit : (64 * word + b) % 64 ≡ b = omega (arith, low) in
            one-true (in_word (place b)) (sym (hits (place b)) ∙ hit-here word mask (place b) same ∙ ap (bit_at mask) bit ∙ one)
        | inr high ↦ let none = bit_at_above mask 64 b fits high in absurd (omega (arith, one, none))
      ]

  back : (t : ℕ) → in_word t ≡ true → (b : ℕ) × ((bit_at mask b == 1) ≡ true) × (place b ≡ t)
  back t is =
      let same = eqb-true (t / 64) word (and_parts (t / 64 == word) (f t) is).0 in
      (t % 64, eq-eqb (bit_at mask (t % 64)) 1 (sym (hit-here word mask t same) ∙ hits t ∙ ap one_if is), omega (arith, same))

  pub word-count : RisesBy in_word 0 (count_ones mask)
  word-count = rises-map place (λ a b same. omega (arith, same)) (λ b. bit_at mask b == 1) in_word there back 0 (count_ones mask) (rises-bits 64 mask fits)

module _ (was is : ℕ → Bool) where
  abbrev goes : ℕ → Bool
  goes t = was t && not (is t)

  abbrev comes : ℕ → Bool
  comes t = is t && not (was t)

  abbrev turns : ℕ → Bool
  turns t = differs (was t) (is t)

  pub moves-new : AreMovesBelow was is 0 []
  moves-new = record {
    words = record { short = λ i within. absurd (omega (arith, within)); rising = λ i j less within. absurd (omega (arith, within)) };
    below = λ i within. absurd (omega (arith, within));
    gone = λ t. sym (ap (λ b. one_if (b && goes t)) (le-ltb (t / 64) 0 (omega arith)));
    come = λ t. sym (ap (λ b. one_if (b && comes t)) (le-ltb (t / 64) 0 (omega arith)));
    ones = rises-none (λ t. nat_lt (t / 64) 0 && turns t) 0 (λ t. ap (λ b. b && turns t) (le-ltb (t / 64) 0 (omega arith)));
  }

  same-none : (a b : Bool) → a ≡ b → (a && not b) ≡ false
  same-none true true same = refl
  same-none true false same = same
  same-none false b same = refl

  same-still : (a b : Bool) → a ≡ b → differs a b ≡ false
  same-still true true same = refl
  same-still true false same = absurd (true≢false same)
  same-still false b same = sym same

  -- words behind in which nothing moves
  pub moves-skip : (from to : ℕ) (moved : List Moved) → AreMovesBelow was is from moved → from ≤ to → ((t : ℕ) → from ≤ t / 64 → t / 64 < to → was t ≡ is t) → AreMovesBelow was is to moved
  moves-skip from to moved before far still = record {
    words = before.words;
    below = λ i within. let less = before.below i within in omega (arith, less, far);
    gone = λ t. before.gone t ∙ ap one_if (wider from to (t / 64) (goes t) far (λ low high. same-none (was t) (is t) (still t low high)));
    come = λ t. before.come t ∙ ap one_if (wider from to (t / 64) (comes t) far (λ low high. same-none (is t) (was t) (sym (still t low high))));
    ones = rises-same (λ t. nat_lt (t / 64) from && turns t) (λ t. nat_lt (t / 64) to && turns t) 0 (ones_of moved)
        (λ t. wider from to (t / 64) (turns t) far (λ low high. same-still (was t) (is t) (still t low high))) before.ones;
  }

  -- what neither takes doesn't move
  pub neither-moves : (t : ℕ) → (was t || is t) ≡ false → was t ≡ is t
  neither-moves t none = no-first (was t) (is t) none ∙ sym (no-second (was t) (is t) none)

  module _ (word : ℕ) (moved : List Moved) (before : AreMovesBelow was is word moved) where
    nothing : (t : ℕ) → word ≤ t / 64 → t / 64 < word → was t ≡ is t
    nothing t low high = absurd (omega (arith, low, high))

    module _ (gone come : ℕ) (low : word < 2 ^ 58) (gone_fits : gone < 2 ^ 64) (come_fits : come < 2 ^ 64) (gone_hits : (t : ℕ) → hit word gone t ≡ one_if ((t / 64 == word) && goes t))
        (come_hits : (t : ℕ) → hit word come t ≡ one_if ((t / 64 == word) && comes t)) where
      abbrev m : Moved
      m = record { word = word; gone = gone; come = come }

      abbrev pushed : List Moved
      pushed = moved ++ m ∷ []

      -- one word more
      pub moves-more : AreMovesBelow was is (word + 1) pushed
      moves-more = record {
        words = record { short = λ i within. short i (at i within); rising = λ i j less within. rising i j less (at i (omega (arith, less, within))) (at j within) };
        below = λ i within. (let less = front i (at i within) in omega (arith, less));
        gone = λ t. sum_by_push (λ (x : Moved). hit x.word x.gone t) moved m ∙ (λ k. before.gone t k + gone_hits t k)
            ∙ step (goes t) t (λ low high. same-none (was t) (is t) (nothing t low high));
        come = λ t. sum_by_push (λ (x : Moved). hit x.word x.come t) moved m ∙ (λ k. before.come t k + come_hits t k)
            ∙ step (comes t) t (λ low high. same-none (is t) (was t) (sym (nothing t low high)));
        ones = rises-both (λ t. nat_lt (t / 64) word && turns t) (λ t. (t / 64 == word) && turns t) (λ t. nat_lt (t / 64) (word + 1) && turns t)
            (λ t. step (turns t) t (λ low high. same-still (was t) (is t) (nothing t low high))) 0 (ones_of moved) (ones_of pushed) before.ones
            (rises-added (λ t. (t / 64 == word) && turns t) (ones_of moved) (count_ones gone + count_ones come) (ones_of pushed) here (omega (arith, sum)) (omega (arith, sum)));
      }
        where
          at : (i : ℕ) → i < length pushed → ((i < length moved) × (move_at pushed i ≡ move_at moved i)) ⊎ ((i ≡ length moved) × (move_at pushed i ≡ m))
          at i within = elim (cases_lt i (length moved)) [
            | inl first ↦ inl (first, get_or_append_left moved (m ∷ []) (record { word = 0; gone = 0; come = 0 }) i first)
            | inr behind ↦
                let last : i ≡ length moved = (let long = length-append moved (m ∷ []) in omega (arith, behind, within, long)) in
                inr (last, get_or_push moved m (record { word = 0; gone = 0; come = 0 }) i (sym last))
          ]

          short : (i : ℕ) → ((i < length moved) × (move_at pushed i ≡ move_at moved i)) ⊎ ((i ≡ length moved) × (move_at pushed i ≡ m)) → (move_at pushed i).word < 2 ^ 58
          short i (inl (first, is)) = subst (λ x. x.word < 2 ^ 58) (sym is) (before.words.short i first)
          short i (inr (last, is)) = subst (λ x. x.word < 2 ^ 58) (sym is) low

          front : (i : ℕ) → ((i < length moved) × (move_at pushed i ≡ move_at moved i)) ⊎ ((i ≡ length moved) × (move_at pushed i ≡ m)) → (move_at pushed i).word ≤ word
          front i (inl (first, is)) = let less = before.below i first in subst (λ x. x.word ≤ word) (sym is) (omega (arith, less))
          front i (inr (last, is)) = subst (λ x. x.word ≤ word) (sym is) (omega arith)

          rising : (i j : ℕ) → i < j → ((i < length moved) × (move_at pushed i ≡ move_at moved i)) ⊎ ((i ≡ length moved) × (move_at pushed i ≡ m))
              → ((j < length moved) × (move_at pushed j ≡ move_at moved j)) ⊎ ((j ≡ length moved) × (move_at pushed j ≡ m)) → (move_at pushed i).word < (move_at pushed j).word
          rising i j less (inl (first, is)) (inl (second, also)) = let step = before.words.rising i j less second in omega (arith, step, ap (λ x. x.word) is, ap (λ x. x.word) also)
          rising i j less (inl (first, is)) (inr (last, also)) = let step = before.below i first in omega (arith, step, ap (λ x. x.word) is, ap (λ x. x.word) also)
          rising i j less (inr (first, is)) (inl (second, also)) = absurd (omega (arith, first, second, less))
          rising i j less (inr (first, is)) (inr (last, also)) = absurd (omega (arith, first, last, less))

          step : (g : Bool) (t : ℕ) → (word ≤ t / 64 → t / 64 < word → g ≡ false) → one_if (nat_lt (t / 64) word && g) + one_if ((t / 64 == word) && g) ≡ one_if (nat_lt (t / 64) (word + 1) && g)
          step g t none =
              ap (λ b. one_if (nat_lt (t / 64) word && g) + one_if (b && g)) (same-either-way (t / 64) word) ∙ source-more word word (t / 64) g (omega arith) none

          sum : ones_of pushed ≡ ones_of moved + (count_ones gone + count_ones come)
          sum = sum_by_push (λ (x : Moved). count_ones x.gone + count_ones x.come) moved m

          either : (w a b : Bool) → one_if (w && (a && not b)) + one_if (w && (b && not a)) ≡ one_if (w && differs a b)
          either false a b = refl
          either true true true = refl
          either true true false = refl
          either true false true = refl
          either true false false = refl

          here : RisesBy (λ t. (t / 64 == word) && turns t) 0 (count_ones gone + count_ones come)
          here = rises-both (λ t. (t / 64 == word) && goes t) (λ t. (t / 64 == word) && comes t) (λ t. (t / 64 == word) && turns t) (λ t. either (t / 64 == word) (was t) (is t)) 0 (count_ones gone)
              (count_ones gone + count_ones come) (word-count word gone goes gone_fits gone_hits)
              (rises-added (λ t. (t / 64 == word) && comes t) (count_ones gone) (count_ones come) (count_ones gone + count_ones come) (word-count word come comes come_fits come_hits) (omega arith) (omega arith))

  -- one word more, and those behind it that have no target
  pub moves-next : (word to : ℕ) (moved : List Moved) → AreMovesBelow was is (word + 1) moved → word < to → ((t : ℕ) → word < t / 64 → t / 64 < to → (was t || is t) ≡ false) → AreMovesBelow was is to moved
  moves-next word to moved before far none = moves-skip (word + 1) to moved before (omega (arith, far)) (λ t past high. neither-moves t (none t (omega (arith, past)) high))

  -- no word follows
  pub moves-done : (from : ℕ) (moved : List Moved) → AreMovesBelow was is from moved → NoneFromWord (λ t. was t || is t) from → AreMovesOf was is moved
  moves-done from moved before none = record {
    words = before.words;
    gone = λ t. before.gone t ∙ source-all from (t / 64) (goes t) (λ past. same-none (was t) (is t) (still t past));
    come = λ t. before.come t ∙ source-all from (t / 64) (comes t) (λ past. same-none (is t) (was t) (sym (still t past)));
    ones = rises-same (λ t. nat_lt (t / 64) from && turns t) turns 0 (ones_of moved)
        (λ t. same-from_counts (nat_lt (t / 64) from && turns t) (turns t) (source-all from (t / 64) (turns t) (λ past. same-still (was t) (is t) (still t past)))) before.ones;
  }
    where
      still : (t : ℕ) → from ≤ t / 64 → was t ≡ is t
      still t past = neither-moves t (none t past)

-- where nothing moves, the targets are the same
pub same-moved : (was is : ℕ → Bool) (moved : List Moved) → AreMovesOf was is moved → length moved ≡ 0 → (t : ℕ) → was t ≡ is t
same-moved was is [] moves none t = by (was t) (is t) (moves.gone t) (moves.come t)
  where
    by : (a b : Bool) → 0 ≡ one_if (a && not b) → 0 ≡ one_if (b && not a) → a ≡ b
    by true true gone come = refl
    by true false gone come = absurd (omega (arith, gone))
    by false true gone come = absurd (omega (arith, come))
    by false false gone come = refl
same-moved was is (m ∷ moved) moves none t = absurd (omega (arith, none))

-- the words behind the last have no targets where these are numbers of the code
pub short-words : {A : Type 0} (was is : Targets A) (source : ℕ) → AreShort was → AreShort is → source < 2 ^ 64 → (t : ℕ) → 2 ^ 58 ≤ t / 64 → (takes was source t || takes is source t) ≡ false
short-words was is source was_short is_short fits t past =
    let high : 2 ^ 64 ≤ t = omega (arith, past) in
    ap (λ b. b || takes is source t) (was_short source t fits high) ∙ is_short source t fits high

-- masks of a word that are the same have the same targets
pub same-word : (word a b t : ℕ) (f g : Bool) → a ≡ b → hit word a t ≡ one_if ((t / 64 == word) && f) → hit word b t ≡ one_if ((t / 64 == word) && g) → t / 64 ≡ word → f ≡ g
same-word word a b t f g masks first second same =
    same-from_counts f g (sym (here f) ∙ sym first ∙ ap (λ mask. hit word mask t) masks ∙ second ∙ here g)
  where
    here : (h : Bool) → one_if ((t / 64 == word) && h) ≡ one_if h
    here h = ap (λ b. one_if (b && h)) (eq-eqb (t / 64) word same)
