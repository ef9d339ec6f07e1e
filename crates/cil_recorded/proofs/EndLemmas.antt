-- Steps that have ended, and the lines that stay.
use Rattle.cil_recorded.proofs.Common.{◌≡◌, ◌≢◌, ◌⊎◌, ℕ, zero, suc, ◌+◌, ◌*◌, ◌/◌, ◌%◌, ◌<◌, ◌^◌, arith, bit_and, w64, ◌==◌, List, [], ◌∷◌, ◌++◌, Bool, true, false, ◌||◌, cond, get_or, set, refl, sym, ap, ◌∙◌, true≢false, eq-eqb, eqb-true, inl, inr, cases_eq, ne_eqb, bit_at, bit_not, bit_at_and, bit_at_not, bit_at-lt, IsPresence, IsSingle, append-nil, Step, falls, has_line, hit_at}
use Rattle.std.proofs.lemmas.Nat.{and_le_l}
use Rattle.std.proofs.lemmas.List.Folds.{list_any-append}
use Rattle.cil_lines.proofs.LineLemmas.{some_bit}
use Rattle.cil_recorded.proofs.LogLemmas.{hit_on}
use Rattle.std.proofs.lemmas.List.Elements.{filter-append}

or_none : (a b : Bool) → (a || (b || false)) ≡ false → (a ≡ false) × (b ≡ false)
or_none false false is = (refl, refl)
or_none true b is = absurd (true≢false is)
or_none false true is = absurd (true≢false is)

-- a line without a step of a longer list has none of a shorter one, and isn't that of the step
none_pushed : (ss : List Step) (s : Step) (l : ℕ) → has_line (ss ++ s ∷ []) l ≡ false → (has_line ss l ≡ false) × (l ≢ s.line)
none_pushed ss s l none =
    let (old, here) = or_none (has_line ss l) _ (sym (list_any-append (λ (x : Step). x.line == l) ss (s ∷ [])) ∙ none) in
    (old, λ e. true≢false (sym (eq-eqb s.line l (sym e)) ∙ here))

-- a step that left a word some counters is not one of those
falls_kept : (ss : List Step) (s : Step) → s.clears ≡ false → falls (ss ++ s ∷ []) ≡ falls ss
falls_kept ss s none = filter-append (λ (x : Step). x.clears) ss (s ∷ []) ∙ ap (λ b. falls ss ++ (cond b (s ∷ []) [])) none ∙ append-nil (falls ss)

falls_more : (ss : List Step) (s : Step) → s.clears ≡ true → falls (ss ++ s ∷ []) ≡ falls ss ++ s ∷ []
falls_more ss s some = filter-append (λ (x : Step). x.clears) ss (s ∷ []) ∙ ap (λ b. falls ss ++ (cond b (s ∷ []) [])) some

pub falls_up : (ss : List Step) (s : Step) → s.clears ≡ false → falls (ss ++ s ∷ []) ≡ falls ss
falls_up = falls_kept

-- where a target is present that a step down doesn't let go, the line has a counter still
left_counted : (line word mask single present : ℕ) (old new : ℕ → ℕ → ℕ) → mask < 2 ^ 64 → present < 2 ^ 64 → IsPresence (old line) word present → IsSingle (old line) word single
    → ((l t : ℕ) → new l t + hit_at line word mask l t ≡ old l t) → bit_and present (bit_not w64 (bit_and mask single)) ≢ 0 → (t : ℕ) × (0 < new line t)
left_counted line word mask single present old new short fits here alone lowered some =
    let left = bit_and present (bit_not w64 (bit_and mask single)) in
    let (b, low, set) = some_bit 64 left (omega (arith, fits, and_le_l present (bit_not w64 (bit_and mask single)))) some in
    let t = 64 * word + b in
    let word_is : t / 64 ≡ word = omega (arith, low) in
    let bit_is : t % 64 ≡ b = omega (arith, low) in
    let hit : hit_at line word mask line t ≡ bit_at mask b = hit_on line word mask line t refl word_is ∙ ap (bit_at mask) bit_is in
    let went = bit_and mask single in (
      t,
      omega (
        arith,
        lowered line t,
        hit,
        set,
        here b low,
        alone b low,
        bit_at_and present (bit_not w64 went) b,
        bit_at_not w64 went b (omega (arith, short, and_le_l mask single)) low,
        bit_at_and mask single b,
        bit_at-lt mask b,
        bit_at-lt present b,
      ),
    )

-- a line without such a step after one down had none before, and counters if it is the line of the step
pub others_down : (ss : List Step) (line word mask single present : ℕ) (old new : ℕ → ℕ → ℕ) → mask < 2 ^ 64 → present < 2 ^ 64 → IsPresence (old line) word present → IsSingle (old line) word single
    → ((l t : ℕ) → new l t + hit_at line word mask l t ≡ old l t) → (s : Step) → s.line ≡ line → s.clears ≡ (bit_and present (bit_not w64 (bit_and mask single)) == 0) → (l : ℕ) → has_line (falls (ss ++ s ∷ [])) l ≡ false
    → (has_line (falls ss) l ≡ false) × (l ≡ line → (mask ≡ 0) ⊎ ((t : ℕ) × (0 < new line t)))
others_down ss line word mask single present old new short fits here alone lowered s at clears l none =
    elim (cases_eq (bit_and present (bit_not w64 (bit_and mask single))) 0) [
      | inl nothing ↦
          let more = falls_more ss s (clears ∙ eq-eqb (bit_and present (bit_not w64 (bit_and mask single))) 0 nothing) in
          let (before, apart) = none_pushed (falls ss) s l (ap (λ fs. has_line fs l) (sym more) ∙ none) in
          (before, λ e. absurd (apart (e ∙ sym at)))
      | inr some ↦ (
        ap (λ fs. has_line fs l) (sym (falls_kept ss s (clears ∙ ne_eqb (bit_and present (bit_not w64 (bit_and mask single))) 0 some))) ∙ none,
        λ e. inr (left_counted line word mask single present old new short fits here alone lowered some),
      )
    ]

or_both : (a b : Bool) → (a || b) ≡ false → (a ≡ false) × (b ≡ false)
or_both false b is = (refl, is)
or_both true b is = absurd (true≢false is)

-- what a list of steps says of lines when one of them is given another line
pub line_set : (ss : List Step) (i : ℕ) (s d : Step) (l : ℕ) → l ≢ s.line → has_line (set ss i s) l ≡ false → (has_line ss l ≡ false) ⊎ (l ≡ (get_or ss i d).line)
line_set [] i s d l apart none = inl refl
line_set (x ∷ ss) zero s d l apart none = by (x.line == l) refl
  where
    by : (b : Bool) → (x.line == l) ≡ b → (has_line (x ∷ ss) l ≡ false) ⊎ (l ≡ x.line)
    by true is = inr (sym (eqb-true x.line l is))
    by false is = inl (ap (λ b. b || has_line ss l) is ∙ (or_both (s.line == l) (has_line ss l) none).1)
line_set (x ∷ ss) (suc i) s d l apart none =
    let (here, rest) = or_both (x.line == l) (has_line (set ss i s) l) none in
    elim (line_set ss i s d l apart rest) [
      | inl old ↦ inl (ap (λ b. b || has_line ss l) here ∙ old)
      | inr met ↦ inr met
    ]
