-- Changes that are put behind one another.
use Rattle.cil_keyed_lines.proofs.Common.{◌≡◌, ◌≢◌, ℕ, suc, ◌+◌, ◌-◌, ◌*◌, ◌/◌, ◌%◌, ◌^◌, ◌<◌, ◌≤◌, List, [], ◌∷◌, ◌++◌, bit_and, refl, sym, ap, ◌∙◌, subst, inl, inr, arith, sum_by, w64, None, Option, Some, cases_eq, cases_lt, All, hit_at, hit_nothing, hit_off}
use Rattle.std.proofs.lemmas.List.Elements.{All-push}
use Rattle.std.proofs.lemmas.List.Sums.{sum_by_push}
use Rattle.std.proofs.lemmas.Nat.{and-not, and_comm}
use Rattle.std.proofs.lemmas.Nat.Bits.{bit_at-lt, bit_at_and, bit_at_not}
use Rattle.std.specs.Int.{bit_at, bit_not}
use Rattle.std.specs.Int.Bits.{and_self}
use Rattle.std.proofs.lemmas.Option.{none-some, same_Some}
use Rattle.std.specs.Option.{SomeIff}
use Rattle.std.specs.Prelude.{min}
use Rattle.cil_recorded.proofs.LogLemmas.{hit_on, hit_out}
use Rattle.cil_recorded.proofs.TurnLemmas.{ascends-push, next}
use Rattle.cil_recorded.specs.Differences.{change_key, key_of}
use Rattle.cil_recorded.specs.declared.recorded_lines.changes.Change.{Change}
use Rattle.cil_keyed_lines.proofs.PastLemmas.{key-most}
use Rattle.cil_keyed_lines.specs.Changes.{came_at, went_at, AreAdded, AreAddedBelow, AreAddedTo, AreBelow}
use Rattle.cil_keyed_lines.specs.Keyed.{Keyed}
use Rattle.cil_keyed_lines.specs.Past.{IsSame}

-- ---- the order

key-next : (a x : ℕ) → key_of a x + 1 ≤ key_of a (x + 1)
unfolding key_of
key-next a x = omega arith

key-last : (a x : ℕ) → x ≤ 2 ^ 64 → key_of a x ≤ key_of (a + 1) 0
unfolding key_of
key-last a x most = omega (arith, most)

-- what follows changes that stand before a number may have that number
next-most : (k : ℕ) (xs : List Change) (m : ℕ) → k ≤ m → All (λ c. change_key c + 1 ≤ m) xs → next change_key k xs ≤ m
next-most k [] m le all = le
next-most k (x ∷ xs) m le all = next-most (change_key x + 1) xs m (all 0 x (omega arith)) (λ i d within. all (suc i) d (omega (arith, within)))

-- changes stand before what is behind it, too
below-more : (xs : List Change) (place word place' word' : ℕ) → key_of place word ≤ key_of place' word' → AreBelow xs place word → AreBelow xs place' word'
below-more xs place word place' word' le below = record {
  order = below.order;
  below = λ i d within. let here = below.below i d within in omega (arith, here, le);
}

pub below-word : (xs : List Change) (place word word' : ℕ) → word ≤ word' → AreBelow xs place word → AreBelow xs place word'
below-word xs place word word' le below = below-more xs place word place word' (key-most place word word' le) below

pub below-place : (xs : List Change) (place word : ℕ) → word ≤ 2 ^ 64 → AreBelow xs place word → AreBelow xs (place + 1) 0
below-place xs place word most below = below-more xs place word (place + 1) 0 (key-last place word most) below

pub below-push : (xs new : List Change) (c : Change) → new ≡ xs ++ c ∷ [] → AreBelow xs c.line c.word → AreBelow new c.line (c.word + 1)
below-push xs new c is below = subst (λ ys. AreBelow ys c.line (c.word + 1)) (sym is) (record {
  order = ascends-push change_key 0 xs c below.order (next-most 0 xs (change_key c) (omega arith) below.below);
  below =
      All-push (λ d. change_key d + 1 ≤ key_of c.line (c.word + 1)) xs c
      (λ i d within. let here = below.below i d within in let more = key-next c.line c.word in omega (arith, here, more)) (key-next c.line c.word);
})

-- ---- the targets of a word

pub mask-push : (mask : Change → ℕ) (xs new : List Change) (c : Change) (l t : ℕ) → new ≡ xs ++ c ∷ []
    → sum_by (λ d. hit_at d.line d.word (mask d) l t) new ≡ sum_by (λ d. hit_at d.line d.word (mask d) l t) xs + hit_at c.line c.word (mask c) l t
mask-push mask xs new c l t is =
    ap (sum_by (λ d. hit_at d.line d.word (mask d) l t)) is ∙ sum_by_push (λ d. hit_at d.line d.word (mask d) l t) xs c

-- none go where all stay
none-gone : (was is : ℕ) → was ≡ is → is < 2 ^ 64 → bit_and was (bit_not w64 is) ≡ 0
none-gone was is same fits = ap (λ n. bit_and n (bit_not w64 is)) same ∙ and_comm is (bit_not w64 is) ∙ omega (arith, and-not 64 is is fits fits, and_self is)

pub hit-same : (line word was is l t : ℕ) → was ≡ is → is < 2 ^ 64 → hit_at line word (bit_and was (bit_not w64 is)) l t ≡ 0
hit-same line word was is l t same fits = ap (λ m. hit_at line word m l t) (none-gone was is same fits) ∙ hit_nothing line word l t

-- the targets of one mask that another lacks, where both tell which counters are above 0
pub bit-lacks : (have lack b f g : ℕ) → b < 64 → lack < 2 ^ 64 → bit_at have b ≡ min 1 f → bit_at lack b ≡ min 1 g → bit_at (bit_and have (bit_not w64 lack)) b ≡ min 1 f - min 1 g
bit-lacks have lack b f g small fits has lacks =
    omega (arith, bit_at_and have (bit_not w64 lack) b, bit_at_not w64 lack b fits small, has, lacks, bit_at-lt have b, bit_at-lt lack b)

-- the word behind one, where its number was told
pub word-behind : (told : Option ℕ) (word behind : ℕ) → told ≡ Some behind → SomeIff told (word + 1 < 2 ^ 64) (word + 1) → (behind ≡ word + 1) × (behind ≤ 2 ^ 64)
word-behind None word behind is sum = absurd (none-some behind is)
word-behind (Some n) word behind is sum =
    let same = same_Some n behind is in
    let value = sum.1 in
    let less = sum.0 in
    (omega (arith, same, value), omega (arith, same, value, less))

-- ---- words of a place

module _ (amount : ℕ → ℕ) (place : ℕ) (old : ℕ → ℕ → ℕ) where
  pub added-none : AreAddedBelow amount place 0 old old
  added-none = record { below = λ t less. absurd (omega (arith, less)); from_on = λ t on. refl; others = λ i t other. refl }

  -- where no target of it turned
  pub added-same : ((t : ℕ) → amount t ≡ 0) → AreAdded amount place old old
  added-same none = record { here = λ t. let nothing = none t in omega (arith, nothing); others = λ i t other. refl }

  module _ (mid new : ℕ → ℕ → ℕ) (from word mask : ℕ) (added : AreAddedBelow amount place from old mid) (pushed : (l t : ℕ) → new l t ≡ mid l t + hit_at place word mask l t)
      (on : from ≤ word) (quiet : (t : ℕ) → from ≤ t / 64 → t / 64 < word → amount t ≡ 0) (bits : (b : ℕ) → b < 64 → bit_at mask b ≡ amount (64 * word + b)) where
    pub added-word : AreAddedBelow amount place (word + 1) old new
    added-word = record { below = below; from_on = from_on; others = others }
      where
        elsewhere : (t : ℕ) → t / 64 ≢ word → new place t ≡ mid place t
        elsewhere t other = let none = hit_out place word mask place t other in let is = pushed place t in omega (arith, none, is)

        below : (t : ℕ) → t / 64 < word + 1 → new place t ≡ old place t + amount t
        below t less = elim (cases_eq (t / 64) word) [
          | inl here ↦
              let small : t % 64 < 64 = omega arith in
              let at : 64 * word + t % 64 ≡ t = omega (arith, here) in
              let bit = hit_on place word mask place t refl here ∙ bits (t % 64) small ∙ ap amount at in
              let before = added.from_on t (omega (arith, here, on)) in
              let is = pushed place t in
              omega (arith, bit, before, is)
          | inr other ↦ elim (cases_lt (t / 64) from) [
            | inl early ↦ elsewhere t other ∙ added.below t early
            | inr late ↦
                let nothing = quiet t late (omega (arith, less, other)) in
                let before = added.from_on t late in
                let is = elsewhere t other in
                omega (arith, nothing, before, is)
          ]
        ]

        from_on : (t : ℕ) → word + 1 ≤ t / 64 → new place t ≡ old place t
        from_on t behind = elsewhere t (λ e. omega (arith, behind, e)) ∙ added.from_on t (omega (arith, behind, on))

        others : (i t : ℕ) → i ≢ place → new i t ≡ old i t
        others i t other = let none = hit_off place word mask i t other in let is = pushed i t in let before = added.others i t other in omega (arith, none, is, before)

  -- none turned from a word on
  pub added-all : (new : ℕ → ℕ → ℕ) (from : ℕ) → AreAddedBelow amount place from old new → ((t : ℕ) → from ≤ t / 64 → amount t ≡ 0) → AreAdded amount place old new
  added-all new from added quiet = record { here = here; others = added.others }
    where
      here : (t : ℕ) → new place t ≡ old place t + amount t
      here t = elim (cases_lt (t / 64) from) [
        | inl early ↦ added.below t early
        | inr late ↦ let nothing = quiet t late in let is = added.from_on t late in omega (arith, nothing, is)
      ]

-- what stands as it was, neither came nor went
pub same-came : (k : Keyed) (i t : ℕ) → IsSame k i t → came_at k i t ≡ 0
same-came k i t same = omega (arith, same)

pub same-went : (k : Keyed) (i t : ℕ) → IsSame k i t → went_at k i t ≡ 0
same-went k i t same = omega (arith, same)

-- ---- places

pub added-first : (amount all : ℕ → ℕ → ℕ) → ((l t : ℕ) → all l t ≡ 0) → AreAddedTo amount 0 all
added-first amount all none = record { before = λ i t less. absurd (omega (arith, less)); from_on = λ i t on. none i t }

pub added-next : (amount old new : ℕ → ℕ → ℕ) (place : ℕ) → AreAddedTo amount place old → AreAdded (amount place) place old new → AreAddedTo amount (place + 1) new
added-next amount old new place to added = record { before = before; from_on = from_on }
  where
    before : (i t : ℕ) → i < place + 1 → new i t ≡ amount i t
    before i t less = elim (cases_eq i place) [
      | inl here ↦
          let at = ap (λ n. new n t) here in
          let own = ap (λ n. amount n t) here in
          let is = added.here t in
          let none = to.from_on place t (omega arith) in
          omega (arith, at, own, is, none)
      | inr other ↦ added.others i t other ∙ to.before i t (omega (arith, less, other))
    ]

    from_on : (i t : ℕ) → place + 1 ≤ i → new i t ≡ 0
    from_on i t on = added.others i t (λ e. omega (arith, on, e)) ∙ to.from_on i t (omega (arith, on))

pub added-every : (amount all : ℕ → ℕ → ℕ) (end : ℕ) → AreAddedTo amount end all → ((i t : ℕ) → end ≤ i → amount i t ≡ 0) → (i t : ℕ) → all i t ≡ amount i t
added-every amount all end to none i t = elim (cases_lt i end) [
  | inl less ↦ to.before i t less
  | inr past ↦ to.from_on i t past ∙ sym (none i t past)
]
