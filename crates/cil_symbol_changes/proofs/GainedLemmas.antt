-- Accesses appended to others: none, one after the other, and those to the targets of a word.
use Rattle.cil_symbol_changes.proofs.Common.{◌≡◌, ◌≢◌, ◌⊎◌, ◌↔◌, ℕ, ◌+◌, ◌*◌, ◌/◌, ◌%◌, ◌<◌, ◌^◌, ◌++◌, ◌∷◌, List, [], length, slice_index, sym, ap, subst, ◌∙◌, inl, inr, arith, eqb-true, bit_at, All, cases_eq, All-nil, All-push, bit_at-lt, bit_at-zero, AccessNumbers, Chunk, SymbolKey, hit, AreGained, AreKept, AreKnown, chunk_by, IsShort, IsTo, access_by, IsNumbered}
use Rattle.std.proofs.Common.{eq-eqb}
use Rattle.cil_accesses.specs.Chunks.{IsAccessOf, IsGiven}
use Rattle.cil_accesses.specs.Renumbered.{IsRenumbered, IsWithin}
use Rattle.cil_accesses.proofs.Renumbering.{any-push, any-pushed}
use Rattle.cil_lines.proofs.LineLemmas.{some_bit}
use Rattle.cil_lines.proofs.StepLemmas.{hit-here, hit-there}

-- one of two that follow from each other, and a third
pub alike-trans : {X Y Z : Type 0} → X ↔ Y → Y ↔ Z → X ↔ Z
alike-trans f g = (λ x. g.0 (f.0 x), λ z. f.1 (g.1 z))

-- where nothing is told, nothing is gained
pub gained-none : (told : AccessNumbers → Type 0) (chunks : List Chunk) → ((a : AccessNumbers) → told a → ⊥) → AreGained told chunks chunks
gained-none told chunks none = record { are = λ a. (λ h. inl h, λ some. elim some [ inl h ↦ h | inr t ↦ absurd (none a t) ]); short = λ h. h }

-- what is told by two in turn
pub gained-more : (told more all : AccessNumbers → Type 0) (old mid new : List Chunk) → AreGained told old mid → AreGained more mid new
    → ((a : AccessNumbers) → all a → told a ⊎ more a) → ((a : AccessNumbers) → told a → all a) → ((a : AccessNumbers) → more a → all a) → AreGained all old new
gained-more told more all old mid new first second split left right = record { are = λ a. (to a, from a); short = λ h. second.short (first.short h) }
  where
    to : (a : AccessNumbers) → IsGiven new a → IsGiven old a ⊎ all a
    to a h =
        elim ((second.are a).0 h) [
          | inl m ↦ elim ((first.are a).0 m) [ inl o ↦ inl o | inr t ↦ inr (left a t) ]
          | inr m ↦ inr (right a m)
        ]

    from : (a : AccessNumbers) → IsGiven old a ⊎ all a → IsGiven new a
    from a (inl o) = (second.are a).1 (inl ((first.are a).1 (inl o)))
    from a (inr h) =
        elim (split a h) [
          | inl t ↦ (second.are a).1 (inl ((first.are a).1 (inr t)))
          | inr m ↦ (second.are a).1 (inr m)
        ]

-- the same told otherwise
pub gained-alike : (told other : AccessNumbers → Type 0) (old new : List Chunk) → AreGained told old new → ((a : AccessNumbers) → told a → other a) → ((a : AccessNumbers) → other a → told a) → AreGained other old new
gained-alike told other old new gained to from = record {
  are = λ a. (
    λ h. elim ((gained.are a).0 h) [ inl o ↦ inl o | inr t ↦ inr (to a t) ],
    λ some. elim some [ inl o ↦ (gained.are a).1 (inl o) | inr t ↦ (gained.are a).1 (inr (from a t)) ],
  );
  short = gained.short;
}

-- what is gained where there was nothing is all
module _ (told : AccessNumbers → Type 0) (old new : List Chunk) (empty : old ≡ [])
    (gained : AreGained told old new) where
  pub gained-all : (a : AccessNumbers) → IsGiven new a ↔ told a
  gained-all a = (
    λ h. elim ((gained.are a).0 h) [
      | inl before ↦ absurd
          (let low = (subst (λ cs. IsGiven cs a) empty before).2 in omega (arith, low))
      | inr t ↦ t
    ],
    λ t. (gained.are a).1 (inr t),
  )

  pub gained-short : All IsShort new
  gained-short = gained.short (subst (All IsShort) (sym empty) (All-nil IsShort))

-- ---- the accesses of a word, by symbols

module _ (numbers : List ℕ) (key : SymbolKey) (word mask : ℕ) where
  abbrev by_symbols : Chunk
  by_symbols = chunk_by key word mask

  -- a target of the mask stands in the word, at a bit that is set
  stands : (t : ℕ) → 0 < hit word mask t → (64 * word + t % 64 ≡ t) × (bit_at mask (t % 64) ≡ 1)
  stands t some =
      elim (cases_eq (t / 64) word) [
        | inl here ↦ (omega (arith, here), let is = hit-here word mask t here in omega (arith, some, is, bit_at-lt mask (t % 64)))
        | inr there ↦ let none = hit-there word mask t there in absurd (omega (arith, some, none))
      ]

  among : (t : ℕ) → t / 64 ≡ word → bit_at mask (t % 64) ≡ 1 → 0 < hit word mask t
  among t here set = let is = hit-here word mask t here in omega (arith, is, set)

  -- so its symbols have numbers
  pub known-symbols : AreKnown numbers key (hit word mask) → (a : AccessNumbers) → IsAccessOf by_symbols a → IsWithin (length numbers) a
  known-symbols known a of =
      let named = known a.target (among a.target of.word of.bit) in
      record {
        source = subst (λ n. n < length numbers) (sym of.source) named.source;
        target = named.among;
        the_class = subst (λ n. n < length numbers) (sym of.the_class) named.the_class;
        permission = subst (λ n. n < length numbers) (sym of.permission) named.permission;
      }

  to-target : (a : AccessNumbers) → IsRenumbered numbers by_symbols 64 a → IsTo numbers key (λ t. 0 < hit word mask t) a
  to-target a r =
      let small = r.within in
      let bit : (64 * word + r.bit) % 64 ≡ r.bit = omega (arith, small) in
      record {
        target = 64 * word + r.bit;
        among = among (64 * word + r.bit) (omega (arith, small)) (ap (bit_at mask) bit ∙ eqb-true (bit_at mask r.bit) 1 r.at.set);
        same = r.at.is;
      }

  from-target : (a : AccessNumbers) → IsTo numbers key (λ t. 0 < hit word mask t) a → IsRenumbered numbers by_symbols 64 a
  from-target a told =
      let (place, set) = stands told.target told.among in
      record {
        bit = told.target % 64;
        within = omega arith;
        at = record { set = eq-eqb (bit_at mask (told.target % 64)) 1 set; is = told.same ∙ ap (access_by numbers key) (sym place) };
      }

  pub gained-targets : (old new : List Chunk) → All IsShort new → ((a : AccessNumbers) → IsGiven new a ↔ (IsGiven old a ⊎ IsRenumbered numbers by_symbols 64 a)) → AreGained (IsTo numbers key (λ t. 0 < hit word mask t)) old new
  gained-targets old new short same =
      gained-alike (IsRenumbered numbers by_symbols 64) (IsTo numbers key (λ t. 0 < hit word mask t)) old new (record { are = same; short = λ all. short }) to-target from-target

  -- a mask that has no target
  pub gained-nothing : mask ≡ 0 → (old : List Chunk) → AreGained (IsTo numbers key (λ t. 0 < hit word mask t)) old old
  gained-nothing none old =
      gained-none (IsTo numbers key (λ t. 0 < hit word mask t)) old
      (λ a told. let set = (stands told.target told.among).1 in let clear = ap (λ n. bit_at n (told.target % 64)) none ∙ bit_at-zero (told.target % 64) in omega (arith, set, clear))

  -- a mask that is not empty has a target
  pub known-mask : mask < 2 ^ 64 → mask ≢ 0 → AreKnown numbers key (hit word mask) → (t : ℕ) × IsNumbered numbers key t
  known-mask fits some known =
      let (b, small, set) = some_bit 64 mask fits some in
      let place : (64 * word + b) % 64 ≡ b = omega (arith, small) in
      let here : (64 * word + b) / 64 ≡ word = omega (arith, small) in
      (64 * word + b, known (64 * word + b) (among (64 * word + b) here (ap (bit_at mask) place ∙ set)))

  -- ---- the same where each symbol is its own number

  abbrev pub by_numbers : Chunk
  by_numbers = record { kind = key.kind; source = slice_index numbers key.source; word = word; class = slice_index numbers key.class; permission = slice_index numbers key.permission; bits = mask }

  to-kept : AreKept numbers → AreKnown numbers key (hit word mask) → (a : AccessNumbers) → IsAccessOf by_numbers a → IsTo numbers key (λ t. 0 < hit word mask t) a
  to-kept kept known a of =
      let there = among a.target of.word of.bit in
      let target = sym (kept a.target (known a.target there).among) in
      record {
        target = a.target;
        among = there;
        same = λ i. record { kind = of.kind i; source = of.source i; target = target i; class = of.the_class i; permission = of.permission i };
      }

  from-kept : AreKept numbers → AreKnown numbers key (hit word mask) → (a : AccessNumbers) → IsTo numbers key (λ t. 0 < hit word mask t) a → IsAccessOf by_numbers a
  from-kept kept known a told =
      let (place, set) = stands told.target told.among in
      let target : a.target ≡ told.target = ap (λ x. x.target) told.same ∙ kept told.target (known told.target told.among).among in
      let small : told.target % 64 < 64 = omega arith in
      record {
        kind = ap (λ x. x.kind) told.same;
        source = ap (λ x. x.source) told.same;
        word = omega (arith, target, place, small);
        the_class = ap (λ x. x.class) told.same;
        permission = ap (λ x. x.permission) told.same;
        bit = ap (λ t. bit_at mask (t % 64)) target ∙ set;
      }

  pub gained-kept : AreKept numbers → AreKnown numbers key (hit word mask) → word < 2 ^ 26 → (old : List Chunk) → AreGained (IsTo numbers key (λ t. 0 < hit word mask t)) old (old ++ by_numbers ∷ [])
  gained-kept kept known low old =
      gained-alike (IsAccessOf by_numbers) (IsTo numbers key (λ t. 0 < hit word mask t)) old (old ++ by_numbers ∷ [])
      (record { are = λ a. (any-pushed (λ c. IsAccessOf c a) old by_numbers, any-push (λ c. IsAccessOf c a) old by_numbers); short = λ all. All-push IsShort old by_numbers all low })
      (to-kept kept known) (from-kept kept known)
