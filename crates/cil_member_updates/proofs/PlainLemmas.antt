-- Plain lists of names, and the types that they hold.
use Rattle.cil_member_updates.proofs.Common.{◌≡◌, ◌≢◌, ◌==◌, ◌+◌, ◌*◌, ◌/◌, ◌%◌, ◌^◌, ◌<◌, ◌≤◌, ◌&&◌, ◌||◌, ◌++◌, ℕ, zero, suc, Bool, true, false, List, [], ◌∷◌, length, map, take, replicate, set, Some, bytes_eq, bit_or, get_or, nat_lt, slice_get, refl, sym, ap, ◌∙◌, subst, inl, inr, arith, w64, get_or-set_same, get_or-set_other, length-set, list_any, min, IsDistinct, bit_at, or-true, or-false, take_all, cases_Bool, cases_eq, cases_lt, eq-eqb, ne_eqb, le-ltb, lt-ltb, bit_at_or, bit_at-lt, bit_at-zero, bit_at_set_same, bit_at_set_other, IsPresence, Expr, leaves, IsTrue, named, same_Some, bytes_eq-Decides, Meaning, SetStatement, a_type, an_attribute, Element, mentions, is_member, keeps_type, holds_with, Cover, is_set, Tell, of_name, element_holds, holds, keeps}
use Rattle.std.proofs.Common.{append-nil, drop, Contains}
use Rattle.std.proofs.lemmas.List.{drop_all}
use Rattle.cil_expression.proofs.HoldsLemmas.{holds-agree}
use Rattle.cil_expression.proofs.ListedLemmas.{holds-listed, plain-listed}
use Rattle.cil_parse.specs.Forms.{is_plain}
use Rattle.cil_specs.specs.Expr.{holds_by}
use Rattle.cil_specs.specs.Meaning as meanings
use Rattle.cil_specs.specs.Sets as sets
use Rattle.cil_member_updates.proofs.KeptLemmas.{zero-in}
use Rattle.cil_member_updates.proofs.NameLemmas.{bytes-refl, holds-named, keeps-name, same-symbol}

-- ---- bits of symbols

pub none-set : (n : ℕ) (words : List ℕ) → words ≡ replicate n 0 → (t : ℕ) → is_set words t ≡ false
none-set n words is t = ap (λ l. bit_at (get_or l (t / 64) 0) (t % 64) == 1) is ∙ ap (λ x. bit_at x (t % 64) == 1) (zero-in n (t / 64)) ∙ ap (λ x. x == 1) (bit_at-zero (t % 64))

-- one symbol more
pub symbol-set : (words : List ℕ) (symbol : ℕ) → symbol / 64 < length words → (t : ℕ)
    → is_set (set words (symbol / 64) (bit_or (get_or words (symbol / 64) 0) (1 * 2 ^ (symbol % 64) % 2 ^ 64))) t ≡ (is_set words t || (symbol == t))
symbol-set words symbol within t =
    elim (cases_eq (t / 64) (symbol / 64)) [
      | inl here ↦
          ap (λ x. bit_at x (t % 64) == 1) (ap (λ k. get_or (set words (symbol / 64) more) k 0) here ∙ get_or-set_same words (symbol / 64) more 0 within)
          ∙ elim (cases_eq (t % 64) (symbol % 64)) [
            | inl same ↦
                eq-eqb (bit_at more (t % 64)) 1 (ap (bit_at more) same ∙ bit_at_set_same w64 (get_or words (symbol / 64) 0) (symbol % 64) (omega arith))
                ∙ sym (ap (λ b. is_set words t || b) (eq-eqb symbol t (omega (arith, here, same))) ∙ or-true (is_set words t))
            | inr other ↦
                ap (λ x. x == 1) (bit_at_set_other w64 (get_or words (symbol / 64) 0) (symbol % 64) (omega arith) (t % 64) other ∙ ap (λ k. bit_at (get_or words k 0) (t % 64)) (sym here))
                ∙ sym (ap (λ b. is_set words t || b) (ne_eqb symbol t (λ e. other (omega (arith, e)))) ∙ or-false (is_set words t))
          ]
      | inr other ↦
          ap (λ x. bit_at x (t % 64) == 1) (get_or-set_other words (symbol / 64) (t / 64) more 0 other)
          ∙ sym (ap (λ b. is_set words t || b) (ne_eqb symbol t (λ e. other (omega (arith, e)))) ∙ or-false (is_set words t))
    ]
  where
    more : ℕ
    more = bit_or (get_or words (symbol / 64) 0) (1 * 2 ^ (symbol % 64) % 2 ^ 64)

-- The members of the words so far are set, and the other words are as they were.
pub record AreAdded (counts : ℕ → ℕ) (word : ℕ) (old new : List ℕ) : Type 0 where
  pub long : length new ≡ length old
  pub below : (t : ℕ) → t / 64 < word → is_set new t ≡ (is_set old t || nat_lt 0 (counts t))
  pub behind : (w : ℕ) → word ≤ w → get_or new w 0 ≡ get_or old w 0

pub added-first : (counts : ℕ → ℕ) (old : List ℕ) → AreAdded counts 0 old old
added-first counts old = record {
  long = refl;
  below = λ t low. absurd (omega (arith, low));
  behind = λ w high. refl;
}

pub added-next : (counts : ℕ → ℕ) (word bits : ℕ) (old mid : List ℕ) → word < length old → IsPresence counts word bits → AreAdded counts word old mid → AreAdded counts (word + 1) old (set mid word (bit_or (get_or mid word 0) bits))
added-next counts word bits old mid within presence added = record {
  long = length-set mid word (bit_or (get_or mid word 0) bits) ∙ added.long;
  below = λ t low. elim (cases_lt (t / 64) word) [
    | inl before ↦ ap (λ x. bit_at x (t % 64) == 1) (get_or-set_other mid word (t / 64) (bit_or (get_or mid word 0) bits) 0 (λ e. omega (arith, e, before))) ∙ added.below t before
    | inr past ↦ last t (omega (arith, low, past))
  ];
  behind = λ w high. get_or-set_other mid word w (bit_or (get_or mid word 0) bits) 0 (λ e. omega (arith, e, high)) ∙ added.behind w (omega (arith, high));
}
  where
    more : ℕ
    more = bit_or (get_or mid word 0) bits

    with-bit : (t : ℕ) → t / 64 ≡ word → (bit_at more (t % 64) == 1) ≡ ((bit_at (get_or old word 0) (t % 64) == 1) || nat_lt 0 (counts t))
    with-bit t at =
        let same : bit_at (get_or mid word 0) (t % 64) ≡ bit_at (get_or old word 0) (t % 64) = ap (λ x. bit_at x (t % 64)) (added.behind word (omega arith)) in
        let or = bit_at_or (get_or mid word 0) bits (t % 64) in
        let is : bit_at bits (t % 64) ≡ min 1 (counts t) = presence (t % 64) (omega arith) ∙ ap (λ k. min 1 (counts k)) (omega (arith, at)) in
        elim (cases_eq (bit_at (get_or old word 0) (t % 64)) 1) [
          | inl full ↦
              eq-eqb (bit_at more (t % 64)) 1 (let low = bit_at-lt more (t % 64) in omega (arith, full, same, or, low))
              ∙ sym (ap (λ b. b || nat_lt 0 (counts t)) (eq-eqb (bit_at (get_or old word 0) (t % 64)) 1 full))
          | inr clear ↦
              let none : bit_at (get_or old word 0) (t % 64) ≡ 0 = let low = bit_at-lt (get_or old word 0) (t % 64) in omega (arith, clear, low) in
              elim (cases_lt 0 (counts t)) [
                | inl some ↦ eq-eqb (bit_at more (t % 64)) 1 (omega (arith, same, or, is, none, some)) ∙ sym (lt-ltb 0 (counts t) some) ∙ sym (ap (λ b. b || nat_lt 0 (counts t)) (ne_eqb (bit_at (get_or old word 0) (t % 64)) 1 clear))
                | inr zero_is ↦ ne_eqb (bit_at more (t % 64)) 1 (λ e. omega (arith, same, or, is, none, zero_is, e)) ∙ sym (le-ltb 0 (counts t) zero_is) ∙ sym (ap (λ b. b || nat_lt 0 (counts t)) (ne_eqb (bit_at (get_or old word 0) (t % 64)) 1 clear))
              ]
        ]

    last : (t : ℕ) → t / 64 ≡ word → is_set (set mid word more) t ≡ (is_set old t || nat_lt 0 (counts t))
    last t at =
        ap (λ x. bit_at x (t % 64) == 1) (ap (λ k. get_or (set mid word more) k 0) at ∙ get_or-set_same mid word more 0 (let long = added.long in omega (arith, long, within)))
        ∙ with-bit t at ∙ ap (λ k. (bit_at (get_or old k 0) (t % 64) == 1) || nat_lt 0 (counts t)) (sym at)

-- the bits of a word whose kept types are told cover those that the test holds
pub cover-set : (keeps test : ℕ → Bool) → ((t : ℕ) → keeps t ≡ false → test t ≡ false) → (words : List ℕ) → ((t : ℕ) → keeps t ≡ true → is_set words t ≡ test t) → (word : ℕ) → Cover test word (get_or words word 0)
cover-set keeps test fails words told word b within none =
    elim (cases_Bool (keeps (64 * word + b))) [
      | inl kept ↦
          sym (told (64 * word + b) kept)
          ∙ (λ i. bit_at (get_or words (here i) 0) (place i) == 1)
          ∙ ne_eqb (bit_at (get_or words word 0) b) 1 (λ set. omega (arith, none, set))
      | inr not_kept ↦ fails (64 * word + b) not_kept
    ]
  where
    here : (64 * word + b) / 64 ≡ word
    here = omega (arith, within)

    place : (64 * word + b) % 64 ≡ b
    place = omega (arith, within)

-- words that are written back as a whole
pub written-back : (old new : List ℕ) (len : ℕ) → length new ≡ length old → length old ≡ len → take len (new ++ drop (length new) old) ≡ new
written-back old new len same long = ap (λ l. take len (new ++ l)) (drop_all (length new) old (omega (arith, same))) ∙ ap (take len) (append-nil new) ∙ take_all len new (omega (arith, same, long))

-- ---- what a plain list holds

any-mapped : {X Y : Type 0} (f : X → Y) (test : Y → Bool) (xs : List X) → list_any test (map f xs) ≡ list_any (λ x. test (f x)) xs
any-mapped f test [] = refl
any-mapped f test (x ∷ xs) = ap (λ b. test (f x) || b) (any-mapped f test xs)

module _ (symbols : List (List ℕ)) (meaning : Meaning) (t : ℕ) (kept : keeps symbols meaning t ≡ true) where
  -- what a name of an expression holds, at a kept type
  element-named : (e : Element) (name : List ℕ) → slice_get symbols t ≡ Some name → keeps_type meaning name ≡ true → element_holds symbols meaning e t ≡ holds_with meaning.sets (length meaning.attributes) (named e) name
  unfolding element_holds
  element-named e name at keeps_it = ap (of_name (meanings.holds meaning e)) at ∙ ap (λ b. b && holds_with meaning.sets (length meaning.attributes) (named e) name) keeps_it

  -- a type holds itself alone
  pub type-holds : IsDistinct bytes_eq symbols → (symbol : ℕ) (name : List ℕ) → slice_get symbols symbol ≡ Some name → element_holds symbols meaning (a_type name) t ≡ (symbol == t)
  type-holds distinct symbol name at =
      let (n, here, keeps_it) = keeps-name symbols meaning t kept in
      element-named (a_type name) n here keeps_it
      ∙ elim (cases_eq symbol t) [
        | inl same ↦
            ap (bytes_eq name) (sym (same_Some name n (sym at ∙ ap (slice_get symbols) same ∙ here))) ∙ bytes-refl name ∙ sym (eq-eqb symbol t same)
        | inr other ↦ unlike n here (bytes_eq name n) refl other ∙ sym (ne_eqb symbol t other)
      ]
    where
      unlike : (n : List ℕ) → slice_get symbols t ≡ Some n → (b : Bool) → bytes_eq name n ≡ b → symbol ≢ t → b ≡ false
      unlike n here true e other = absurd (other (same-symbol symbols distinct symbol t n (at ∙ ap Some ((bytes_eq-Decides name n).0 e)) here))
      unlike n here false e other = refl

  -- an attribute holds its members
  pub attribute-holds : (s : SetStatement) (counts : ℕ → ℕ → ℕ) → Tell symbols meaning s counts → (a : ℕ) (attribute : List ℕ) → slice_get symbols a ≡ Some attribute → IsTrue (mentions attribute s.expr)
      → element_holds symbols meaning (an_attribute attribute) t ≡ nat_lt 0 (counts a t)
  unfolding element_holds is_member
  attribute-holds s counts tell a attribute at mentioned =
      let (n, here, keeps_it) = keeps-name symbols meaning t kept in
      ap (of_name (meanings.holds meaning (an_attribute attribute))) here ∙ sym (tell a t attribute n at here mentioned)

  -- an expression that holds what one of its names does
  pub list-holds : {leaf : Type 0} (s : SetStatement) (f : leaf → Element) (names : List leaf) → map f names ≡ leaves s.expr → ((value : Element → Bool) → holds_by value s.expr ≡ list_any value (leaves s.expr))
      → list_any (λ e. element_holds symbols meaning (f e) t) names ≡ holds symbols meaning s t
  list-holds s f names are joins =
      let (n, here, keeps_it) = keeps-name symbols meaning t kept in
      let test = λ (e : Element). sets.element_holds (λ a. sets.attribute_holds meaning.sets (length meaning.attributes) a n) e n in
      ap (λ p. list_any p names) (λ i e. element-named (f e) n here keeps_it i)
      ∙ sym (any-mapped f test names) ∙ ap (list_any test) are ∙ sym (joins test)
      ∙ sym (ap (λ b. b && holds_with meaning.sets (length meaning.attributes) s.expr n) keeps_it) ∙ sym (holds-named symbols meaning s t n here)

-- ---- expressions that hold what one of their names does

-- a plain list
pub plain-joins : {leaf : Type 0} (e : Expr leaf) → is_plain e ≡ true → (value : leaf → Bool) → holds_by value e ≡ list_any value (leaves e)
plain-joins e plain value = ap (holds_by value) (plain-listed e plain) ∙ holds-listed value (leaves e)

-- one of one name that holds something with it and nothing without
pub one-joins : {leaf : Type 0} (e : Expr leaf) → length (leaves e) ≡ 1 → holds_by (λ l. false) e ≡ false → holds_by (λ l. true) e ≡ true → (value : leaf → Bool) → holds_by value e ≡ list_any value (leaves e)
one-joins {leaf = leaf} e long none all value = by (leaves e) refl long
  where
    agreed : (b : Bool) → holds_by (λ l. b) e ≡ b
    agreed true = all
    agreed false = none

    by : (names : List leaf) → leaves e ≡ names → length names ≡ 1 → holds_by value e ≡ list_any value (leaves e)
    by [] are one = absurd (omega (arith, one))
    by (x ∷ []) are one =
        holds-agree e value (λ l. value x) (λ l there. ap value (only l (subst (λ names. Contains names l) are there))) ∙ agreed (value x)
        ∙ sym (ap (list_any value) are ∙ or-false (value x))
      where
        only : (l : leaf) → Contains (x ∷ []) l → l ≡ x
        only l (zero, low, same) = sym same
        only l (suc k, low, same) = absurd (omega (arith, low))
    by (x ∷ y ∷ more) are one = absurd (omega (arith, one))
