-- Names by their symbols.
use Rattle.cil_member_updates.proofs.Common.{◌≡◌, ◌≢◌, ◌==◌, ◌+◌, ◌-◌, ◌*◌, ◌/◌, ◌<◌, ◌&&◌, ℕ, zero, suc, Bool, true, false, List, [], ◌∷◌, length, Option, None, Some, IsTrue, below_more, bit_or, bytes_eq, min, nat_lt, slice_get, refl, sym, ap, ◌∙◌, subst, inl, inr, arith, AllByRecursion, IsDistinct, bit_at, and-false, cases_Bool, cases_eq, cases_lt, eq-eqb, ne_eqb, lt-ltb, le-ltb, bit_at_or, none-some, same_Some, slice_get_past, bytes_eq-Decides, Expr, leaves, Meaning, is_in, keeps_type, is_member, Element, a_type, an_attribute, SetStatement, differ, holds_with, mentions, is_the_attribute, contains-middle, IsOutside, IsPresence, one_if, AreBits, Cover, of_name, keeps, holds, is_of, element_holds, IsUnchanged, Tell}
use Rattle.std.proofs.Common.{Contains, true≢false}
use Rattle.cil_specs.specs.Meaning as meanings
use Rattle.cil_specs.proofs.DependsLemmas.{any-contained}
use Rattle.cil_specs.proofs.OnceLemmas.{passes-among}
use Rattle.cil_member_updates.proofs.BitLemmas.{cover-bits, cover-present}

pub bytes-refl : (x : List ℕ) → bytes_eq x x ≡ true
bytes-refl x = (bytes_eq-Decides x x).1 refl

-- one of all
all-at : {X : Type 0} (P : X → Type 0) (xs : List X) → AllByRecursion P xs → (i : ℕ) (x : X) → slice_get xs i ≡ Some x → P x
all-at P [] all i x at = absurd (none-some x at)
all-at P (y ∷ ys) all zero x at = subst P (same_Some y x at) all.0
all-at P (y ∷ ys) all (suc i) x at = all-at P ys all.1 i x at

-- distinct names have one symbol each
pub same-symbol : (symbols : List (List ℕ)) → IsDistinct bytes_eq symbols → (a b : ℕ) (name : List ℕ) → slice_get symbols a ≡ Some name → slice_get symbols b ≡ Some name → a ≡ b
unfolding IsDistinct
same-symbol [] distinct a b name at_a at_b = absurd (none-some name at_a)
same-symbol (x ∷ xs) distinct zero zero name at_a at_b = refl
same-symbol (x ∷ xs) distinct zero (suc b) name at_a at_b =
    absurd (true≢false (sym (bytes-refl name) ∙ ap (λ y. bytes_eq y name) (sym (same_Some x name at_a)) ∙ all-at (λ y. bytes_eq x y ≡ false) xs distinct.0 b name at_b))
same-symbol (x ∷ xs) distinct (suc a) zero name at_a at_b =
    absurd (true≢false (sym (bytes-refl name) ∙ ap (λ y. bytes_eq y name) (sym (same_Some x name at_b)) ∙ all-at (λ y. bytes_eq x y ≡ false) xs distinct.0 a name at_a))
same-symbol (x ∷ xs) distinct (suc a) (suc b) name at_a at_b = ap suc (same-symbol xs distinct.1 a b name at_a at_b)

-- the name that passes a test
pub named-by : (test : List ℕ → Bool) (name : Option (List ℕ)) → of_name test name ≡ true → (n : List ℕ) × (name ≡ Some n) × (test n ≡ true)
named-by test None is = absurd (true≢false (sym is))
named-by test (Some n) is = (n, refl, is)

-- a test fails where it fails of the name, if there is one
pub fails-by : (test : List ℕ → Bool) (name : Option (List ℕ)) → ((n : List ℕ) → name ≡ Some n → test n ≡ false) → of_name test name ≡ false
fails-by test None fails = refl
fails-by test (Some n) fails = fails n refl

module _ (symbols : List (List ℕ)) where
  -- the row of an attribute
  pub is-of-row : IsDistinct bytes_eq symbols → (s : SetStatement) (row : ℕ) → slice_get symbols row ≡ Some s.attribute → (a : ℕ) → is_of symbols s a ≡ (a == row)
  unfolding is_of
  is-of-row distinct s row at a =
      elim (cases_eq a row) [
        | inl same ↦ ap (λ k. of_name (λ name. bytes_eq name s.attribute) (slice_get symbols k)) same ∙ ap (of_name (λ name. bytes_eq name s.attribute)) at ∙ bytes-refl s.attribute ∙ sym (eq-eqb a row same)
        | inr other ↦
            fails-by (λ name. bytes_eq name s.attribute) (slice_get symbols a) (λ n is. unlike n is (bytes_eq n s.attribute) refl other) ∙ sym (ne_eqb a row other)
      ]
    where
      unlike : (n : List ℕ) → slice_get symbols a ≡ Some n → (b : Bool) → bytes_eq n s.attribute ≡ b → a ≢ row → b ≡ false
      unlike n is true e other = absurd (other (same-symbol symbols distinct a row s.attribute (is ∙ ap Some ((bytes_eq-Decides n s.attribute).0 e)) at))
      unlike n is false e other = refl

  pub is-of-named : (s : SetStatement) (a : ℕ) (attribute : List ℕ) → slice_get symbols a ≡ Some attribute → is_of symbols s a ≡ bytes_eq attribute s.attribute
  unfolding is_of
  is-of-named s a attribute at = ap (of_name (λ name. bytes_eq name s.attribute)) at

  module _ (meaning : Meaning) where
    pub holds-named : (s : SetStatement) (t : ℕ) (name : List ℕ) → slice_get symbols t ≡ Some name → holds symbols meaning s t ≡ is_in meaning s.expr name
    unfolding holds
    holds-named s t name at = ap (of_name (is_in meaning s.expr)) at

    pub keeps-named : (t : ℕ) (name : List ℕ) → slice_get symbols t ≡ Some name → keeps symbols meaning t ≡ keeps_type meaning name
    unfolding keeps
    keeps-named t name at = ap (of_name (keeps_type meaning)) at

    -- a kept type has a name
    pub keeps-name : (t : ℕ) → keeps symbols meaning t ≡ true → (name : List ℕ) × (slice_get symbols t ≡ Some name) × (keeps_type meaning name ≡ true)
    unfolding keeps
    keeps-name t is = named-by (keeps_type meaning) (slice_get symbols t) is

    -- what isn't kept is in no expression
    pub holds-kept : (s : SetStatement) (t : ℕ) → keeps symbols meaning t ≡ false → holds symbols meaning s t ≡ false
    unfolding holds keeps
    holds-kept s t none = by (slice_get symbols t) none
      where
        by : (name : Option (List ℕ)) → of_name (keeps_type meaning) name ≡ false → of_name (is_in meaning s.expr) name ≡ false
        by None e = refl
        by (Some n) e = ap (λ b. b && holds_with meaning.sets (length meaning.attributes) s.expr n) e

    pub holds-keeps : (s : SetStatement) (t : ℕ) → holds symbols meaning s t ≡ true → keeps symbols meaning t ≡ true
    holds-keeps s t is =
        elim (cases_Bool (keeps symbols meaning t)) [
          | inl kept ↦ kept
          | inr none ↦ absurd (true≢false (sym is ∙ holds-kept s t none))
        ]

    -- a symbol without a name is in none
    pub holds-past : (s : SetStatement) (t : ℕ) → slice_get symbols t ≡ None → holds symbols meaning s t ≡ false
    unfolding holds
    holds-past s t none = ap (of_name (is_in meaning s.expr)) none

    -- nor is one behind the words of all symbols
    pub cover-outside : (s : SetStatement) (len : ℕ) → len ≡ length symbols → (word : ℕ) → IsOutside (record { first = 0; end = len / 64 + 1 }) word → Cover (holds symbols meaning s) word 0
    cover-outside s len same word (inl low) b within none = absurd (omega (arith, low))
    cover-outside s len same word (inr high) b within none = holds-past s (64 * word + b) (slice_get_past symbols (64 * word + b) (omega (arith, high, same, within)))

    -- a type holds itself alone
    pub cover-type : IsDistinct bytes_eq symbols → (symbol word bits : ℕ) (name : List ℕ) → slice_get symbols symbol ≡ Some name → Cover (λ t. symbol == t) word bits → Cover (element_holds symbols meaning (a_type name)) word bits
    unfolding element_holds
    cover-type distinct symbol word bits name at covers b within none =
        fails-by (meanings.holds meaning (a_type name)) (slice_get symbols (64 * word + b)) (λ n is. by n is (bytes_eq name n) refl)
      where
        by : (n : List ℕ) → slice_get symbols (64 * word + b) ≡ Some n → (same : Bool) → bytes_eq name n ≡ same → (keeps_type meaning n && same) ≡ false
        by n is true e =
            absurd (true≢false (sym (eq-eqb symbol (64 * word + b) (same-symbol symbols distinct symbol (64 * word + b) n (at ∙ ap Some ((bytes_eq-Decides name n).0 e)) is)) ∙ covers b within none))
        by n is false e = and-false (keeps_type meaning n)

    -- an attribute holds its members
    pub cover-attribute : (s : SetStatement) (counts : ℕ → ℕ → ℕ) → Tell symbols meaning s counts → (a word bits : ℕ) (attribute : List ℕ) → slice_get symbols a ≡ Some attribute → IsTrue (mentions attribute s.expr)
        → IsPresence (counts a) word bits → Cover (element_holds symbols meaning (an_attribute attribute)) word bits
    unfolding element_holds is_member
    cover-attribute s counts tell a word bits attribute at mentioned presence b within none =
        fails-by (meanings.holds meaning (an_attribute attribute)) (slice_get symbols (64 * word + b))
        (λ n is. sym (tell a (64 * word + b) attribute n at is mentioned) ∙ cover-present (counts a) word bits presence b within none)

    -- what none of the names of an expression holds isn't in it, unless it may hold anything
    pub cover-reach : (s : SetStatement) (word bits : ℕ) → ((t : List ℕ) → ((element : Element) → Contains (leaves s.expr) element → meanings.holds meaning element t ≡ false) → is_in meaning s.expr t ≡ false)
        → ((element : Element) → Contains (leaves s.expr) element → Cover (element_holds symbols meaning element) word bits) → Cover (holds symbols meaning s) word bits
    unfolding element_holds holds
    cover-reach s word bits reach covers b within none =
        fails-by (is_in meaning s.expr) (slice_get symbols (64 * word + b))
        (λ n is. reach n (λ element there. sym (ap (of_name (meanings.holds meaning element)) is) ∙ covers element there b within none))

    -- or a type that is kept
    pub cover-kept : (s : SetStatement) (word bits : ℕ) → AreBits (keeps symbols meaning) word bits → Cover (holds symbols meaning s) word bits
    cover-kept s word bits are b within none = holds-kept s (64 * word + b) (cover-bits (keeps symbols meaning) word bits are b within none)

-- the attribute that a mention is of
pub mention-there : (attribute : List ℕ) (e : Expr Element) → IsTrue (mentions attribute e) → Contains (leaves e) (an_attribute attribute)
mention-there attribute e is =
    let found = passes-among (is_the_attribute attribute) (leaves e) is in
    subst (Contains (leaves e)) (sym (of found.x found.passes)) (subst (λ l. Contains l found.x) (sym found.split) (contains-middle found.before found.x found.after))
  where
    of : (x : Element) → is_the_attribute attribute x ≡ true → an_attribute attribute ≡ x
    of (a_type name) p = absurd (true≢false (sym p))
    of (an_attribute name) p = ap an_attribute ((bytes_eq-Decides attribute name).0 p)

pub there-mentioned : (attribute : List ℕ) (e : Expr Element) → Contains (leaves e) (an_attribute attribute) → IsTrue (mentions attribute e)
there-mentioned attribute e there = any-contained (is_the_attribute attribute) (leaves e) (an_attribute attribute) there (bytes-refl attribute)

-- counters that are both above 0 or both not
above-same : (m n : ℕ) → min 1 m ≡ min 1 n → nat_lt 0 m ≡ nat_lt 0 n
above-same m n same =
    elim (cases_lt 0 m) [
      | inl some ↦ lt-ltb 0 m some ∙ sym (lt-ltb 0 n (omega (arith, same, some)))
      | inr none ↦ le-ltb 0 m none ∙ sym (le-ltb 0 n (omega (arith, same, none)))
    ]

-- The row of an attribute by whose changes the bits are.
module _ (symbols : List (List ℕ)) (before now : ℕ → ℕ → ℕ) where
  pub unchanged-row : IsDistinct bytes_eq symbols → (row word bits : ℕ) (attribute : List ℕ) → slice_get symbols row ≡ Some attribute
      → ((b : ℕ) → b < 64 → bit_at bits b ≡ (min 1 (now row (64 * word + b)) - min 1 (before row (64 * word + b))) + (min 1 (before row (64 * word + b)) - min 1 (now row (64 * word + b))))
      → IsUnchanged symbols before now (an_attribute attribute) word bits
  unchanged-row distinct row word bits attribute at change name a b is at_a within none =
      let here : a ≡ row = same-symbol symbols distinct a row name at_a (at ∙ ap Some (alike is)) in
      subst (λ k. min 1 (now k (64 * word + b)) ≡ min 1 (before k (64 * word + b))) (sym here) (omega (arith, change b within, none))
    where
      alike : an_attribute attribute ≡ an_attribute name → attribute ≡ name
      alike e = cc

  pub unchanged-first : (element : Element) (word bits more : ℕ) → IsUnchanged symbols before now element word bits → IsUnchanged symbols before now element word (bit_or bits more)
  unchanged-first element word bits more unchanged attribute a b is at within none = unchanged attribute a b is at within (omega (arith, none, bit_at_or bits more b))

  unchanged-second : (element : Element) (word bits more : ℕ) → IsUnchanged symbols before now element word more → IsUnchanged symbols before now element word (bit_or bits more)
  unchanged-second element word bits more unchanged attribute a b is at within none = unchanged attribute a b is at within (omega (arith, none, bit_at_or bits more b))

  -- one more name
  pub unchanged-more : (elements : ℕ → Element) (k word bits more : ℕ) → ((m : ℕ) → m < k → IsUnchanged symbols before now (elements m) word bits) → IsUnchanged symbols before now (elements k) word more
      → (m : ℕ) → m < k + 1 → IsUnchanged symbols before now (elements m) word (bit_or bits more)
  unchanged-more elements k word bits more unchanged next =
      below_more (λ m. IsUnchanged symbols before now (elements m) word (bit_or bits more)) k (λ m low. unchanged-first (elements m) word bits more (unchanged m low)) (unchanged-second (elements k) word bits more next)

-- The members of what a set statement of two policies mentions, at a symbol at which nothing changed.
module _ (symbols : List (List ℕ)) (old new : Meaning) (s r : SetStatement) (same : s.expr ≡ r.expr) (before now : ℕ → ℕ → ℕ) (was : Tell symbols old s before) (is : Tell symbols new r now)
    (found : (attribute : List ℕ) → IsTrue (mentions attribute r.expr) → (a : ℕ) × (slice_get symbols a ≡ Some attribute)) where
  pub members-stayed : (word bits : ℕ) → ((element : Element) → Contains (leaves r.expr) element → IsUnchanged symbols before now element word bits)
      → (b : ℕ) → b < 64 → bit_at bits b ≡ 0 → (name : List ℕ) → slice_get symbols (64 * word + b) ≡ Some name → (attribute : List ℕ) → IsTrue (mentions attribute r.expr) → is_member old attribute name ≡ is_member new attribute name
  members-stayed word bits unchanged b within none name at attribute mentioned =
      let t = 64 * word + b in
      let (a, at_a) = found attribute mentioned in
      sym (was a t attribute name at_a at (subst (λ e. IsTrue (mentions attribute e)) (sym same) mentioned))
      ∙ sym (above-same (now a t) (before a t) (unchanged (an_attribute attribute) (mention-there attribute r.expr mentioned) attribute a b refl at_a within none))
      ∙ is a t attribute name at_a at mentioned

-- A set statement of two policies, at the symbols of a word that both keep or neither does, and of whose mentioned attributes nothing
-- changed.
module _ (symbols : List (List ℕ)) (old new : Meaning) (s r : SetStatement) (same : s.expr ≡ r.expr) (before now : ℕ → ℕ → ℕ) (was : Tell symbols old s before) (is : Tell symbols new r now)
    (agree : (t : List ℕ) → IsTrue (keeps_type old t) → IsTrue (keeps_type new t) → ((attribute : List ℕ) → IsTrue (mentions attribute r.expr) → is_member old attribute t ≡ is_member new attribute t) → is_in old r.expr t ≡ is_in new r.expr t)
    (found : (attribute : List ℕ) → IsTrue (mentions attribute r.expr) → (a : ℕ) × (slice_get symbols a ≡ Some attribute)) where
  pub cover-stayed : (word bits kept_old kept_new : ℕ) → AreBits (keeps symbols old) word kept_old → AreBits (keeps symbols new) word kept_new
      → ((element : Element) → Contains (leaves r.expr) element → IsUnchanged symbols before now element word bits) → ((b : ℕ) → bit_at bits b ≡ 0 → bit_at kept_old b ≡ bit_at kept_new b)
      → Cover (λ t. differ (holds symbols old s t) (holds symbols new r t)) word bits
  cover-stayed word bits kept_old kept_new are_old are_new unchanged alike b within none =
      none-differ (holds symbols old s t) (holds symbols new r t) (by (keeps symbols old t) refl (keeps symbols new t) refl)
    where
      t : ℕ
      t = 64 * word + b

      apart : (m n : ℕ) → m ≡ 1 → n ≡ 0 → m ≡ n → ⊥
      apart m n one zero_is e = omega (arith, one, zero_is, e)

      none-differ : (p q : Bool) → p ≡ q → differ p q ≡ false
      none-differ true true e = refl
      none-differ true false e = e
      none-differ false true e = sym e
      none-differ false false e = refl

      by : (p : Bool) → keeps symbols old t ≡ p → (q : Bool) → keeps symbols new t ≡ q → holds symbols old s t ≡ holds symbols new r t
      by true e true f =
          let (name, at, kept) = keeps-name symbols old t e in
          let kept_too : keeps_type new name ≡ true = sym (keeps-named symbols new t name at) ∙ f in
          holds-named symbols old s t name at ∙ ap (λ x. is_in old x name) same ∙ agree name kept kept_too (members-stayed symbols old new s r same before now was is found word bits unchanged b within none name at) ∙ sym (holds-named symbols new r t name at)
      by true e false f = absurd (apart (bit_at kept_old b) (bit_at kept_new b) (are_old b within ∙ ap one_if e) (are_new b within ∙ ap one_if f) (alike b none))
      by false e true f = absurd (apart (bit_at kept_new b) (bit_at kept_old b) (are_new b within ∙ ap one_if f) (are_old b within ∙ ap one_if e) (sym (alike b none)))
      by false e false f = holds-kept symbols old s t e ∙ sym (holds-kept symbols new r t f)
