-- Set statements that hold nothing that none of their names holds.
use Rattle.cil_member_updates.proofs.Common.{◌≡◌, ◌+◌, ◌*◌, ◌<◌, ◌&&◌, ℕ, Bool, true, false, List, length, Option, None, Some, IsTrue, bytes_eq, slice_get, refl, sym, ap, ◌∙◌, and-false, Contains-get_or, bytes_eq-Decides, Expr, leaves, named, Meaning, is_in, keeps_type, is_member, HasSoundSets, AreTheSame, Element, a_type, an_attribute, SetStatement, differ, holds_with, mentions, Resolved, meaning_in, sets_in, no_set, set_at, Cover, holds}
use Rattle.std.proofs.Common.{Contains, true≢false}
use Rattle.cil_specs.specs.Meaning as meanings
use Rattle.cil_member_updates.proofs.NameLemmas.{holds-named, holds-past, there-mentioned}

-- a policy keeps the types that its set statements name
pub named-kept : {A : Type 0} (r : Resolved A) → HasSoundSets (meaning_in r) → AreTheSame (meaning_in r).sets (sets_in r) → (i : ℕ) → i < length (sets_in r)
    → (name : List ℕ) → Contains (leaves (set_at r i).expr) (a_type name) → keeps_type (meaning_in r) name ≡ true
named-kept r sound same i within name there = sound.own.mentioned (set_at r i) (a_type name) ((same (set_at r i)).1 (Contains-get_or (sets_in r) i no_set within)) there

unkept : (meaning : Meaning) (e : Expr Element) (name : List ℕ) → keeps_type meaning name ≡ false → is_in meaning e name ≡ false
unkept meaning e name gone = ap (λ kept. kept && holds_with meaning.sets (length meaning.attributes) e name) gone

-- An expression that holds nothing that none of its names holds.
module _ (e : Expr Element) (reach : (meaning : Meaning) (t : List ℕ) → ((element : Element) → Contains (leaves e) element → meanings.holds meaning element t ≡ false) → is_in meaning e t ≡ false) where
  -- where another policy keeps the types that it names, and has the same members of what it mentions, it holds no type that the other doesn't keep
  gone-out : (this other : Meaning) → ((n : List ℕ) → Contains (leaves e) (a_type n) → keeps_type other n ≡ true) → (name : List ℕ)
      → ((attribute : List ℕ) → IsTrue (mentions attribute e) → is_member this attribute name ≡ is_member other attribute name) → keeps_type other name ≡ false → is_in this e name ≡ false
  unfolding is_member
  gone-out this other kept name members gone = reach this name fails
    where
      by : (n : List ℕ) → Contains (leaves e) (a_type n) → (b : Bool) → bytes_eq n name ≡ b → (keeps_type this name && b) ≡ false
      by n there true is = absurd (true≢false (sym (kept n there) ∙ ap (keeps_type other) ((bytes_eq-Decides n name).0 is) ∙ gone))
      by n there false is = and-false (keeps_type this name)

      fails : (element : Element) → Contains (leaves e) element → meanings.holds this element name ≡ false
      fails (a_type n) there = by n there (bytes_eq n name) refl
      fails (an_attribute a) there = members a (there-mentioned a e there) ∙ unkept other (named (an_attribute a)) name gone

  -- two policies that keep the types that it names, and have the same members of what it mentions, hold the same by it
  module _ (old new : Meaning) (kept_old : (n : List ℕ) → Contains (leaves e) (a_type n) → keeps_type old n ≡ true) (kept_new : (n : List ℕ) → Contains (leaves e) (a_type n) → keeps_type new n ≡ true)
      (agree : (t : List ℕ) → IsTrue (keeps_type old t) → IsTrue (keeps_type new t) → ((attribute : List ℕ) → IsTrue (mentions attribute e) → is_member old attribute t ≡ is_member new attribute t) → is_in old e t ≡ is_in new e t) where
    pub same-in : (name : List ℕ) → ((attribute : List ℕ) → IsTrue (mentions attribute e) → is_member old attribute name ≡ is_member new attribute name) → is_in old e name ≡ is_in new e name
    same-in name members = by (keeps_type old name) refl (keeps_type new name) refl
      where
        by : (p : Bool) → keeps_type old name ≡ p → (q : Bool) → keeps_type new name ≡ q → is_in old e name ≡ is_in new e name
        by p is false gone = gone-out old new kept_new name members gone ∙ sym (unkept new e name gone)
        by false gone true is = unkept old e name gone ∙ sym (gone-out new old kept_old name (λ attribute mentioned. sym (members attribute mentioned)) gone)
        by true is true too = agree name is too members

-- a set statement of two policies that hold the same by it
pub cover-alike : (symbols : List (List ℕ)) (old new : Meaning) (s r : SetStatement) → s.expr ≡ r.expr → (word : ℕ) → ((b : ℕ) → b < 64 → (name : List ℕ) → slice_get symbols (64 * word + b) ≡ Some name → is_in old r.expr name ≡ is_in new r.expr name)
    → (bits : ℕ) → Cover (λ t. differ (holds symbols old s t) (holds symbols new r t)) word bits
cover-alike symbols old new s r same word alike bits b within none = none-differ (holds symbols old s t) (holds symbols new r t) (by (slice_get symbols t) refl)
  where
    t : ℕ
    t = 64 * word + b

    none-differ : (p q : Bool) → p ≡ q → differ p q ≡ false
    none-differ true true e = refl
    none-differ true false e = e
    none-differ false true e = sym e
    none-differ false false e = refl

    by : (name : Option (List ℕ)) → slice_get symbols t ≡ name → holds symbols old s t ≡ holds symbols new r t
    by None at = holds-past symbols old s t at ∙ sym (holds-past symbols new r t at)
    by (Some name) at = holds-named symbols old s t name at ∙ ap (λ e. is_in old e name) same ∙ alike b within name at ∙ sym (holds-named symbols new r t name at)
