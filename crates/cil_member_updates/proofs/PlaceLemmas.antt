-- Set statements at their places, and what a policy keeps of them.
use Rattle.cil_member_updates.proofs.Common.{◌≡◌, ℕ, ◌<◌, Bool, true, false, ◌&&◌, ◌||◌, List, [], ◌∷◌, length, bytes_eq, IsTrue, slice_get, Some, refl, sym, ap, ◌∙◌, subst, list_any, and_parts, slice_get-get_or, bytes_eq-Decides, named, Meaning, keeps_type, is_in, is_member, keeps_attribute, HasSoundSets, Element, an_attribute, SetStatement, holds_with, contains-first, contains-other, sets_in, Resolved, set_at, no_set}
use Rattle.std.proofs.Common.{Contains, true≢false}
use Rattle.cil_specs.specs.Meaning.{holds}
use Rattle.cil_specs.proofs.MemberLemmas.{member-fixed}

pub set-there : {A : Type 0} (r : Resolved A) (i : ℕ) → i < length (sets_in r) → slice_get (sets_in r) i ≡ Some (set_at r i)
set-there r i within = slice_get-get_or (sets_in r) i no_set within

-- what holds of an element at a type keeps the type
holds-kept : (meaning : Meaning) (e : Element) (t : List ℕ) → IsTrue (holds meaning e t) → IsTrue (keeps_type meaning t)
holds-kept meaning e t h = (and_parts (keeps_type meaning t) (holds_with meaning.sets (length meaning.attributes) (named e) t) h).0

-- an attribute of which a set statement holds a type is kept
set-kept : (meaning : Meaning) (a t : List ℕ) (sets : List SetStatement) → ((s : SetStatement) → Contains sets s → IsTrue (keeps_attribute meaning s.attribute))
    → list_any (λ s. bytes_eq a s.attribute && is_in meaning s.expr t) sets ≡ true → keeps_attribute meaning a ≡ true
set-kept meaning a t [] own is = absurd (true≢false (sym is))
set-kept meaning a t (s ∷ sets) own is = by (set-kept meaning a t sets (λ x c. own x (contains-other s sets x c))) (bytes_eq a s.attribute) refl
  where
    by : (list_any (λ x. bytes_eq a x.attribute && is_in meaning x.expr t) sets ≡ true → keeps_attribute meaning a ≡ true) → (b : Bool) → bytes_eq a s.attribute ≡ b → keeps_attribute meaning a ≡ true
    by rest true same = subst (λ n. keeps_attribute meaning n ≡ true) (sym ((bytes_eq-Decides a s.attribute).0 same)) (own s (contains-first s sets))
    by rest false other = rest (ap (λ b. (b && is_in meaning s.expr t) || list_any (λ x. bytes_eq a x.attribute && is_in meaning x.expr t) sets) (sym other) ∙ is)

-- a policy keeps a member and its attribute
pub member-kept : (meaning : Meaning) → HasSoundSets meaning → (a t : List ℕ) → is_member meaning a t ≡ true → (keeps_type meaning t ≡ true) × (keeps_attribute meaning a ≡ true)
unfolding is_member
member-kept meaning sound a t is = (holds-kept meaning (an_attribute a) t is, set-kept meaning a t meaning.sets sound.own.attributes (sym (member-fixed meaning sound a t) ∙ is))
