-- What is in an expression by a policy: alike in two policies that agree on the attributes that it mentions, and for an attribute
-- what is in the expression of one of its set statements.
use Rattle.cil_specs.proofs.Common.{suc, ◌≡◌, ℕ, ◌≤◌, Bool, true, false, ◌&&◌, ◌||◌, List, [], ◌∷◌, map, length, bytes_eq, refl, sym, ap, ◌∙◌, subst, arith, length-map, list_any, Expr, named, has_name, Element, an_attribute, SetStatement, Declared, expr_holds, attribute_holds, holds_with, mentions, Meaning, keeps_type, is_in}
use Rattle.cil_specs.specs.Members.{is_member, HasSoundSets}
use Rattle.cil_specs.proofs.SetLemmas.{holds-agree, more-fuel}

-- What is in an expression at a kept type follows from the members of the attributes that it mentions.
pub in-known : (meaning : Meaning) (known : List ℕ → Bool) (e : Expr Element) (t : List ℕ) → keeps_type meaning t ≡ true → ((a : List ℕ) → mentions a e ≡ true → known a ≡ is_member meaning a t)
    → expr_holds known e t ≡ is_in meaning e t
unfolding is_member
in-known meaning known e t kept each =
    holds-agree known (λ a. attribute_holds meaning.sets (length meaning.attributes) a t) t e
    (λ a mentioned. each a mentioned ∙ ap (λ b. b && attribute_holds meaning.sets (length meaning.attributes) a t) kept)
    ∙ sym (ap (λ b. b && holds_with meaning.sets (length meaning.attributes) e t) kept)

-- An expression holds a type alike in two policies that keep the type and agree there on the attributes that it mentions.
pub in-agree : (old new : Meaning) (e : Expr Element) (t : List ℕ) → keeps_type old t ≡ true → keeps_type new t ≡ true
    → ((a : List ℕ) → mentions a e ≡ true → is_member old a t ≡ is_member new a t) → is_in old e t ≡ is_in new e t
in-agree old new e t kept still agree =
    sym (in-known old (λ a. is_member new a t) e t kept (λ a mentioned. sym (agree a mentioned))) ∙ in-known new (λ a. is_member new a t) e t still (λ a _. refl)

names-kept : (a : List ℕ) (ds : List Declared) → has_name (map (λ d. d.name) ds) a ≡ list_any (λ d. bytes_eq a d.name) ds
names-kept a [] = refl
names-kept a (d ∷ ds) = ap (λ b. bytes_eq a d.name || b) (names-kept a ds)

-- more fuel than one for each attribute changes nothing
pub enough-fuel : (meaning : Meaning) → HasSoundSets meaning → (n : ℕ) → length meaning.attributes ≤ n → (e : Expr Element) (t : List ℕ)
    → holds_with meaning.sets n e t ≡ holds_with meaning.sets (length meaning.attributes) e t
enough-fuel meaning sound n enough e t =
    subst (λ k. k ≤ n → holds_with meaning.sets n e t ≡ holds_with meaning.sets k e t) (length-map meaning.attributes (λ d. d.name))
    (λ within. more-fuel meaning.sets sound.straight (map (λ d. d.name) meaning.attributes) (λ s c. names-kept s.attribute meaning.attributes ∙ sound.own.attributes s c) n within e t) enough

-- A type is a member of an attribute where the expression of one of its set statements holds it.
pub member-fixed : (meaning : Meaning) → HasSoundSets meaning → (a t : List ℕ) → is_member meaning a t ≡ list_any (λ s. bytes_eq a s.attribute && is_in meaning s.expr t) meaning.sets
unfolding is_member
member-fixed meaning sound a t =
    ap (λ b. keeps_type meaning t && b) (sym (enough-fuel meaning sound (suc (length meaning.attributes)) (omega arith) (named (an_attribute a)) t)) ∙ by (keeps_type meaning t) meaning.sets
  where
    by : (k : Bool) (sets : List SetStatement) → (k && list_any (λ s. bytes_eq a s.attribute && holds_with meaning.sets (length meaning.attributes) s.expr t) sets) ≡ list_any (λ s. bytes_eq a s.attribute && (k && holds_with meaning.sets (length meaning.attributes) s.expr t)) sets
    by true sets = refl
    by false [] = refl
    by false (s ∷ sets) = by false sets ∙ ap (λ b. b || list_any (λ s. bytes_eq a s.attribute && false) sets) (sym (none (bytes_eq a s.attribute)))
      where
        none : (b : Bool) → (b && false) ≡ false
        none true = refl
        none false = refl
