-- Lists of permissions that are known.
use Rattle.std.proofs.Common.{◌≡◌, ℕ, zero, suc, ◌&&◌, Bool, true, false, ◌⊎◌, inl, inr, List, [], ◌∷◌, get_or, slice_set, Option, Some, None, refl, sym, ap, ◌∙◌, subst, true≢false}
use Rattle.std.proofs.lemmas.Bool.{eqb-true}
use Rattle.cil_bind.specs.KnownLists.{is_number}

-- both of two tests that pass
both : (a b : Bool) → (a && b) ≡ true → (a ≡ true) × (b ≡ true)
both true b is = (refl, is)
both false b is = absurd (true≢false (sym is))

number-is : (found : Option ℕ) (number other : ℕ) → found ≡ Some number → is_number found other ≡ true → number ≡ other
number-is found number other at is = eqb-true number other (sym (ap (λ o. is_number o other) at) ∙ is)

set-cases : (last : List (Option ℕ)) (list place other class_place : ℕ) → is_number (get_or (slice_set last list (Some place)) other None) class_place ≡ true
    → ((list ≡ other) × (place ≡ class_place)) ⊎ (is_number (get_or last other None) class_place ≡ true)
set-cases [] list place other class_place is = inr is
set-cases (o ∷ last) zero place zero class_place is = inl (refl, eqb-true place class_place is)
set-cases (o ∷ last) zero place (suc other) class_place is = inr is
set-cases (o ∷ last) (suc list) place zero class_place is = inr is
set-cases (o ∷ last) (suc list) place (suc other) class_place is = elim (set-cases last list place other class_place is) [
  | inl same ↦ inl (ap suc same.0, same.1)
  | inr there ↦ inr there
]

-- what is known by the number of the module and the classes that are noted
abbrev AreNoted : (ℕ → ℕ → ℕ → Bool) → Option ℕ → List (Option ℕ) → Type 0
AreNoted holds number last = (other list class_place : ℕ) → (is_number number other && is_number (get_or last list None) class_place) ≡ true → holds other list class_place ≡ true

-- one list more that a class has
pub known-noted : (holds : ℕ → ℕ → ℕ → Bool) (found : Option ℕ) (last : List (Option ℕ)) (number list place : ℕ) → found ≡ Some number → holds number list place ≡ true → AreNoted holds found last
    → AreNoted holds found (slice_set last list (Some place))
known-noted holds found last number list place at has are other l class_place is =
    elim (set-cases last list place l class_place parts.1) [
      | inl same ↦ subst (λ n. holds other n class_place ≡ true) same.0 (subst (λ p. holds other list p ≡ true) same.1 (subst (λ n. holds n list place ≡ true) one has))
      | inr there ↦ are other l class_place (ap (λ b. b && is_number (get_or last l None) class_place) parts.0 ∙ there)
    ]
  where
    parts : (is_number found other ≡ true) × (is_number (get_or (slice_set last list (Some place)) l None) class_place ≡ true)
    parts = both (is_number found other) (is_number (get_or (slice_set last list (Some place)) l None) class_place) is

    one : number ≡ other
    one = number-is found number other at parts.0
