use Rattle.cil_optionals.proofs.Common.{◌≡◌, ℕ, List, [], ◌∷◌, length, get_or, Option, Some, None, refl, sym, arith}
use Rattle.cil_optionals.specs.Given.{gift}

-- other lists than those of two references
gift-other : (bound : List (Option ℕ)) → (length bound ≡ 2 → ⊥) → gift bound ≡ None
gift-other [] other = refl
gift-other (None ∷ bound) other = refl
gift-other (Some a ∷ []) other = refl
gift-other (Some a ∷ None ∷ bound) other = refl
gift-other (Some a ∷ Some b ∷ []) other = absurd (other refl)
gift-other (Some a ∷ Some b ∷ x ∷ bound) other = refl

first-nowhere : (bound : List (Option ℕ)) → get_or bound 0 None ≡ None → gift bound ≡ None
first-nowhere [] none = refl
first-nowhere (None ∷ bound) none = refl
first-nowhere (Some a ∷ bound) none = cc

second-nowhere : (bound : List (Option ℕ)) → get_or bound 1 None ≡ None → gift bound ≡ None
second-nowhere [] none = refl
second-nowhere (None ∷ bound) none = refl
second-nowhere (Some a ∷ []) none = refl
second-nowhere (Some a ∷ None ∷ bound) none = refl
second-nowhere (Some a ∷ Some b ∷ bound) none = cc

both-somewhere : (bound : List (Option ℕ)) (a b : ℕ) → length bound ≡ 2 → get_or bound 0 None ≡ Some a → get_or bound 1 None ≡ Some b → Some (a, b) ≡ gift bound
both-somewhere [] a b two first second = absurd (omega (arith, two))
both-somewhere (x ∷ []) a b two first second = absurd (omega (arith, two))
both-somewhere (x ∷ y ∷ []) a b two first second = sym (λ i. gift (first i ∷ second i ∷ []))
both-somewhere (x ∷ y ∷ z ∷ bound) a b two first second = absurd (omega (arith, two))
