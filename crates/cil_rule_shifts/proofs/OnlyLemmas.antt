-- The only source of a rule.
use Rattle.std.specs.Prelude.{IfSome}
use Rattle.std.specs.Bool.{then_some}
use Rattle.cil_rule_shifts.proofs.Common.{◌≡◌, ◌==◌, ◌&&◌, ◌∙◌, ℕ, Bool, true, false, Option, ap, cases_eq, eq-eqb, inl, inr, ne_eqb, refl, subst, sym}

-- a type alone, and what is asked of it there
pub alone-and : (ty t : ℕ) (f : ℕ → Bool) → f ty ≡ true → ((ty == t) && f t) ≡ (ty == t)
alone-and ty t f holds =
    elim (cases_eq ty t) [
      | inl same ↦ ap (λ b. b && f t) (eq-eqb ty t same) ∙ ap f (sym same) ∙ holds ∙ sym (eq-eqb ty t same)
      | inr other ↦ ap (λ b. b && f t) (ne_eqb ty t other) ∙ sym (ne_eqb ty t other)
    ]

-- a test that holds at a number alone if another does
pub told-only : (f : ℕ → Bool) (holds : Bool) (ty : ℕ) (found : Option ℕ) → found ≡ then_some holds ty → (holds ≡ true → (t : ℕ) → f t ≡ (ty == t)) → IfSome found (λ s. (t : ℕ) → f t ≡ (s == t))
told-only f true ty found is only = subst (λ r. IfSome r (λ s. (t : ℕ) → f t ≡ (s == t))) (sym is) (only refl)
told-only f false ty found is only = subst (λ r. IfSome r (λ s. (t : ℕ) → f t ≡ (s == t))) (sym is) tt
