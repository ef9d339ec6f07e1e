-- Rules that reach nothing.
use Rattle.std.proofs.Common.{◌≡◌, ℕ, ◌&&◌, Bool, true, false, Option, None, Some, is_none, refl, sym, ap, ◌∙◌, arith, true≢false, eq-eqb}
use Rattle.std.proofs.Math.Bool.{and-false}
use Rattle.cil_rule_shifts.specs.Reach.{has_source, reaches, takes, IsFirstWord}
use Rattle.cil_rule_shifts.specs.declared.reach.Reach.{Reach}
use Rattle.cil_rule_shifts.specs.declared.targets.Targets.{Targets}
use Rattle.cil_rule_shifts.specs.declared.targets.Targets.TheVariants.{Nothing, Itself, These}

-- what has no first word holds nowhere
none-from : (test : ℕ → Bool) (found : Option ℕ) → is_none found ≡ true → IsFirstWord test 0 found → (t : ℕ) → test t ≡ false
none-from test None is none t = none t (omega arith)
none-from test (Some n) is first t = absurd (true≢false (sym is))

-- targets that one source hasn't no source has
no-target : {A : Type 0} (targets : Targets A) → ((t : ℕ) → takes targets 0 t ≡ false) → (s t : ℕ) → takes targets s t ≡ false
unfolding takes
no-target Nothing none s t = refl
no-target Itself none s t = absurd (true≢false (sym (eq-eqb 0 0 refl) ∙ none 0))
no-target (These types) none s t = none t

module _ {A : Type 0} (reach : Reach A) where
  pub idle-sources : (found : Option ℕ) → is_none found ≡ true → IsFirstWord (has_source reach) 0 found → (s t : ℕ) → reaches reach s t ≡ false
  idle-sources found is none s t = ap (λ b. b && takes reach.targets s t) (none-from (has_source reach) found is none s)

  pub idle-targets : (found : Option ℕ) → is_none found ≡ true → IsFirstWord (takes reach.targets 0) 0 found → (s t : ℕ) → reaches reach s t ≡ false
  idle-targets found is none s t = ap (λ b. has_source reach s && b) (no-target reach.targets (none-from (takes reach.targets 0) found is none) s t) ∙ and-false (has_source reach s)
