-- One edge more.
use Rattle.cil_dependence.proofs.Common.{◌≡◌, ◌⊎◌, ◌↔◌, inl, inr, ℕ, zero, suc, List, [], ◌∷◌, ◌++◌, set, Some, slice_get, Vec, Contains, refl, sym, ap, ◌∙◌, subst, arith, Contains-push, Contains-push_cases, Contains-append_left, none-some, same_Some, IsEdge}

-- the same of nodes behind a first
behind-more : {P Q R : Type 0} {a from : ℕ} → P ↔ (Q ⊎ ((a ≡ from) × R)) → P ↔ (Q ⊎ ((suc a ≡ suc from) × R))
behind-more (there, back) = (
  λ e. elim (there e) [ inl old ↦ inl old | inr (here, new) ↦ inr (ap suc here, new) ],
  λ o. elim o [ inl old ↦ back (inl old) | inr (here, new) ↦ back (inr (omega (arith, here), new)) ],
)

-- one edge more
pub edge-more : {A : Type 0} (graph : List (Vec ℕ A)) (from to : ℕ) (v w : Vec ℕ A) → slice_get graph from ≡ Some v → w.items ≡ v.items ++ to ∷ []
    → (a b : ℕ) → IsEdge (set graph from w) a b ↔ (IsEdge graph a b ⊎ ((a ≡ from) × (b ≡ to)))
edge-more [] from to v w at more a b = absurd (none-some v at)
edge-more {A} (x ∷ graph) zero to v w at more zero b = (there, back)
  where
    items : w.items ≡ x.items ++ to ∷ []
    items = more ∙ ap (λ (y : Vec ℕ A). y.items ++ to ∷ []) (sym (same_Some x v at))

    there : Contains w.items b → Contains x.items b ⊎ ((zero ≡ zero) × (b ≡ to))
    there c = elim (Contains-push_cases x.items to b (subst (λ l. Contains l b) items c)) [ inl old ↦ inl old | inr new ↦ inr (refl, sym new) ]

    back : Contains x.items b ⊎ ((zero ≡ zero) × (b ≡ to)) → Contains w.items b
    back (inl old) = subst (λ l. Contains l b) (sym items) (Contains-append_left x.items (to ∷ []) b old)
    back (inr (here, new)) = subst (λ l. Contains l b) (sym items) (subst (Contains (x.items ++ to ∷ [])) (sym new) (Contains-push x.items to))
edge-more (x ∷ graph) zero to v w at more (suc a) b = (λ e. inl e, λ o. elim o [ inl e ↦ e | inr new ↦ absurd (omega (arith, new.0)) ])
edge-more (x ∷ graph) (suc from) to v w at more zero b = (λ e. inl e, λ o. elim o [ inl e ↦ e | inr new ↦ absurd (omega (arith, new.0)) ])
edge-more (x ∷ graph) (suc from) to v w at more (suc a) b = behind-more (edge-more graph from to v w at more a b)
