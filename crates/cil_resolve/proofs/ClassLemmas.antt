-- Classes of a policy without faults: each full name tells its class, and so its permissions.
use Rattle.cil_resolve.proofs.Common.{◌≡◌, ◌∙◌, ℕ, Bool, true, false, ◌&&◌, ◌||◌, List, [], ◌∷◌, Contains, Option, Some, is_some, bytes_eq, refl, sym, ap, subst, true≢false, arith, same-bool, bytes_eq-refl, bytes_eq-Decides, if◌then◌else◌, list_any, inl, inr, Placed, classes, scopes, declared_in, declared_name, word_text, is_word, same_namespace, is_same, is_class, class_as, classes_of, distinct, permissions_of, has_name, meaning_of, both_true, first_true, second_true, flat-contains, passes-among, contains-cases, contains-middle, IsFaultOf, IsFaultless, class_if}
use Rattle.cil_specs.specs.Meaning.{has_permission}
use Rattle.cil_specs.specs.Rule.{ClassOf}
use Rattle.cil_specs.proofs.DeclaredLemmas.{declared-once}
use Rattle.cil_specs.proofs.OnceLemmas.{IsOnce}
use Rattle.cil_bind.specs.Written.{HaveOneNames}
use Rattle.cil_check.proofs.DeclaredLemmas.{alike}
use Rattle.cil_resolve.proofs.ConsistentLemmas.{class-declared}
use Rattle.cil_resolve.proofs.ListLemmas.{any-of-flat, one-passes}

no-scopes : classes ≡ scopes → ⊥
no-scopes e = cc

faultless-once : (policy : List Placed) → IsFaultless policy → IsOnce policy
faultless-once policy faultless fault is = faultless.none fault (subst (λ kind. IsFaultOf kind policy fault) (sym (ap (λ f. f.kind) is.is_at)) is)

module _ (policy : List Placed) (faultless : IsFaultless policy) (spelt : HaveOneNames policy) where
  -- of one full name, the second declares what the first does
  same-class : (s t : Placed) → Contains policy s → Contains policy t → is_some (declared_in classes s.form) ≡ true → is_some (declared_in classes t.form) ≡ true
      → declared_name classes s ≡ declared_name classes t → is_same classes s t ≡ true
  same-class = alike classes policy spelt (λ s there. (spelt s there).declared_class)

  -- so it is the same
  one-class : (s t : Placed) → Contains policy s → Contains policy t → is_some (declared_in classes s.form) ≡ true → is_some (declared_in classes t.form) ≡ true
      → declared_name classes s ≡ declared_name classes t → s ≡ t
  one-class s t there too declares also same =
      one-passes (is_same classes s) policy s t (declared-once policy (faultless-once policy faultless) classes no-scopes s.namespace (word_text (declared_in classes s.form)))
      there (same-class s s there there declares declares refl) too (same-class s t there too declares also same)

  -- The permissions of a class's full name are those of the class.
  pub class-permission : (t : Placed) → Contains policy t → is_class t.form ≡ true → (q : List ℕ)
      → has_permission (meaning_of policy []) (declared_name classes t) q ≡ has_name (distinct (permissions_of policy t)) q
  class-permission t there is q = same-bool (list_any passes (classes_of policy)) (has_name (distinct (permissions_of policy t)) q) to from
    where
      passes : ClassOf → Bool
      passes d = bytes_eq (declared_name classes t) d.name && list_any (bytes_eq q) d.permissions

      from : has_name (distinct (permissions_of policy t)) q ≡ true → list_any passes (classes_of policy) ≡ true
      from has =
          any-of-flat passes (class_if policy) policy t there
          (ap (λ b. list_any passes (if b then class_as policy t ∷ [] else [])) is
          ∙ ap (λ b. b || false) (both_true (bytes_eq (declared_name classes t) (declared_name classes t)) (has_name (distinct (permissions_of policy t)) q) (bytes_eq-refl (declared_name classes t)) has))

      of-class : (u : Placed) → Contains policy u → (b : Bool) → is_class u.form ≡ b → (d : ClassOf) → Contains (if b then class_as policy u ∷ [] else []) d → passes d ≡ true → has_name (distinct (permissions_of policy t)) q ≡ true
      of-class u too false none d c e = absurd (omega (arith, c.1))
      of-class u too true a d c e = elim (contains-cases (class_as policy u) [] d c) [
        | inl same ↦
            let here = ap passes same ∙ e in
            let named = (bytes_eq-Decides (declared_name classes t) (declared_name classes u)).0 (first_true (bytes_eq (declared_name classes t) (declared_name classes u)) (has_name (distinct (permissions_of policy u)) q) here) in
            let one = one-class t u there too (class-declared t.form ∙ is) (class-declared u.form ∙ a) named in
            subst (λ v. has_name (distinct (permissions_of policy v)) q ≡ true) (sym one)
            (second_true (bytes_eq (declared_name classes t) (declared_name classes u)) (has_name (distinct (permissions_of policy u)) q) here)
        | inr none ↦ absurd (omega (arith, none.1))
      ]

      to : list_any passes (classes_of policy) ≡ true → has_name (distinct (permissions_of policy t)) q ≡ true
      to any =
          let one = passes-among passes (classes_of policy) any in
          let (u, too, c) = flat-contains (class_if policy) policy one.x (subst (λ l. Contains l one.x) (sym one.split) (contains-middle one.before one.x one.after)) in
          of-class u too (is_class u.form) refl one.x c one.passes
