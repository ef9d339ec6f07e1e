-- What the counters of a policy tell by full names.
use Rattle.cil_counters.proofs.Common.{◌≡◌, ℕ, ◌+◌, ◌<◌, ◌==◌, ◌&&◌, ◌||◌, Bool, true, false, List, [], ◌∷◌, length, map, cond, count_by, bytes_eq, nat_lt, slice_index_or, Option, None, Some, position, refl, sym, ap, ◌∙◌, inl, inr, true≢false, zero-add, list_all, list_any, cases_Bool, lt-ltb, ltb-true, list_any_at, sum_by-cons, get_or_from_slice_get, slice_get_within, bytes_eq-Decides, AreTheSame, has_name, aims, count_of, keeps_type, is_member, keeps_attribute, HasSoundSets, kind_index, at_itself, at_element, rule_kind_of, RuleKind, SymbolKey, is_rule_below, meaning_in, name_in, sets_in, Resolved, found-name, symbol-of, atom_of, is_named, name_at, and-first, and-second, atom_with, count_at, has_at, IsCounted}
use Rattle.std.proofs.Math.Bool.{and-false}
use Rattle.cil_specs.specs.Expr.{Expr, holds_by}
use Rattle.cil_specs.specs.Meaning.{class_permits, gives, has_permission, holds, permissions_permit, permits, Meaning}
use Rattle.cil_specs.specs.Rule as spec
use Rattle.cil_resolve.specs.Below.{is_class_below}
use Rattle.cil_resolve.specs.Numbers.{class_of, rule_of}
use Rattle.cil_resolve.specs.declared.numbered.NumberedClass.{NumberedClass}
use Rattle.cil_resolve.specs.declared.numbered.NumberedRule.{NumberedRule}
use Rattle.cil_member_updates.proofs.PlaceLemmas.{member-kept}
use Rattle.cil_counters.proofs.CountedLemmas.{members-counted}
use Rattle.cil_counters.proofs.SymbolRankLemmas.{stands-nowhere}

left-false : (a b : Bool) → a ≡ false → (a && b) ≡ false
left-false a b none = ap (λ x. x && b) none

right-false : (a b : Bool) → b ≡ false → (a && b) ≡ false
right-false a b none = ap (λ x. a && x) none ∙ and-false a

permits-false : (kind source target permits : Bool) → permits ≡ false → (kind && (source && (target && permits))) ≡ false
permits-false kind source target permits none = right-false kind (source && (target && permits)) (right-false source (target && permits) (right-false target permits none))

-- what no class has no permissions give
none-permitted : (meaning : Meaning) (permissions : spec.ResolvedPermissions) (class permission : List ℕ) → has_permission meaning class permission ≡ false → permissions_permit meaning permissions class permission ≡ false
none-permitted meaning permissions class permission none = by permissions
  where
    of-class : (the_class : List ℕ) (expr : Expr (List ℕ)) → class_permits meaning the_class expr class permission ≡ false
    of-class the_class expr =
        right-false (bytes_eq the_class class) (has_permission meaning class permission && holds_by (bytes_eq permission) expr)
        (left-false (has_permission meaning class permission) (holds_by (bytes_eq permission) expr) none)

    of-sets : (set : List ℕ) (statements : List spec.PermissionSetStatement) → list_any (λ s. bytes_eq set s.set && class_permits meaning s.the_class s.permissions class permission) statements ≡ false
    of-sets set [] = refl
    of-sets set (s ∷ statements) =
        ap (λ b. b || list_any (λ z. bytes_eq set z.set && class_permits meaning z.the_class z.permissions class permission) statements)
        (right-false (bytes_eq set s.set) (class_permits meaning s.the_class s.permissions class permission) (of-class s.the_class s.permissions))
        ∙ of-sets set statements

    by : (given : spec.ResolvedPermissions) → permissions_permit meaning given class permission ≡ false
    by (spec.of_class the_class expr) = of-class the_class expr
    by (spec.of_set set) = of-sets set meaning.permission_sets

-- symbols within the names are those of names
pub all-named : (names : List (List ℕ)) (key : SymbolKey) (t : ℕ) → key.source < length names → t < length names → key.class < length names → key.permission < length names → is_named names key t ≡ true
all-named names key t source target class permission =
    ap (λ b. (b && nat_lt t (length names)) && (nat_lt key.class (length names) && nat_lt key.permission (length names))) (lt-ltb key.source (length names) source)
    ∙ ap (λ b. b && (nat_lt key.class (length names) && nat_lt key.permission (length names))) (lt-ltb t (length names) target)
    ∙ ap (λ b. b && nat_lt key.permission (length names)) (lt-ltb key.class (length names) class) ∙ lt-ltb key.permission (length names) permission

module _ {A : Type 0} (names : List (List ℕ)) (r : Resolved A) (members : ℕ → ℕ → ℕ) (counts : SymbolKey → ℕ → ℕ) (is : IsCounted names r members counts) where
  abbrev IsMissing : List ℕ → Type 0
  IsMissing name = position (bytes_eq name) names ≡ None

  -- a name of the policy isn't missing
  not-missing : (name : List ℕ) → has_name r.names.items name ≡ true → IsMissing name → ⊥
  not-missing name known missing =
      let (k, at) = symbol-of names is.symbols r.names.items is.numbers name known in
      stands-nowhere names k name missing at

  named-at : (name : List ℕ) (i : ℕ) → position (bytes_eq name) names ≡ Some i → name_at names i ≡ name
  named-at name i at = get_or_from_slice_get names i name [] (found-name names name i at)

  named-within : (name : List ℕ) (i : ℕ) → position (bytes_eq name) names ≡ Some i → i < length names
  named-within name i at = slice_get_within names i name (found-name names name i at)

  module _ (types : (name : List ℕ) → keeps_type (meaning_in r) name ≡ true → has_name r.names.items name ≡ true) where
    -- a missing name is that of no type
    no-type-named : (name : List ℕ) → IsMissing name → keeps_type (meaning_in r) name ≡ false
    no-type-named name missing =
        elim (cases_Bool (keeps_type (meaning_in r) name)) [
          | inl kept ↦ absurd (not-missing name (types name kept) missing)
          | inr not ↦ not
        ]

    module _ (sound : HasSoundSets (meaning_in r)) (same : AreTheSame (meaning_in r).sets (sets_in r)) (attributes : (name : List ℕ) → keeps_attribute (meaning_in r) name ≡ true → has_name r.names.items name ≡ true) where
      pub told-members : (attribute ty : List ℕ) → has_at members (position (bytes_eq attribute) names) (position (bytes_eq ty) names) ≡ is_member (meaning_in r) attribute ty
      told-members attribute ty = by (position (bytes_eq attribute) names) (position (bytes_eq ty) names) refl refl
        where
          never : (is_member (meaning_in r) attribute ty ≡ true → ⊥) → false ≡ is_member (meaning_in r) attribute ty
          never not = elim (cases_Bool (is_member (meaning_in r) attribute ty)) [
            | inl held ↦ absurd (not held)
            | inr other ↦ sym other
          ]

          by : (p q : Option ℕ) → position (bytes_eq attribute) names ≡ p → position (bytes_eq ty) names ≡ q → has_at members p q ≡ is_member (meaning_in r) attribute ty
          by None q at there = never (λ held. not-missing attribute (attributes attribute (member-kept (meaning_in r) sound attribute ty held).1) at)
          by (Some i) None at there = never (λ held. not-missing ty (types ty (member-kept (meaning_in r) sound attribute ty held).0) there)
          by (Some i) (Some j) at there =
              (members-counted names r sound same members is.are_members).are i j (named-within attribute i at) (named-within ty j there)
              ∙ ap (λ a. is_member (meaning_in r) a (name_at names j)) (named-at attribute i at) ∙ ap (is_member (meaning_in r) attribute) (named-at ty j there)

    none-held : (element : spec.Element) (name : List ℕ) → IsMissing name → holds (meaning_in r) element name ≡ false
    none-held element name missing = left-false (keeps_type (meaning_in r) name) _ (no-type-named name missing)

    none-aimed : (i : ℕ) (source target : List ℕ) → position (bytes_eq source) names ≡ Some i → IsMissing target → (aim : spec.ResolvedTarget) → aims (meaning_in r) aim source target ≡ false
    none-aimed i source target at missing at_itself =
        elim (cases_Bool (bytes_eq source target)) [
          | inl same ↦ absurd (some-none (sym at ∙ ap (λ name. position (bytes_eq name) names) ((bytes_eq-Decides source target).0 same) ∙ missing))
          | inr other ↦ other
        ]
      where
        some-none : Some i ≡ None → ⊥
        some-none e = cc
    none-aimed i source target at missing (at_element element) = none-held element target missing

    module _ (below : list_all (is_rule_below (length r.names.items)) r.rules.items ≡ true) where
      told-none : (a : spec.Atom) → ((rule : NumberedRule A) → is_rule_below (length r.names.items) rule ≡ true → gives (meaning_in r) (rule_of r.modules.items r.names.items rule) a ≡ false) → 0 ≡ count_of (meaning_in r) a
      told-none a none = sym (by r.rules.items below)
        where
          by : (rules : List (NumberedRule A)) → list_all (is_rule_below (length r.names.items)) rules ≡ true → count_by (λ rule. gives (meaning_in r) rule a) (map (rule_of r.modules.items r.names.items) rules) ≡ 0
          by [] low = refl
          by (rule ∷ rules) low =
              sum_by-cons (λ y. cond (gives (meaning_in r) y a) 1 0) (rule_of r.modules.items r.names.items rule) (map (rule_of r.modules.items r.names.items) rules)
              ∙ ap (λ b. cond b 1 0 + count_by (λ one. gives (meaning_in r) one a) (map (rule_of r.modules.items r.names.items) rules)) (none rule (and-first _ _ low))
              ∙ zero-add (count_by (λ one. gives (meaning_in r) one a) (map (rule_of r.modules.items r.names.items) rules)) ∙ by rules (and-second _ _ low)

      other-name : (n : ℕ) (name : List ℕ) → n < length r.names.items → IsMissing name → bytes_eq (name_in r n) name ≡ false
      other-name n name low missing =
          elim (cases_Bool (bytes_eq (name_in r n) name)) [
            | inl same ↦ absurd (not-missing name (list_any_at (bytes_eq name) r.names.items n [] low ((bytes_eq-Decides name (name_in r n)).1 (sym ((bytes_eq-Decides (name_in r n) name).0 same)))) missing)
            | inr other ↦ other
          ]

      turned : (xs ys : List ℕ) → bytes_eq xs ys ≡ false → bytes_eq ys xs ≡ false
      turned xs ys other =
          elim (cases_Bool (bytes_eq ys xs)) [
            | inl same ↦ absurd (true≢false (sym ((bytes_eq-Decides xs ys).1 (sym ((bytes_eq-Decides ys xs).0 same))) ∙ other))
            | inr not ↦ not
          ]

      none-listed : (name : List ℕ) (ps : List ℕ) → list_all (λ p. nat_lt p (length r.names.items)) ps ≡ true → IsMissing name → list_any (bytes_eq name) (map (λ p. slice_index_or r.names.items p []) ps) ≡ false
      none-listed name [] low missing = refl
      none-listed name (p ∷ ps) low missing =
          ap (λ b. b || list_any (bytes_eq name) (map (λ q. slice_index_or r.names.items q []) ps)) (turned (name_in r p) name (other-name p name (ltb-true p (length r.names.items) (and-first _ _ low)) missing))
          ∙ none-listed name ps (and-second _ _ low) missing

      -- no class has a permission that each of those of the policy has not
      none-has : (class permission : List ℕ)
          → ((c : NumberedClass A) → is_class_below (length r.names.items) c ≡ true
          → (bytes_eq class (class_of r.modules.items r.names.items c).name && list_any (bytes_eq permission) (class_of r.modules.items r.names.items c).permissions) ≡ false)
          → has_permission (meaning_in r) class permission ≡ false
      none-has class permission none = by r.classes.items r.classes_within
        where
          by : (classes : List (NumberedClass A)) → list_all (is_class_below (length r.names.items)) classes ≡ true
              → list_any (λ d. bytes_eq class d.name && list_any (bytes_eq permission) d.permissions) (map (class_of r.modules.items r.names.items) classes) ≡ false
          by [] low = refl
          by (c ∷ classes) low =
              ap (λ b. b || list_any (λ d. bytes_eq class d.name && list_any (bytes_eq permission) d.permissions) (map (class_of r.modules.items r.names.items) classes)) (none c (and-first _ _ low))
              ∙ by classes (and-second _ _ low)

      -- so none is missing, and none has a missing permission
      none-classed : (class permission : List ℕ) → IsMissing class → has_permission (meaning_in r) class permission ≡ false
      none-classed class permission missing =
          none-has class permission
          (λ c low. left-false (bytes_eq class (name_in r c.name)) _ (turned (name_in r c.name) class (other-name c.name class (ltb-true c.name (length r.names.items) (and-first _ _ low)) missing)))

      none-had : (class permission : List ℕ) → IsMissing permission → has_permission (meaning_in r) class permission ≡ false
      none-had class permission missing =
          none-has class permission (λ c low. right-false (bytes_eq class (name_in r c.name)) _ (none-listed permission c.permissions.items (and-second _ _ low) missing))

      told-by : (kind : RuleKind) (source target class permission : List ℕ) (p q s t : Option ℕ) → position (bytes_eq source) names ≡ p → position (bytes_eq target) names ≡ q → position (bytes_eq class) names ≡ s → position (bytes_eq permission) names ≡ t
          → count_at counts kind p q s t ≡ count_of (meaning_in r) (atom_with kind source target class permission)
      told-by kind source target class permission None q s t at_source at_target at_class at_permission = told-none (atom_with kind source target class permission) (λ rule low.
          right-false _ _ (left-false _ _ (none-held (rule_of r.modules.items r.names.items rule).source source at_source)))
      told-by kind source target class permission (Some i) None s t at_source at_target at_class at_permission = told-none (atom_with kind source target class permission) (λ rule low.
          right-false _ _ (right-false _ _ (left-false _ _ (none-aimed i source target at_source at_target (rule_of r.modules.items r.names.items rule).target))))
      told-by kind source target class permission (Some i) (Some j) None t at_source at_target at_class at_permission = told-none (atom_with kind source target class permission) (λ rule low.
          let whole = rule_of r.modules.items r.names.items rule in
          permits-false (kind_index whole.kind == kind_index (rule_kind_of kind)) (holds (meaning_in r) whole.source source) (aims (meaning_in r) whole.target source target) (permits (meaning_in r) whole class permission) (none-permitted (meaning_in r) whole.permissions class permission (none-classed class permission at_class)))
      told-by kind source target class permission (Some i) (Some j) (Some k) None at_source at_target at_class at_permission = told-none (atom_with kind source target class permission) (λ rule low.
          let whole = rule_of r.modules.items r.names.items rule in
          permits-false (kind_index whole.kind == kind_index (rule_kind_of kind)) (holds (meaning_in r) whole.source source) (aims (meaning_in r) whole.target source target) (permits (meaning_in r) whole class permission) (none-permitted (meaning_in r) whole.permissions class permission (none-had class permission at_permission)))
      told-by kind source target class permission (Some i) (Some j) (Some k) (Some l) at_source at_target at_class at_permission =
          is.are_counts (record { kind = kind; source = i; class = k; permission = l }) j
          ∙ ap (λ b. cond b (count_of (meaning_in r) (atom_of names (record { kind = kind; source = i; class = k; permission = l }) j)) 0)
          (all-named names (record { kind = kind; source = i; class = k; permission = l }) j (named-within source i at_source) (named-within target j at_target) (named-within class k at_class) (named-within permission l at_permission))
          ∙ ap (λ name. count_of (meaning_in r) (atom_with kind name (name_at names j) (name_at names k) (name_at names l))) (named-at source i at_source)
          ∙ ap (λ name. count_of (meaning_in r) (atom_with kind source name (name_at names k) (name_at names l))) (named-at target j at_target)
          ∙ ap (λ name. count_of (meaning_in r) (atom_with kind source target name (name_at names l))) (named-at class k at_class)
          ∙ ap (λ name. count_of (meaning_in r) (atom_with kind source target class name)) (named-at permission l at_permission)

      pub told-accesses : (kind : RuleKind) (source target class permission : List ℕ)
          → count_at counts kind (position (bytes_eq source) names) (position (bytes_eq target) names) (position (bytes_eq class) names) (position (bytes_eq permission) names) ≡ count_of (meaning_in r) (atom_with kind source target class permission)
      told-accesses kind source target class permission =
          told-by kind source target class permission (position (bytes_eq source) names) (position (bytes_eq target) names) (position (bytes_eq class) names) (position (bytes_eq permission) names) refl refl refl refl
