-- The names of the accesses that the rules of a policy give are the policy's.
use Rattle.cil_rules.proofs.Common.{◌≡◌, ℕ, ◌<◌, ◌==◌, ◌&&◌, Bool, List, [], ◌∷◌, length, bytes_eq, nat_lt, sym, subst, inl, inr, IsTrue, list_all, list_any, and_parts, eqb-true, ltb-true, kind_index, same-kind, AnyByRecursion, any_from_counted, any_from_map, any_from_test, rule_kind_of, AccessNumbers, IsWithin, atom_at, name_at}
use Rattle.std.specs.Cmp.Lexicographic.{bytes_decides}
use Rattle.cil_specs.specs.Rule as spec
use Rattle.cil_specs.specs.Expr.{Expr, holds_by}
use Rattle.cil_specs.specs.Meaning.{aims, class_permits, covers, gives, has_permission, holds, is_in_table, keeps_type, permissions_permit}
use Rattle.cil_resolve.specs.Below.{is_class_below, is_name_below}
use Rattle.cil_resolve.specs.Numbers.{class_of, declared_of, rule_of}
use Rattle.cil_resolve.specs.Resolved.{meaning_in}
use Rattle.cil_resolve.specs.declared.numbered.NumberedClass.{NumberedClass}
use Rattle.cil_resolve.specs.declared.numbered.NumberedName.{NumberedName}
use Rattle.cil_resolve.specs.declared.numbered.NumberedRule.{NumberedRule}
use Rattle.cil_resolve.specs.declared.resolved.Resolved.{Resolved}

-- a number of a name
abbrev pub IsNamed : List (List ℕ) → List ℕ → Type 0
IsNamed names name = (i : ℕ) × (i < length names) × (name_at names i ≡ name)

-- an access by numbers
abbrev pub IsNumbered : List (List ℕ) → spec.Atom → Type 0
IsNumbered names a = (n : AccessNumbers) × IsWithin (length names) n × (atom_at names n ≡ a)

-- one of some numbers has the name
number-named : (names : List (List ℕ)) (name : List ℕ) (ps : List ℕ) → IsTrue (list_all (λ p. nat_lt p (length names)) ps) → AnyByRecursion (λ p. IsTrue (bytes_eq name (name_at names p))) ps → IsNamed names name
number-named names name [] below none = absurd none
number-named names name (p ∷ ps) below (inl is) = (p, ltb-true p (length names) (and_parts (nat_lt p (length names)) _ below).0, sym ((bytes_decides name (name_at names p)).0 is))
number-named names name (p ∷ ps) below (inr later) = number-named names name ps (and_parts (nat_lt p (length names)) _ below).1 later

-- so has a type of the policy
type-named : (modules names : List (List ℕ)) (name : List ℕ) (ds : List NumberedName) → IsTrue (list_all (is_name_below (length names)) ds) → AnyByRecursion (λ d. IsTrue (bytes_eq name (declared_of modules names d).name)) ds
    → IsNamed names name
type-named modules names name [] below none = absurd none
type-named modules names name (d ∷ ds) below (inl is) = (d.name, ltb-true d.name (length names) (and_parts (is_name_below (length names) d) _ below).0, sym ((bytes_decides name (name_at names d.name)).0 is))
type-named modules names name (d ∷ ds) below (inr later) = type-named modules names name ds (and_parts (is_name_below (length names) d) _ below).1 later

module _ {A : Type 0} (r : Resolved A) where
  abbrev names : List (List ℕ)
  names = r.names.items

  kept-named : (t : List ℕ) → IsTrue (keeps_type (meaning_in r) t) → IsNamed names t
  kept-named t kept =
      type-named r.modules.items names t r.types.items r.types_within
      (any_from_map (declared_of r.modules.items names) (λ d. IsTrue (bytes_eq t d.name)) r.types.items (any_from_test (λ d. bytes_eq t d.name) (meaning_in r).types kept))

  held-named : (element : spec.Element) (t : List ℕ) → IsTrue (holds (meaning_in r) element t) → IsNamed names t
  held-named element t held = kept-named t (and_parts (keeps_type (meaning_in r) t) _ held).0

  aimed-named : (target : spec.ResolvedTarget) (s t : List ℕ) → IsNamed names s → IsTrue (aims (meaning_in r) target s t) → IsNamed names t
  aimed-named spec.at_itself s t source aimed = subst (IsNamed names) ((bytes_decides s t).0 aimed) source
  aimed-named (spec.at_element element) s t source aimed = held-named element t aimed

  -- so have a permission of a class and the class
  listed-named : (classes : List (NumberedClass A)) (c p : List ℕ) → IsTrue (list_all (is_class_below (length names)) classes)
      → AnyByRecursion (λ d. IsTrue (bytes_eq c (class_of r.modules.items names d).name && list_any (bytes_eq p) (class_of r.modules.items names d).permissions)) classes → IsNamed names c × IsNamed names p
  listed-named [] c p below none = absurd none
  listed-named (d ∷ classes) c p below (inl is) =
      let low = and_parts (nat_lt d.name (length names)) _ (and_parts (is_class_below (length names) d) _ below).0 in
      let has = and_parts (bytes_eq c (name_at names d.name)) (list_any (bytes_eq p) (class_of r.modules.items names d).permissions) is in (
        (d.name, ltb-true d.name (length names) low.0, sym ((bytes_decides c (name_at names d.name)).0 has.0)),
        number-named names p d.permissions.items low.1
            (any_from_map (name_at names) (λ q. IsTrue (bytes_eq p q)) d.permissions.items (any_from_test (bytes_eq p) (class_of r.modules.items names d).permissions has.1)),
      )
  listed-named (d ∷ classes) c p below (inr later) = listed-named classes c p (and_parts (is_class_below (length names) d) _ below).1 later

  had-named : (c p : List ℕ) → IsTrue (has_permission (meaning_in r) c p) → IsNamed names c × IsNamed names p
  had-named c p has =
      listed-named r.classes.items c p r.classes_within
      (any_from_map (class_of r.modules.items names) (λ d. IsTrue (bytes_eq c d.name && list_any (bytes_eq p) d.permissions)) r.classes.items
      (any_from_test (λ d. bytes_eq c d.name && list_any (bytes_eq p) d.permissions) (meaning_in r).classes has))

  -- what permissions give, a class has
  class-had : (the_class : List ℕ) (permissions : Expr (List ℕ)) (c p : List ℕ) → IsTrue (class_permits (meaning_in r) the_class permissions c p) → IsTrue (has_permission (meaning_in r) c p)
  class-had the_class permissions c p given =
      (and_parts (has_permission (meaning_in r) c p) (holds_by (bytes_eq p) permissions)
      (and_parts (bytes_eq the_class c) (has_permission (meaning_in r) c p && holds_by (bytes_eq p) permissions) given).1).0

  permitted-had : (permissions : spec.ResolvedPermissions) (c p : List ℕ) → IsTrue (permissions_permit (meaning_in r) permissions c p) → IsTrue (has_permission (meaning_in r) c p)
  permitted-had (spec.of_class the_class permissions) c p given = class-had the_class permissions c p given
  permitted-had (spec.of_set set) c p given = by (meaning_in r).permission_sets (any_from_test (λ s. bytes_eq set s.set && class_permits (meaning_in r) s.the_class s.permissions c p) (meaning_in r).permission_sets given)
    where
      by : (statements : List spec.PermissionSetStatement) → AnyByRecursion (λ s. IsTrue (bytes_eq set s.set && class_permits (meaning_in r) s.the_class s.permissions c p)) statements → IsTrue (has_permission (meaning_in r) c p)
      by [] none = absurd none
      by (s ∷ statements) (inl is) = class-had s.the_class s.permissions c p (and_parts (bytes_eq set s.set) (class_permits (meaning_in r) s.the_class s.permissions c p) is).1
      by (s ∷ statements) (inr later) = by statements later

  -- what a rule gives has numbers
  given-numbered : (rule : NumberedRule A) (a : spec.Atom) → IsTrue (gives (meaning_in r) (rule_of r.modules.items names rule) a) → IsNumbered names a
  given-numbered rule a given =
      let named : spec.Rule = rule_of r.modules.items names rule in
      let kinds = and_parts (kind_index named.kind == kind_index a.kind) (covers (meaning_in r) named a.source a.target a.the_class a.permission) given in
      let sources = and_parts (holds (meaning_in r) named.source a.source) _ kinds.1 in
      let targets = and_parts (aims (meaning_in r) named.target a.source a.target) _ sources.1 in
      let had : IsTrue (has_permission (meaning_in r) a.the_class a.permission) = permitted-had named.permissions a.the_class a.permission targets.1 in
      let kind : rule_kind_of rule.kind ≡ a.kind = same-kind (rule_kind_of rule.kind) a.kind (eqb-true _ _ kinds.0) in
      let source : IsNamed names a.source = held-named named.source a.source sources.0 in
      let target : IsNamed names a.target = aimed-named named.target a.source a.target source targets.0 in
      let (the_class, permission) = had-named a.the_class a.permission had in (
        record { kind = rule.kind; source = source.0; target = target.0; class = the_class.0; permission = permission.0 },
        record { source = source.1; target = target.1; the_class = the_class.1; permission = permission.1 },
        λ i. record { kind = kind i; source = source.2 i; target = target.2 i; the_class = the_class.2 i; permission = permission.2 i },
      )

  one-numbered : (rules : List (NumberedRule A)) (a : spec.Atom) → AnyByRecursion (λ rule. IsTrue (gives (meaning_in r) (rule_of r.modules.items names rule) a)) rules → IsNumbered names a
  one-numbered [] a none = absurd none
  one-numbered (rule ∷ rules) a (inl given) = given-numbered rule a given
  one-numbered (rule ∷ rules) a (inr later) = one-numbered rules a later

  -- so has each access of the table
  pub table-numbered : (a : spec.Atom) → IsTrue (is_in_table (meaning_in r) a) → IsNumbered names a
  table-numbered a there =
      one-numbered r.rules.items a
      (any_from_map (rule_of r.modules.items names) (λ rule. IsTrue (gives (meaning_in r) rule a)) r.rules.items (any_from_counted (λ rule. gives (meaning_in r) rule a) (meaning_in r).rules there))
