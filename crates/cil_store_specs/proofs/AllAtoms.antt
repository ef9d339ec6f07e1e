-- The accesses of a policy can be listed.
use Rattle.cil_store_specs.proofs.Common.{◌≡◌, ◌⊎◌, ◌==◌, ◌&&◌, inl, inr, ℕ, cond, Bool, true, false, List, [], ◌∷◌, filter, map, flat_map, bytes_eq, Contains, refl, sym, ap, ◌∙◌, subst, true≢false, arith, IsTotalOrder, list_any, IsStrictlySortedBy, is_lt, Ordering, Less, Equal, Greater, cases_Bool, eqb-true, CmpEqualImpliesEq, bytes_eq-Decides, Meaning, keeps_type, holds, aims, gives, is_in_table, AreAtoms, atom_cmp, contains-filtered, contains-left, contains-right, contains-append_cases, contains-cases, contains-first, contains-map, first_true, second_true, keep, skip, reversed, put_by}
use Rattle.cil_specs.specs.Expr.{Expr}
use Rattle.cil_specs.specs.Meaning.{class_permits, has_permission, permissions_permit}
use Rattle.cil_specs.specs.Rule.{Rule, Atom, Element, ResolvedPermissions, of_class, of_set, ResolvedTarget, at_itself, at_element, kind_index}
use Rattle.cil_specs.proofs.MeansLemmas.{contains-flat}
use Rattle.cil_specs.proofs.OnceLemmas.{PassesAmong, passes-among}
use Rattle.cil_specs.proofs.ReportLemmas.{atom_exact, atom_total, same-kind}
use Rattle.cil_specs.proofs.ReportLemmasMembers.{any_from_counted, test_from_any}
use Rattle.cil_store_specs.proofs.PutLemmas.{put-ordered}

-- ---- the elements of a list that pass a test, in order

module _ {X : Type 0} (cmp : X → X → Ordering) (order : IsTotalOrder cmp) (exact : CmpEqualImpliesEq cmp) where
  in-filter : (p : X → Bool) (xs : List X) (y : X) → Contains xs y → p y ≡ true → Contains (filter p xs) y
  in-filter p [] y has is = has
  in-filter p (x ∷ xs) y has is =
      elim (cases_Bool (p x)) [
        | inl kept ↦ subst (λ l. Contains l y) (sym (keep cmp order p x xs kept)) (elim (contains-cases x xs y has) [
          | inl same ↦ subst (Contains (x ∷ filter p xs)) same (contains-first x (filter p xs))
          | inr more ↦ contains-right (x ∷ []) (filter p xs) y (in-filter p xs y more is)
        ])
        | inr left ↦ subst (λ l. Contains l y) (sym (skip cmp order p x xs left)) (elim (contains-cases x xs y has) [
          | inl same ↦ absurd (true≢false (sym (subst (λ z. p z ≡ true) (sym same) is) ∙ left))
          | inr more ↦ in-filter p xs y more is
        ])
      ]

  abbrev before : X → X → Bool
  before x o = is_lt (cmp o x)

  abbrev behind : X → X → Bool
  behind x o = is_lt (cmp x o)

  in-put : (x : X) (xs : List X) (y : X) → Contains xs y → Contains (put_by cmp x xs) y
  in-put x xs y has = by (cmp y x) refl
    where
      by : (o : Ordering) → cmp y x ≡ o → Contains (put_by cmp x xs) y
      by Less is = contains-left (filter (before x) xs) (x ∷ filter (behind x) xs) y (in-filter (before x) xs y has (ap is_lt is))
      by Equal is = contains-right (filter (before x) xs) (x ∷ filter (behind x) xs) y (subst (Contains (x ∷ filter (behind x) xs)) (sym (exact y x is)) (contains-first x (filter (behind x) xs)))
      by Greater is =
          contains-right (filter (before x) xs) (x ∷ filter (behind x) xs) y
          (contains-right (x ∷ []) (filter (behind x) xs) y (in-filter (behind x) xs y has (ap is_lt (reversed cmp order y x Greater is))))

  put-first : (x : X) (xs : List X) → Contains (put_by cmp x xs) x
  put-first x xs = contains-right (filter (before x) xs) (x ∷ filter (behind x) xs) x (contains-first x (filter (behind x) xs))

  put-has : (x : X) (xs : List X) (y : X) → Contains (put_by cmp x xs) y → (x ≡ y) ⊎ Contains xs y
  put-has x xs y has =
      elim (contains-append_cases (filter (before x) xs) (x ∷ filter (behind x) xs) y has) [
        | inl left ↦ inr (contains-filtered (before x) xs y left)
        | inr right ↦ elim (contains-cases x (filter (behind x) xs) y right) [
          | inl same ↦ inl same
          | inr more ↦ inr (contains-filtered (behind x) xs y more)
        ]
      ]

  module _ (test : X → Bool) where
    abbrev pub listed : List X → List X
    listed [] = []
    listed (x ∷ xs) = cond (test x) (put_by cmp x (listed xs)) (listed xs)

    pub listed-ordered : (xs : List X) → IsStrictlySortedBy cmp (listed xs)
    unfolding IsStrictlySortedBy
    listed-ordered [] = tt
    listed-ordered (x ∷ xs) = by (test x) (listed-ordered xs)
      where
        by : (b : Bool) → IsStrictlySortedBy cmp (listed xs) → IsStrictlySortedBy cmp (cond b (put_by cmp x (listed xs)) (listed xs))
        by true rest = put-ordered cmp order x (listed xs) rest
        by false rest = rest

    pub listed-has : (xs : List X) (y : X) → Contains xs y → test y ≡ true → Contains (listed xs) y
    listed-has [] y has is = has
    listed-has (x ∷ xs) y has is = by (test x) refl (λ more. listed-has xs y more is)
      where
        by : (b : Bool) → test x ≡ b → (Contains xs y → Contains (listed xs) y) → Contains (cond b (put_by cmp x (listed xs)) (listed xs)) y
        by true passes rest = elim (contains-cases x xs y has) [
          | inl same ↦ subst (Contains (put_by cmp x (listed xs))) same (put-first x (listed xs))
          | inr more ↦ in-put x (listed xs) y (rest more)
        ]
        by false fails rest = elim (contains-cases x xs y has) [
          | inl same ↦ absurd (true≢false (sym (subst (λ z. test z ≡ true) (sym same) is) ∙ fails))
          | inr more ↦ rest more
        ]

    pub listed-passes : (xs : List X) (y : X) → Contains (listed xs) y → test y ≡ true
    listed-passes [] y has = absurd (omega (arith, has.1))
    listed-passes (x ∷ xs) y has = by (test x) refl (listed-passes xs y) has
      where
        by : (b : Bool) → test x ≡ b → (Contains (listed xs) y → test y ≡ true) → Contains (cond b (put_by cmp x (listed xs)) (listed xs)) y → test y ≡ true
        by true passes rest c = elim (put-has x (listed xs) y c) [
          | inl same ↦ subst (λ z. test z ≡ true) same passes
          | inr more ↦ rest more
        ]
        by false fails rest c = rest c

-- ---- the accesses that rules may give

passing : {X : Type 0} (p : X → Bool) (xs : List X) → list_any p xs ≡ true → (x : X) × Contains xs x × (p x ≡ true)
passing p xs some =
    let among : PassesAmong p xs = passes-among p xs some in
    (among.x, subst (λ l. Contains l among.x) (sym among.split) (contains-right among.before (among.x ∷ among.after) among.x (contains-first among.x among.after)), among.passes)

-- the names of the types
abbrev type_names : Meaning → List (List ℕ)
type_names meaning = map (λ d. d.name) meaning.types

type-named : (meaning : Meaning) (t : List ℕ) → keeps_type meaning t ≡ true → Contains (type_names meaning) t
type-named meaning t kept =
    let (d, has, is) = passing (λ d. bytes_eq t d.name) meaning.types kept in
    subst (Contains (type_names meaning)) (sym ((bytes_eq-Decides t d.name).0 is)) (contains-map (λ d. d.name) meaning.types d has)

source-named : (meaning : Meaning) (element : Element) (t : List ℕ) → holds meaning element t ≡ true → Contains (type_names meaning) t
source-named meaning element t held = type-named meaning t (first_true (keeps_type meaning t) _ held)

target-named : (meaning : Meaning) (target : ResolvedTarget) (s t : List ℕ) → Contains (type_names meaning) s → aims meaning target s t ≡ true → Contains (type_names meaning) t
target-named meaning at_itself s t source aimed = subst (Contains (type_names meaning)) ((bytes_eq-Decides s t).0 aimed) source
target-named meaning (at_element element) s t source aimed = source-named meaning element t aimed

-- the names of the permissions, those of all classes
abbrev permission_names : Meaning → List (List ℕ)
permission_names meaning = flat_map (λ d. d.permissions) meaning.classes

-- what a class has is one of them
permission-named : (meaning : Meaning) (c p : List ℕ) → has_permission meaning c p ≡ true → Contains (permission_names meaning) p
permission-named meaning c p has =
    let (d, there, both) = passing (λ d. bytes_eq c d.name && list_any (bytes_eq p) d.permissions) meaning.classes has in
    let (q, among, is) = passing (bytes_eq p) d.permissions (second_true (bytes_eq c d.name) (list_any (bytes_eq p) d.permissions) both) in
    contains-flat (λ d. d.permissions) meaning.classes d p there (subst (Contains d.permissions) (sym ((bytes_eq-Decides p q).0 is)) among)

-- the names of the classes
abbrev class_names : Meaning → List (List ℕ)
class_names meaning = map (λ d. d.name) meaning.classes

class-named : (meaning : Meaning) (c p : List ℕ) → has_permission meaning c p ≡ true → Contains (class_names meaning) c
class-named meaning c p has =
    let (d, there, both) = passing (λ d. bytes_eq c d.name && list_any (bytes_eq p) d.permissions) meaning.classes has in
    subst (Contains (class_names meaning)) (sym ((bytes_eq-Decides c d.name).0 (first_true (bytes_eq c d.name) (list_any (bytes_eq p) d.permissions) both))) (contains-map (λ d. d.name) meaning.classes d there)

-- what permissions give, a class has
class-had : (meaning : Meaning) (the_class : List ℕ) (permissions : Expr (List ℕ)) (c p : List ℕ) → class_permits meaning the_class permissions c p ≡ true → has_permission meaning c p ≡ true
class-had meaning the_class permissions c p given = first_true (has_permission meaning c p) _ (second_true (bytes_eq the_class c) _ given)

permitted-had : (meaning : Meaning) (permissions : ResolvedPermissions) (c p : List ℕ) → permissions_permit meaning permissions c p ≡ true → has_permission meaning c p ≡ true
permitted-had meaning (of_class the_class permissions) c p given = class-had meaning the_class permissions c p given
permitted-had meaning (of_set set) c p given =
    let (s, there, both) = passing (λ s. bytes_eq set s.set && class_permits meaning s.the_class s.permissions c p) meaning.permission_sets given in
    class-had meaning s.the_class s.permissions c p (second_true (bytes_eq set s.set) (class_permits meaning s.the_class s.permissions c p) both)

-- those of a rule, with each type as source and as target, and with each class and each permission
abbrev of_class_named : Meaning → Rule → List ℕ → List ℕ → List ℕ → List Atom
of_class_named meaning r s t c = map (λ p. record { kind = r.kind; source = s; target = t; the_class = c; permission = p }) (permission_names meaning)

abbrev of_classes : Meaning → Rule → List ℕ → List ℕ → List Atom
of_classes meaning r s t = flat_map (of_class_named meaning r s t) (class_names meaning)

abbrev of_targets : Meaning → Rule → List ℕ → List Atom
of_targets meaning r s = flat_map (of_classes meaning r s) (type_names meaning)

abbrev of_rule : Meaning → Rule → List Atom
of_rule meaning r = flat_map (of_targets meaning r) (type_names meaning)

abbrev candidates : Meaning → List Atom
candidates meaning = flat_map (of_rule meaning) meaning.rules

among-rule : (meaning : Meaning) (r : Rule) (a : Atom) → gives meaning r a ≡ true → Contains (of_rule meaning r) a
among-rule meaning r a given =
    let kind = first_true (kind_index r.kind == kind_index a.kind) _ given in
    let covered = second_true (kind_index r.kind == kind_index a.kind) _ given in
    let held = first_true (holds meaning r.source a.source) _ covered in
    let rest = second_true (holds meaning r.source a.source) _ covered in
    let aimed = first_true (aims meaning r.target a.source a.target) _ rest in
    let had = permitted-had meaning r.permissions a.the_class a.permission (second_true (aims meaning r.target a.source a.target) _ rest) in
    let class = class-named meaning a.the_class a.permission had in
    let permission = permission-named meaning a.the_class a.permission had in
    let source = source-named meaning r.source a.source held in
    let target = target-named meaning r.target a.source a.target source aimed in
    let same = same-kind r.kind a.kind (eqb-true (kind_index r.kind) (kind_index a.kind) kind) in
    let one : Contains (of_class_named meaning r a.source a.target a.the_class) (record { kind = r.kind; source = a.source; target = a.target; the_class = a.the_class; permission = a.permission }) =
    contains-map _ (permission_names meaning) a.permission permission in
    let whole : Contains (of_class_named meaning r a.source a.target a.the_class) a =
    subst (Contains (of_class_named meaning r a.source a.target a.the_class)) (λ i. record { kind = same i; source = a.source; target = a.target; the_class = a.the_class; permission = a.permission }) one in
    contains-flat (of_targets meaning r) (type_names meaning) a.source a source
    (contains-flat (of_classes meaning r a.source) (type_names meaning) a.target a target (contains-flat (of_class_named meaning r a.source a.target) (class_names meaning) a.the_class a class whole))

among-candidates : (meaning : Meaning) (a : Atom) → is_in_table meaning a ≡ true → Contains (candidates meaning) a
among-candidates meaning a is =
    let (r, has, given) = passing (λ r. gives meaning r a) meaning.rules (test_from_any (λ r. gives meaning r a) meaning.rules (any_from_counted (λ r. gives meaning r a) meaning.rules is)) in
    contains-flat (of_rule meaning) meaning.rules r a has (among-rule meaning r a given)

-- the accesses of a policy, each once and in order
pub all-atoms : (meaning : Meaning) → (atoms : List Atom) × AreAtoms (is_in_table meaning) atoms
all-atoms meaning = (
  listed atom_cmp atom_total atom_exact (is_in_table meaning) (candidates meaning),
  record {
    ordered = listed-ordered atom_cmp atom_total atom_exact (is_in_table meaning) (candidates meaning);
    exact = λ a. (listed-passes atom_cmp atom_total atom_exact (is_in_table meaning) (candidates meaning) a, λ is. listed-has atom_cmp atom_total atom_exact (is_in_table meaning) (candidates meaning) a (among-candidates meaning a is) is);
  },
)
