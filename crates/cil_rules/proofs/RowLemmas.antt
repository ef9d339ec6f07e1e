-- The rows of ascending accesses are those of the listing.
use Rattle.cil_rules.proofs.Common.{◌≡◌, ◌≢◌, ℕ, ◌&&◌, List, [], ◌∷◌, ◌++◌, map, Bool, true, false, cond, refl, sym, ap, ◌∙◌, subst, IsTrue, AllByRecursion, Any, filter, flat_map, IsStrictlySortedBy, eq_by_cmp, is_eq, nat_cmp, ordering_then, Ordering, Less, Equal, Greater, and_parts, and_from, true≢false, tied_itself, Atom, kind_index, name_cmp, atom_cmp, AreAtoms, Row, row_cmp, is_listed, IsRow, Has, AreRows, row_total, same-kind, then_equal, equal-is, AnyByRecursion, any_to, any_from, contains_to, contains_from, any_weaker, any-map, any_from_map, any-filter, any_from_filter, any-flat_map, any_from_flat_map, all_weaker, sorted_unmap, row_with, put_first, groups_of, listed, rows_of}
use Rattle.std.proofs.lemmas.List.Kept.{IsStrictlySortedBy-filter}
use Rattle.std.proofs.lemmas.Map.Lookups.{exact_unsigned, exact_bytes}

-- the access of a row and a permission
abbrev pub atom_with : Row → List ℕ → Atom
atom_with r p = record { kind = r.kind; source = r.source; target = r.target; the_class = r.the_class; permission = p }

abbrev pub atoms_in : Row → List Atom
atoms_in r = map (atom_with r) r.permissions

-- rows that compare alike have the same accesses
pub same-atoms : (r s : Row) → row_cmp r s ≡ Equal → (p : List ℕ) → atom_with r p ≡ atom_with s p
same-atoms r s e p =
    let kinds = then_equal _ _ e in
    let sources = then_equal _ _ kinds.1 in
    let targets = then_equal _ _ sources.1 in
    let kind = same-kind r.kind s.kind (exact_unsigned _ _ kinds.0) in
    let source = exact_bytes _ _ sources.0 in
    let target = exact_bytes _ _ targets.0 in
    let the_class = exact_bytes _ _ targets.1 in
    λ i. record { kind = kind i; source = source i; target = target i; the_class = the_class i; permission = p }

-- rows give back the accesses that they were put together from
flat-put_first : (a : Atom) (rows : List Row) → flat_map atoms_in (put_first a rows) ≡ a ∷ flat_map atoms_in rows
flat-put_first a [] = refl
flat-put_first a (r ∷ rows) = by (eq_by_cmp row_cmp (row_with a []) r) refl
  where
    others : (ps : List (List ℕ)) → row_cmp (row_with a []) r ≡ Equal → map (atom_with (row_with a [])) ps ≡ map (atom_with r) ps
    others [] e = refl
    others (p ∷ ps) e = λ i. same-atoms (row_with a []) r e p i ∷ others ps e i

    by : (b : Bool) → eq_by_cmp row_cmp (row_with a []) r ≡ b
        → flat_map atoms_in (cond b (row_with a (a.permission ∷ r.permissions) ∷ rows) (row_with a (a.permission ∷ []) ∷ r ∷ rows)) ≡ a ∷ (atoms_in r ++ flat_map atoms_in rows)
    by true e = λ i. a ∷ (others r.permissions (equal-is (row_cmp (row_with a []) r) e) i ++ flat_map atoms_in rows)
    by false e = refl

pub flat-groups_of : (atoms : List Atom) → flat_map atoms_in (groups_of atoms) ≡ atoms
flat-groups_of [] = refl
flat-groups_of (a ∷ atoms) = flat-put_first a (groups_of atoms) ∙ ap (λ l. a ∷ l) (flat-groups_of atoms)

-- a row isn't that of the first of others
abbrev IsApart : Row → List Row → Type 0
IsApart r [] = Unit {0}
IsApart r (s ∷ rows) = eq_by_cmp row_cmp r s ≡ false

-- each row has a permission, and isn't the next
abbrev AreGrouped : List Row → Type 0
AreGrouped [] = Unit {0}
AreGrouped (r ∷ rows) = (r.permissions ≢ []) × IsApart r rows × AreGrouped rows

grouped-put_first : (a : Atom) (rows : List Row) → AreGrouped rows → AreGrouped (put_first a rows)
grouped-put_first a [] grouped = (λ e. cc, tt, tt)
grouped-put_first a (r ∷ rows) grouped = by (eq_by_cmp row_cmp (row_with a []) r) refl
  where
    apart : (others : List Row) → row_cmp (row_with a []) r ≡ Equal → IsApart r others → IsApart (row_with a (a.permission ∷ r.permissions)) others
    apart [] e h = tt
    apart (s ∷ others) e h = ap is_eq (row_total.congr (row_with a []) r s e) ∙ h

    by : (b : Bool) → eq_by_cmp row_cmp (row_with a []) r ≡ b → AreGrouped (cond b (row_with a (a.permission ∷ r.permissions) ∷ rows) (row_with a (a.permission ∷ []) ∷ r ∷ rows))
    by true e = (λ none. cc, apart rows (equal-is (row_cmp (row_with a []) r) e) grouped.1, grouped.2)
    by false e = (λ none. cc, e, grouped)

grouped-groups_of : (atoms : List Atom) → AreGrouped (groups_of atoms)
grouped-groups_of [] = tt
grouped-groups_of (a ∷ atoms) = grouped-put_first a (groups_of atoms) (grouped-groups_of atoms)

pub all-append_left : {X : Type 0} (P : X → Type 0) (xs ys : List X) → AllByRecursion P (xs ++ ys) → AllByRecursion P xs
all-append_left P [] ys all = tt
all-append_left P (x ∷ xs) ys all = (all.0, all-append_left P xs ys all.1)

pub all-append_right : {X : Type 0} (P : X → Type 0) (xs ys : List X) → AllByRecursion P (xs ++ ys) → AllByRecursion P ys
all-append_right P [] ys all = all
all-append_right P (x ∷ xs) ys all = all-append_right P xs ys all.1

sorted-append_left : {X : Type 0} (R : X → X → Ordering) (xs ys : List X) → IsStrictlySortedBy R (xs ++ ys) → IsStrictlySortedBy R xs
unfolding IsStrictlySortedBy
sorted-append_left R [] ys sorted = tt
sorted-append_left R (x ∷ xs) ys sorted = (all-append_left (λ y. R x y ≡ Less) xs ys sorted.0, sorted-append_left R xs ys sorted.1)

sorted-append_right : {X : Type 0} (R : X → X → Ordering) (xs ys : List X) → IsStrictlySortedBy R (xs ++ ys) → IsStrictlySortedBy R ys
unfolding IsStrictlySortedBy
sorted-append_right R [] ys sorted = sorted
sorted-append_right R (x ∷ xs) ys sorted = sorted-append_right R xs ys sorted.1

then-assoc : (a b c : Ordering) → ordering_then (ordering_then a b) c ≡ ordering_then a (ordering_then b c)
then-assoc Less b c = refl
then-assoc Equal b c = refl
then-assoc Greater b c = refl

-- accesses of rows compare by the rows and then by the permissions
atom_cmp-atom_with : (r s : Row) (p q : List ℕ) → atom_cmp (atom_with r p) (atom_with s q) ≡ ordering_then (row_cmp r s) (name_cmp p q)
atom_cmp-atom_with r s p q =
    let kinds : Ordering = nat_cmp (kind_index r.kind) (kind_index s.kind) in
    let sources : Ordering = name_cmp r.source s.source in
    let targets : Ordering = name_cmp r.target s.target in
    let classes : Ordering = name_cmp r.the_class s.the_class in
    let permissions : Ordering = name_cmp p q in
    sym
    (then-assoc kinds (ordering_then sources (ordering_then targets classes)) permissions
    ∙ ap (ordering_then kinds) (then-assoc sources (ordering_then targets classes) permissions ∙ ap (ordering_then sources) (then-assoc targets classes permissions)))

less-part : (o p : Ordering) → is_eq o ≡ false → ordering_then o p ≡ Less → o ≡ Less
less-part Less p apart e = refl
less-part Equal p apart e = absurd (true≢false apart)
less-part Greater p apart e = e

-- rows whose accesses ascend, ascend
rows-ordered : (rows : List Row) → AreGrouped rows → IsStrictlySortedBy atom_cmp (flat_map atoms_in rows) → IsStrictlySortedBy row_cmp rows
unfolding IsStrictlySortedBy
rows-ordered [] grouped sorted = tt
rows-ordered (r ∷ []) grouped sorted = (tt, tt)
rows-ordered (r ∷ s ∷ rows) grouped sorted =
    let rest = rows-ordered (s ∷ rows) grouped.2 (sorted-append_right atom_cmp (atoms_in r) (flat_map atoms_in (s ∷ rows)) sorted) in
    let less = by r.permissions s.permissions grouped.0 grouped.2.0 sorted in
    ((less, all_weaker (λ y. row_cmp s y ≡ Less) (λ y. row_cmp r y ≡ Less) (λ y h. row_total.trans r s y less h) rows rest.0), rest)
  where
    by : (ps qs : List (List ℕ)) → ps ≢ [] → qs ≢ [] → IsStrictlySortedBy atom_cmp (map (atom_with r) ps ++ (map (atom_with s) qs ++ flat_map atoms_in rows)) → row_cmp r s ≡ Less
    by [] qs some some' up = absurd (some refl)
    by (p ∷ ps) [] some some' up = absurd (some' refl)
    by (p ∷ ps) (q ∷ qs) some some' up =
        less-part (row_cmp r s) (name_cmp p q) grouped.1
        (sym (atom_cmp-atom_with r s p q) ∙ (all-append_right (λ y. atom_cmp (atom_with r p) y ≡ Less) (map (atom_with r) ps) (map (atom_with s) (q ∷ qs) ++ flat_map atoms_in rows) up.0).0)

all-unit : {X : Type 0} (xs : List X) → AllByRecursion (λ (x : X). Unit {0}) xs
all-unit [] = tt
all-unit (x ∷ xs) = (tt, all-unit xs)

-- those of them that are listed are rows
rows-each : (rows : List Row) → AreGrouped rows → IsStrictlySortedBy atom_cmp (flat_map atoms_in rows) → AllByRecursion IsRow (filter (λ r. is_listed r.kind) rows)
rows-each [] grouped sorted = tt
rows-each (r ∷ rows) grouped sorted = by (is_listed r.kind) refl (rows-each rows grouped.2 (sorted-append_right atom_cmp (atoms_in r) (flat_map atoms_in rows) sorted))
  where
    by : (b : Bool) → is_listed r.kind ≡ b → AllByRecursion IsRow (filter (λ s. is_listed s.kind) rows) → AllByRecursion IsRow (cond b (r ∷ filter (λ s. is_listed s.kind) rows) (filter (λ s. is_listed s.kind) rows))
    by true listed rest = (
      record {
        listed = listed;
        some = grouped.0;
        ordered =
            sorted_unmap (atom_with r) name_cmp atom_cmp (λ p. Unit {0}) (λ p q _ _. atom_cmp-atom_with r r p q ∙ ap (λ o. ordering_then o (name_cmp p q)) (tied_itself row_total r)) r.permissions (all-unit r.permissions)
            (sorted-append_left atom_cmp (atoms_in r) (flat_map atoms_in rows) sorted);
      },
      rest,
    )
    by false listed rest = rest

atoms-from_has : (r : Row) (a : Atom) → Has r a → AnyByRecursion (λ x. x ≡ a) (atoms_in r)
atoms-from_has r a has =
    let is : atom_with r a.permission ≡ a = λ i. record { kind = has.kind i; source = has.source i; target = has.target i; the_class = has.the_class i; permission = a.permission } in
    any-map (atom_with r) (λ x. x ≡ a) r.permissions
    (any_weaker (λ p. p ≡ a.permission) (λ p. atom_with r p ≡ a) (λ p e. ap (atom_with r) e ∙ is) r.permissions (contains_to r.permissions a.permission has.permission))

has-from_atoms : (r : Row) (a : Atom) → AnyByRecursion (λ x. x ≡ a) (atoms_in r) → Has r a
has-from_atoms r a some =
    let (k, p, within, is, same) = any_from (λ q. atom_with r q ≡ a) r.permissions (any_from_map (atom_with r) (λ x. x ≡ a) r.permissions some) in
    record {
      kind = ap (λ x. x.kind) same;
      source = ap (λ x. x.source) same;
      target = ap (λ x. x.target) same;
      the_class = ap (λ x. x.the_class) same;
      permission = contains_from r.permissions a.permission (any_to (λ q. q ≡ a.permission) r.permissions (k, p, within, is, ap (λ x. x.permission) same));
    }

-- the rows of the accesses that pass a test
pub are-rows : (test : Atom → Bool) (atoms : List Atom) → AreAtoms test atoms → AreRows test (rows_of atoms)
are-rows test atoms are = record {
  each = rows-each (groups_of atoms) (grouped-groups_of atoms) ascending;
  ordered = IsStrictlySortedBy-filter row_cmp (λ r. is_listed r.kind) (groups_of atoms) (rows-ordered (groups_of atoms) (grouped-groups_of atoms) ascending);
  exact = λ a. (there a, back a);
}
  where
    ascending : IsStrictlySortedBy atom_cmp (flat_map atoms_in (groups_of atoms))
    ascending = subst (IsStrictlySortedBy atom_cmp) (sym (flat-groups_of atoms)) are.ordered

    there : (a : Atom) → Any (λ r. Has r a) (rows_of atoms) → IsTrue (is_listed a.kind && test a)
    there a some =
        let (k, r, within, is, (has, listed)) = any_from (λ r. Has r a × IsTrue (is_listed r.kind)) (groups_of atoms)
        (any_from_filter (λ r. is_listed r.kind) (λ r. Has r a) (groups_of atoms) (any_to (λ r. Has r a) (rows_of atoms) some)) in
        let in_rows = any_to (λ r. AnyByRecursion (λ x. x ≡ a) (atoms_in r)) (groups_of atoms) (k, r, within, is, atoms-from_has r a has) in
        let flat : AnyByRecursion (λ x. x ≡ a) atoms = subst (AnyByRecursion (λ x. x ≡ a)) (flat-groups_of atoms) (any-flat_map atoms_in (λ x. x ≡ a) (groups_of atoms) in_rows) in
        and_from (is_listed a.kind) (test a) (ap is_listed (sym has.kind) ∙ listed) ((are.exact a).0 (contains_from atoms a flat))

    back : (a : Atom) → IsTrue (is_listed a.kind && test a) → Any (λ r. Has r a) (rows_of atoms)
    back a passes =
        let parts = and_parts (is_listed a.kind) (test a) passes in
        let flat : AnyByRecursion (λ x. x ≡ a) (flat_map atoms_in (groups_of atoms)) = subst (AnyByRecursion (λ x. x ≡ a)) (sym (flat-groups_of atoms)) (contains_to atoms a ((are.exact a).1 parts.1)) in
        let in_rows = any_from_flat_map atoms_in (λ x. x ≡ a) (groups_of atoms) flat in
        any_from (λ r. Has r a) (rows_of atoms)
        (any-filter (λ r. is_listed r.kind) (λ r. Has r a) (groups_of atoms)
        (any_weaker (λ r. AnyByRecursion (λ x. x ≡ a) (atoms_in r)) (λ r. Has r a × IsTrue (is_listed r.kind))
        (λ r held. let has = has-from_atoms r a held in (has, ap is_listed has.kind ∙ parts.0)) (groups_of atoms) in_rows))

-- rows of the accesses that a listing has are those of all
pub rows-listed : (test : Atom → Bool) (rows : List Row) → AreRows (listed test) rows → AreRows test rows
rows-listed test rows are = record {
  each = are.each;
  ordered = are.ordered;
  exact = λ a. (
    λ some. (and_parts (is_listed a.kind) (listed test a) ((are.exact a).0 some)).1,
    λ passes. (are.exact a).1 (and_from (is_listed a.kind) (listed test a) (and_parts (is_listed a.kind) (test a) passes).0 passes),
  );
}
