-- A table has one list of accesses and one of rows, and there is one list of changes from it to another.
use Rattle.cil_specs.proofs.Common.{◌≡◌, ◌≢◌, inl, inr, ℕ, Bool, not, ◌&&◌, List, [], ◌∷◌, refl, sym, ap, ◌∙◌, subst, AllByRecursion, IsStrictlySortedBy, IsTotalOrder, ordering_reverse, Ordering, Less, Equal, Greater, tied_itself, Atom}
use Rattle.std.proofs.Common.{Contains}
use Rattle.cil_specs.specs.Report.{name_cmp, atom_cmp, AreAtoms, Changes, AreChanges, Row, row_cmp, IsRow, Has, AreRows}
use Rattle.cil_specs.proofs.NamesLemmas.{contains-first}
use Rattle.cil_specs.proofs.ReportLemmas.{name_total, atom_total, row_total}
use Rattle.cil_specs.proofs.ReportLemmasMembers.{AnyByRecursion, any_to, any_from, contains_to, contains_from, any_weaker}
use Rattle.cil_specs.proofs.ViolationLemmas.{above, one-sorted}

-- At most one list is that of the accesses that pass a test.
pub one-atoms : (test : Atom → Bool) (xs ys : List Atom) → AreAtoms test xs → AreAtoms test ys → xs ≡ ys
one-atoms test xs ys are also =
    one-sorted atom_cmp atom_total xs ys are.ordered also.ordered
    (λ a there. contains_to ys a (((also.exact a).1) (((are.exact a).0) (contains_from xs a there))))
    (λ a there. contains_to xs a (((are.exact a).1) (((also.exact a).0) (contains_from ys a there))))

pub one-changes : (old new : Atom → Bool) (changes others : Changes) → AreChanges old new changes → AreChanges old new others → changes ≡ others
one-changes old new changes others are also =
    let added = one-atoms (λ a. new a && not (old a)) changes.added others.added are.added also.added in
    let removed = one-atoms (λ a. old a && not (new a)) changes.removed others.removed are.removed also.removed in
    λ i. record { added = added i; removed = removed i }

-- an element of which P holds
chosen : {X : Type 0} (P : X → Type 0) (xs : List X) → AnyByRecursion P xs → (x : X) × AnyByRecursion (λ y. y ≡ x) xs × P x
chosen P [] none = absurd none
chosen P (x ∷ xs) (inl holds) = (x, inl refl, holds)
chosen P (x ∷ xs) (inr later) = let (y, there, holds) = chosen P xs later in (y, inr there, holds)

all-at : {X : Type 0} (P : X → Type 0) (xs : List X) (x : X) → AllByRecursion P xs → AnyByRecursion (λ y. y ≡ x) xs → P x
all-at P [] x all none = absurd none
all-at P (y ∷ xs) x all (inl is) = subst P is all.0
all-at P (y ∷ xs) x all (inr later) = all-at P xs x all.1 later

some-of : {X : Type 0} (xs : List X) → xs ≢ [] → (x : X) × Contains xs x
some-of [] some = absurd (some refl)
some-of (x ∷ xs) some = (x, contains-first x xs)

-- elements of a strictly ascending list that compare alike are one
one-there : {X : Type 0} (R : X → X → Ordering) (o : IsTotalOrder R) (xs : List X) (y z : X) → IsStrictlySortedBy R xs
    → AnyByRecursion (λ x. x ≡ y) xs → AnyByRecursion (λ x. x ≡ z) xs → R y z ≡ Equal → y ≡ z
unfolding IsStrictlySortedBy
one-there R o [] y z sorted none other alike = absurd none
one-there R o (x ∷ xs) y z sorted (inl is) (inl same) alike = sym is ∙ same
one-there R o (x ∷ xs) y z sorted (inl is) (inr later) alike =
    let less : R y z ≡ Less = subst (λ w. R w z ≡ Less) is (above R x z xs sorted.0 later) in cc (sym less ∙ alike)
one-there R o (x ∷ xs) y z sorted (inr later) (inl same) alike =
    let less : R z y ≡ Less = subst (λ w. R w y ≡ Less) same (above R x y xs sorted.0 later) in
    let more : R y z ≡ Greater = o.antisymm y z ∙ ap ordering_reverse less in cc (sym more ∙ alike)
one-there R o (x ∷ xs) y z sorted (inr later) (inr there) alike = one-there R o xs y z sorted.1 later there alike

-- rows of one kind, source, target and class
record IsAlike (r s : Row) : Type 0 where
  kind : r.kind ≡ s.kind
  source : r.source ≡ s.source
  target : r.target ≡ s.target
  the_class : r.the_class ≡ s.the_class

alike-back : (r s : Row) → IsAlike r s → IsAlike s r
alike-back r s alike = record { kind = sym alike.kind; source = sym alike.source; target = sym alike.target; the_class = sym alike.the_class }

alike-equal : (r s : Row) → IsAlike r s → row_cmp r s ≡ Equal
alike-equal r s alike =
    sym (λ i. row_cmp r (record { kind = alike.kind i; source = alike.source i; target = alike.target i; the_class = alike.the_class i; permissions = s.permissions }))
    ∙ tied_itself row_total r

-- the access of a row and a permission
abbrev access_of : Row → List ℕ → Atom
access_of r p = record { kind = r.kind; source = r.source; target = r.target; the_class = r.the_class; permission = p }

abbrev IsIn : List Row → Row → Type 0
IsIn rows r = AnyByRecursion (λ s. s ≡ r) rows

module _ (test : Atom → Bool) (rows others : List Row) (are : AreRows test rows) (also : AreRows test others) where
  -- an access of a row is one of another's
  access-there : (r : Row) (p : List ℕ) → IsIn rows r → Contains r.permissions p → (s : Row) × IsIn others s × Has s (access_of r p)
  access-there r p there has =
      let own : Has r (access_of r p) = record { kind = refl; source = refl; target = refl; the_class = refl; permission = has } in
      let some = any_from (λ s. Has s (access_of r p)) rows (any_weaker (λ s. s ≡ r) (λ s. Has s (access_of r p)) (λ s is. subst (λ x. Has x (access_of r p)) (sym is) own) rows there) in
      chosen (λ s. Has s (access_of r p)) others (any_to (λ s. Has s (access_of r p)) others (((also.exact (access_of r p)).1) (((are.exact (access_of r p)).0) some)))

  -- and so are all that the row has
  permission-there : (r s : Row) (p : List ℕ) → IsIn rows r → IsIn others s → IsAlike s r → Contains r.permissions p → Contains s.permissions p
  permission-there r s p there other alike has =
      let (t, here, found) = access-there r p there has in
      let between : IsAlike t s = record { kind = found.kind ∙ sym alike.kind; source = found.source ∙ sym alike.source; target = found.target ∙ sym alike.target; the_class = found.the_class ∙ sym alike.the_class } in
      let one = one-there row_cmp row_total others t s also.ordered here other (alike-equal t s between) in
      subst (λ x. Contains x.permissions p) one found.permission

  -- a row has one alike among the others
  alike-there : (r : Row) → IsIn rows r → (s : Row) × IsIn others s × IsAlike s r
  alike-there r there =
      let (p, has) = some-of r.permissions (all-at IsRow rows r are.each there).some in
      let (s, here, found) = access-there r p there has in (s, here, record { kind = found.kind; source = found.source; target = found.target; the_class = found.the_class })

row-there : (test : Atom → Bool) (rows others : List Row) (are : AreRows test rows) (also : AreRows test others) (r : Row) → IsIn rows r → IsIn others r
row-there test rows others are also r there =
    let (s, here, alike) = alike-there test rows others are also r there in
    let permissions =
    one-sorted name_cmp name_total s.permissions r.permissions (all-at IsRow others s also.each here).ordered (all-at IsRow rows r are.each there).ordered
    (λ p has. contains_to r.permissions p (permission-there test others rows also are s r p here there (alike-back s r alike) (contains_from s.permissions p has)))
    (λ p has. contains_to s.permissions p (permission-there test rows others are also r s p there here alike (contains_from r.permissions p has))) in
    let same : s ≡ r = λ i. record { kind = alike.kind i; source = alike.source i; target = alike.target i; the_class = alike.the_class i; permissions = permissions i } in
    subst (IsIn others) same here

-- At most one list is that of the rows of the accesses that pass a test.
pub one-rows : (test : Atom → Bool) (rows others : List Row) → AreRows test rows → AreRows test others → rows ≡ others
one-rows test rows others are also =
    one-sorted row_cmp row_total rows others are.ordered also.ordered (row-there test rows others are also) (row-there test others rows also are)
