-- What permission sets give, by the statements of a policy without faults.
use Rattle.cil_resolve.proofs.Common.{◌≡◌, ◌∙◌, ◌↔◌, ◌==◌, ℕ, ◌<◌, Bool, true, false, ◌&&◌, ◌||◌, nat_lt, List, [], ◌∷◌, map, length, get_or, Contains, Some, IsTrue, if◌then◌else◌, bytes_eq, refl, sym, ap, subst, list_all, list_any, lt-ltb, ltb-true, list_any-append, same-bool, Placed, meaning_of, permission_sets_of, names_rise, both_true, first_true, second_true, any-contained, passes-among, contains-first, contains-middle, contains-other, is_permission_below, is_permission_set_below, number_in, given_to, given_with, has_named, permission_set_of, set_gives, GivePermissions, GivesSet, IsOrdered, KnowSets, modules_of}
use Rattle.std.specs.Rc.{rc_value}
use Rattle.cil_specs.proofs.ExistsLemmas.{of-all}
use Rattle.cil_specs.specs.Meaning.{class_permits}
use Rattle.cil_specs.specs.Rule as spec
use Rattle.cil_resolve.specs.declared.given_sets.GivenSets.{GivenSets}
use Rattle.cil_resolve.specs.declared.lowering.Lowering.{Lowering}
use Rattle.cil_resolve.specs.declared.numbered.NumberedPermissionSet.{NumberedPermissionSet}
use Rattle.cil_resolve.specs.declared.numbered.ResolvedPermissions.TheVariants as permits
use Rattle.cil_resolve.specs.declared.set_permissions.ClassPermission.{ClassPermission}
use Rattle.cil_resolve.specs.declared.set_permissions.SetPermissions.{SetPermissions}
use Rattle.cil_resolve.proofs.ListLemmas.{all-of-flat}
use Rattle.cil_resolve.proofs.NumberLemmas.{number-is}
use Rattle.cil_resolve.proofs.RisingNames.{same-name}

-- lists of the same elements pass the same tests
any-same : {X : Type 0} (p : X → Bool) (xs ys : List X) → ((x : X) → Contains ys x ↔ Contains xs x) → list_any p xs ≡ list_any p ys
any-same {X = X} p xs ys same = same-bool (list_any p xs) (list_any p ys) (λ e. among xs ys (λ x c. (same x).1 c) e) (λ e. among ys xs (λ x c. (same x).0 c) e)
  where
    among : (us vs : List X) → ((x : X) → Contains us x → Contains vs x) → list_any p us ≡ true → list_any p vs ≡ true
    among us vs into e =
        let one = passes-among p us e in
        any-contained p vs one.x (into one.x (subst (λ l. Contains l one.x) (sym one.split) (contains-middle one.before one.x one.after))) one.passes

all-each : {X : Type 0} (p : X → Bool) (xs : List X) → ((x : X) → Contains xs x → p x ≡ true) → list_all p xs ≡ true
all-each p [] each = refl
all-each p (x ∷ xs) each = both_true (p x) (list_all p xs) (each x (contains-first x xs)) (all-each p xs (λ y there. each y (contains-other x xs y there)))

-- the permissions at numbers below, with a class below
given-below : (n class : ℕ) (numbers : List ℕ) → nat_lt class n ≡ true → list_all (λ q. nat_lt q n) numbers ≡ true → list_all (is_permission_below n) (map (λ m. record { class = class; permission = m }) numbers) ≡ true
given-below n class [] low below = refl
given-below n class (m ∷ numbers) low below =
    both_true (nat_lt class n && nat_lt m n) (list_all (is_permission_below n) (map (λ k. record { class = class; permission = k }) numbers))
    (both_true (nat_lt class n) (nat_lt m n) low (first_true (nat_lt m n) (list_all (λ q. nat_lt q n) numbers) below))
    (given-below n class numbers low (second_true (nat_lt m n) (list_all (λ q. nat_lt q n) numbers) below))

-- whether a statement by names is of a set and gives the set a permission
abbrev permits_it : List Placed → List ℕ → List ℕ → List ℕ → spec.PermissionSetStatement → Bool
permits_it policy set c q x = bytes_eq set x.set && class_permits (meaning_of policy []) x.the_class x.permissions c q

module _ {A : Type 0} (modules names : List (List ℕ)) (policy : List Placed) where
  -- those of a statement
  statement-below : (k : ℕ) (t : NumberedPermissionSet A) → is_permission_set_below (length names) t ≡ true → list_all (is_permission_below (length names)) (given_to k t) ≡ true
  statement-below k t below =
      let rest = second_true (nat_lt t.set (length names)) (nat_lt t.permissions.class (length names) && list_all (λ q. nat_lt q (length names)) t.permissions.given) below in
      by (k == t.set)
      (given-below (length names) t.permissions.class t.permissions.given (first_true (nat_lt t.permissions.class (length names)) (list_all (λ q. nat_lt q (length names)) t.permissions.given) rest)
      (second_true (nat_lt t.permissions.class (length names)) (list_all (λ q. nat_lt q (length names)) t.permissions.given) rest))
    where
      by : (b : Bool) → list_all (is_permission_below (length names)) (given_with t.permissions) ≡ true → list_all (is_permission_below (length names)) (if b then given_with t.permissions else []) ≡ true
      by true is = is
      by false is = refl

  module _ (rise : IsTrue (names_rise names)) (k : ℕ) (low : k < length names) (c q : List ℕ) where
    statement-gives : (t : NumberedPermissionSet A) → is_permission_set_below (length names) t ≡ true → GivesSet names policy t
        → permits_it policy (get_or names k []) c q (permission_set_of modules names t) ≡ has_named names (given_to k t) c q
    statement-gives t below give =
        let within = ltb-true t.set (length names)
        (first_true (nat_lt t.set (length names)) (nat_lt t.permissions.class (length names) && list_all (λ p. nat_lt p (length names)) t.permissions.given) below) in
        let x = permission_set_of modules names t in
        ap (λ b. b && class_permits (meaning_of policy []) x.the_class x.permissions c q) (same-name names k t.set rise low within) ∙ by (k == t.set)
      where
        by : (b : Bool) → (b && class_permits (meaning_of policy []) (permission_set_of modules names t).the_class (permission_set_of modules names t).permissions c q)
            ≡ has_named names (if b then given_with t.permissions else []) c q
        by true = give c q
        by false = refl

    -- What a set permits by its statements is what they give it.
    statements-give : (sets : List (NumberedPermissionSet A)) → list_all (is_permission_set_below (length names)) sets ≡ true → ((t : NumberedPermissionSet A) → Contains sets t → GivesSet names policy t)
        → list_any (permits_it policy (get_or names k []) c q) (map (permission_set_of modules names) sets) ≡ has_named names (set_gives sets k) c q
    statements-give [] below give = refl
    statements-give (t ∷ sets) below give =
        let here = statement-gives t (first_true (is_permission_set_below (length names) t) (list_all (is_permission_set_below (length names)) sets) below) (give t (contains-first t sets)) in
        let more = statements-give sets (second_true (is_permission_set_below (length names) t) (list_all (is_permission_set_below (length names)) sets) below) (λ u there. give u (contains-other t sets u there)) in
        (λ j. here j || more j)
        ∙ sym (list_any-append (λ (g : ClassPermission). bytes_eq (get_or names g.class []) c && bytes_eq q (get_or names g.permission [])) (given_to k t) (set_gives sets k))

-- The permissions that a set was found to give are those that its statements give.
pub set-given : {A : Type 0} (l : Lowering A) (given : GivenSets A) (policy : List Placed) (set : List ℕ) (s : SetPermissions A) → (know : KnowSets l given policy)
    → number_in l.numbering.now.names.items set ≡ Some s.set → IsOrdered (set_gives know.sets s.set) (rc_value s.given).items
    → GivePermissions l.numbering.now.names.items policy (spec.of_set set) (permits.OfSet s)
set-given l given policy set s know numbered ordered =
    let names = l.numbering.now.names.items in
    let modules = modules_of l.checker.now.bound.joined.now in
    let (low, named) = number-is names set s.set numbered in
    let all = all-of-flat (is_permission_below (length names)) (given_to s.set) know.sets
    (λ t there. statement-below modules names policy s.set t (of-all (is_permission_set_below (length names)) know.sets t know.are.below there)) in
    record {
      is = λ j. spec.of_set (named j);
      below = both_true (nat_lt s.set (length names)) (list_all (is_permission_below (length names)) (rc_value s.given).items) (lt-ltb s.set (length names) low)
          (all-each (is_permission_below (length names)) (rc_value s.given).items (λ g there. of-all (is_permission_below (length names)) (set_gives know.sets s.set) g all ((ordered.same g).0 there)));
      written_below = refl;
      no_list = refl;
      gives = λ c q.
          ap (λ name. list_any (permits_it policy name c q) (permission_sets_of policy)) (sym named)
          ∙ ap (list_any (permits_it policy (get_or names s.set []) c q)) (sym know.are.is)
          ∙ statements-give modules names policy l.numbering.now.ordered s.set low c q know.sets know.are.below know.are.give
          ∙ any-same (λ (g : ClassPermission). bytes_eq (get_or names g.class []) c && bytes_eq q (get_or names g.permission [])) (set_gives know.sets s.set) (rc_value s.given).items ordered.same;
    }
