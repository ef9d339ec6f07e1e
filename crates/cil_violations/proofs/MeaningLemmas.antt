-- What passes the tests by numbers violates by names, and the other way round.
use Rattle.cil_violations.proofs.Common.{◌≡◌, ◌∙◌, inl, inr, ℕ, Bool, true≢false, none-some, same_Some, ◌==◌, ◌&&◌, ◌<◌, true, List, [], ◌∷◌, length, get_or, map, Option, Some, None, slice_get, slice_index_or, Contains, bytes_eq, refl, sym, ap, subst, list_all, nat_lt, ltb-true, and_parts, and_from, eqb-true, eq-eqb, slice_get-map, slice_get_within, get_or_from_slice_get, holds, aims, covers, AnyByRecursion, any_from, any-map, any_from_map, any-filter, any_from_filter, contains_to, contains_from, any_weaker, is_element_below, is_target_below, is_rule_below, rule_of, element_of, resolved_target_of, given_in, meaning_in, name_in, NumberedRule, ResolvedTarget, Resolved, ClassPermission, is_held_in, symbols_in, aim_of, is_among, of_class, share, shared, AreBelow, AreInOrder, AreOrdered, DoAgree, given_at, is_allow_of_set, is_of_set, set_at, set_of, set_of_one}
use Rattle.std.specs.Bool.{IsTrue}
use Rattle.std.specs.Option.{option_map}
use Rattle.std.specs.Rc.{rc_value}
use Rattle.std.proofs.lemmas.List.Folds.{list_any_at, Any-from_list_any}
use Rattle.std.proofs.lemmas.Slice.Eq.{bytes_eq-Decides}
use Rattle.cil_resolve.specs.Below.{are_permissions_below, is_permission_below}
use Rattle.cil_specs.specs.Meaning.{permissions_permit}
use Rattle.cil_specs.specs.Rule.{of_set}
use Rattle.cil_resolve.specs.Numbers.{GivesNumbered, has_named, resolved_permissions_of}
use Rattle.cil_resolve.proofs.RisingNames.{same-number}
use Rattle.cil_resolve.specs.Consistent.{is_rule_of, is_element_of, is_aim_of}
use Rattle.cil_resolve.specs.declared.numbered.ResolvedPermissions.{ResolvedPermissions}
use Rattle.cil_resolve.specs.declared.numbered.ResolvedPermissions.TheVariants as permits
use Rattle.cil_resolve.specs.declared.numbered.ResolvedTarget.TheVariants as targets
use Rattle.cil_rule_reach.specs.Named.{AreMembersBy}
use Rattle.cil_member_rows.specs.Rows.{count_now}
use Rattle.cil_violations.specs.declared.members.Members.{Members}
use Rattle.cil_violations.proofs.HeldLemmas.{held-named, same-held}
use Rattle.cil_violations.proofs.IndexLemmas.{set-rule, there-at}
use Rattle.cil_violations.proofs.PermissionLemmas.{among-from, among-to}
use Rattle.cil_violations.proofs.ShareLemmas.{share-from, share-to}
use Rattle.cil_violations.proofs.TestLemmas.{all-at}

pub all-any : {X : Type 0} (p : X → Bool) (xs : List X) (x : X) → list_all p xs ≡ true → AnyByRecursion (λ y. y ≡ x) xs → p x ≡ true
all-any p [] x all none = absurd none
all-any p (y ∷ ys) x all (inl is) = subst (λ z. p z ≡ true) is (and_parts (p y) (list_all p ys) all).0
all-any p (y ∷ ys) x all (inr later) = all-any p ys x (and_parts (p y) (list_all p ys) all).1 later

pub bytes-same : (xs ys : List ℕ) → bytes_eq xs ys ≡ true → xs ≡ ys
bytes-same xs ys e = (bytes_eq-Decides xs ys).0 e

pub same-bytes : (xs ys : List ℕ) → xs ≡ ys → bytes_eq xs ys ≡ true
same-bytes xs ys e = (bytes_eq-Decides xs ys).1 e

-- what stands in a list, where a test holds
pub witness : {X : Type 0} (P : X → Type 0) (xs : List X) → AnyByRecursion P xs → (x : X) × Contains xs x × P x
witness P xs some = let (k, x, within, at, holds) = any_from P xs some in (x, (k, within, at), holds)

-- ---- what a list of permissions has by names

module _ (names : List (List ℕ)) where
  abbrev name : ℕ → List ℕ
  name n = slice_index_or names n []

  pub named-to : (given : List ClassPermission) (g : ClassPermission) → Contains given g → has_named names given (name g.class) (name g.permission) ≡ true
  named-to given g (k, low, is) =
      list_any_at (λ x. bytes_eq (name x.class) (name g.class) && bytes_eq (name g.permission) (name x.permission)) given k g low
      (ap (λ x. bytes_eq (name x.class) (name g.class) && bytes_eq (name g.permission) (name x.permission)) is
      ∙ and_from (bytes_eq (name g.class) (name g.class)) (bytes_eq (name g.permission) (name g.permission)) (same-bytes (name g.class) (name g.class) refl)
      (same-bytes (name g.permission) (name g.permission) refl))

  pub named-from : (given : List ClassPermission) (c p : List ℕ) → has_named names given c p ≡ true → (g : ClassPermission) × Contains given g × (name g.class ≡ c) × (p ≡ name g.permission)
  named-from given c p some = by (Any-from_list_any (λ g. bytes_eq (name g.class) c && bytes_eq p (name g.permission)) given some)
    where
      by : (k : ℕ) × (g : ClassPermission) × (k < length given) × (get_or given k g ≡ g) × ((bytes_eq (name g.class) c && bytes_eq p (name g.permission)) ≡ true)
          → (g : ClassPermission) × Contains given g × (name g.class ≡ c) × (p ≡ name g.permission)
      by (k, g, low, is, both) =
          let parts = and_parts (bytes_eq (name g.class) c) (bytes_eq p (name g.permission)) both in
          (g, (k, low, is), bytes-same (name g.class) c parts.0, bytes-same p (name g.permission) parts.1)

-- ---- those of a class

pub of_class-to : (c : ℕ) (list : List ClassPermission) (g : ClassPermission) → Contains list g → g.class ≡ c → Contains (of_class c list) g
of_class-to c list g there same =
    contains_from (of_class c list) g
    (any-filter (λ x. x.class == c) (λ x. x ≡ g) list
    (any_weaker (λ x. x ≡ g) (λ x. (x ≡ g) × IsTrue (x.class == c)) (λ x e. (e, eq-eqb x.class c (ap (λ y. y.class) e ∙ same))) list (contains_to list g there)))

pub of_class-from : (c : ℕ) (list : List ClassPermission) (g : ClassPermission) → Contains (of_class c list) g → Contains list g × (g.class ≡ c)
of_class-from c list g there =
    let (x, here, both) = witness (λ x. (x ≡ g) × IsTrue (x.class == c)) list (any_from_filter (λ x. x.class == c) (λ x. x ≡ g) list (contains_to (of_class c list) g there)) in
    (subst (Contains list) both.0 here, ap (λ y. y.class) (sym both.0) ∙ eqb-true x.class c both.1)

-- two lists share one of a class
pub share-class : (c : ℕ) (first second : List ClassPermission) (g : ClassPermission) → g.class ≡ c → Contains first g → Contains second g → share (of_class c first) (of_class c second) ≡ true
share-class c first second g same here there = share-to (of_class c first) (of_class c second) g (of_class-to c first g here same) (of_class-to c second g there same)

pub class-shared : (c : ℕ) (first second : List ClassPermission) → share (of_class c first) (of_class c second) ≡ true → (g : ClassPermission) × Contains first g × Contains second g × (g.class ≡ c)
class-shared c first second some =
    let (g, here, there) = share-from (of_class c first) (of_class c second) some in
    let one = of_class-from c first g here in
    (g, one.0, (of_class-from c second g there).0, one.1)

-- ---- the names of what is shared

module _ {Y : Type 0} (name : ClassPermission → Y) where
  pub shared-to : (first second : List ClassPermission) (g : ClassPermission) → Contains first g → Contains second g → Contains (map name (shared first second)) (name g)
  shared-to first second g here there =
      contains_from (map name (shared first second)) (name g)
      (any-map name (λ t. t ≡ name g) (shared first second)
      (any-filter (is_among second) (λ k. name k ≡ name g) first
      (any_weaker (λ k. k ≡ g) (λ k. (name k ≡ name g) × IsTrue (is_among second k)) (λ k e. (ap name e, among-to second k (subst (Contains second) (sym e) there))) first (contains_to first g here))))

  pub shared-from : (first second : List ClassPermission) (p : Y) → Contains (map name (shared first second)) p → (g : ClassPermission) × Contains first g × Contains second g × (p ≡ name g)
  shared-from first second p there =
      let (g, here, both) =
      witness (λ k. (name k ≡ p) × IsTrue (is_among second k)) first
      (any_from_filter (is_among second) (λ k. name k ≡ p) first (any_from_map name (λ t. t ≡ p) (shared first second) (contains_to (map name (shared first second)) p there))) in
      (g, here, among-from second g both.1, sym both.0)

-- A rule's numbers are below that of the names, what it names is declared, and it gives the permissions at its numbers.
pub record IsSound {A : Type 0} (r : Resolved A) (rule : NumberedRule A) : Type 0 where
  pub source_below : is_element_below (length r.names.items) rule.source ≡ true
  pub target_below : is_target_below (length r.names.items) rule.target ≡ true
  pub given_below : (g : ClassPermission) → Contains (given_in rule.permissions) g → (g.class < length r.names.items) × (g.permission < length r.names.items)
  pub source_kept : is_element_of (meaning_in r).types (meaning_in r).attributes (element_of r.names.items rule.source) ≡ true
  pub target_kept : is_aim_of (meaning_in r).types (meaning_in r).attributes (resolved_target_of r.names.items rule.target) ≡ true
  pub gives : GivesNumbered (meaning_in r) r.modules.items r.names.items rule

-- what is below a bound by a list
all-given : {A : Type 0} (n : ℕ) (p : ResolvedPermissions A) → are_permissions_below n p ≡ true → (g : ClassPermission) → Contains (given_in p) g → (g.class < n) × (g.permission < n)
all-given n (permits.OfClass p) below g there =
    let parts = and_parts (nat_lt p.class n) (list_all (λ q. nat_lt q n) p.given) below in
    let (q, here, is) =
    witness (λ q. record { class = p.class; permission = q } ≡ g) p.given
    (any_from_map (λ q. record { class = p.class; permission = q }) (λ x. x ≡ g) p.given (contains_to (given_in (permits.OfClass p)) g there)) in (
      subst (λ (x : ClassPermission). x.class < n) is (ltb-true p.class n parts.0),
      subst (λ (x : ClassPermission). x.permission < n) is (ltb-true q n (all-any (λ q. nat_lt q n) p.given q parts.1 (contains_to p.given q here))),
    )
all-given n (permits.OfSet s) below g there =
    let list = (rc_value s.given).items in
    let parts = and_parts (nat_lt s.set n) (list_all (is_permission_below n) list) below in
    let both = and_parts (nat_lt g.class n) (nat_lt g.permission n) (all-any (is_permission_below n) list g parts.1 (contains_to list g there)) in
    (ltb-true g.class n both.0, ltb-true g.permission n both.1)

pub rule-sound : {A : Type 0} (r : Resolved A) (i : ℕ) (rule : NumberedRule A) → slice_get r.rules.items i ≡ Some rule → IsSound r rule
rule-sound r i rule at =
    let n = length r.names.items in
    let below = all-at (is_rule_below n) r.rules.items i rule r.rules_within at in
    let first = and_parts (is_element_below n rule.source) _ below in
    let second = and_parts (is_target_below n rule.target) _ first.1 in
    let declared =
    all-at (is_rule_of (meaning_in r).types (meaning_in r).attributes (meaning_in r).classes) (meaning_in r).rules i (rule_of r.modules.items r.names.items rule) r.consistent.declared
    (slice_get-map (rule_of r.modules.items r.names.items) r.rules.items i ∙ ap (option_map (rule_of r.modules.items r.names.items)) at) in
    let source = and_parts (is_element_of (meaning_in r).types (meaning_in r).attributes (element_of r.names.items rule.source)) _ declared in
    let target = and_parts (is_aim_of (meaning_in r).types (meaning_in r).attributes (resolved_target_of r.names.items rule.target)) _ source.1 in
    record {
      source_below = first.0;
      target_below = second.0;
      given_below = all-given n rule.permissions second.1;
      source_kept = source.0;
      target_kept = target.0;
      gives = r.permitted rule (i, slice_get_within r.rules.items i rule at, get_or_from_slice_get r.rules.items i rule rule at);
    }

-- ---- what rules give, by lists

module _ {A : Type 0} (r : Resolved A) (lists : List (List ClassPermission)) (ordered : AreOrdered r.rules.items lists) where
  -- it is in order
  pub given-rising : (i : ℕ) → i < length r.rules.items → AreInOrder (given_at r.rules.items lists i)
  given-rising i low = let (rule, at) = there-at r.rules.items i low in (ordered.each i rule at).rising

  -- and its numbers are below that of the names
  pub given-low : (i : ℕ) → i < length r.rules.items → (g : ClassPermission) → Contains (given_at r.rules.items lists i) g → (g.class < length r.names.items) × (g.permission < length r.names.items)
  given-low i low g there =
      let (rule, at) = there-at r.rules.items i low in
      (rule-sound r i rule at).given_below g (((ordered.each i rule at).same g).0 there)

  pub classes-low : (i : ℕ) → i < length r.rules.items → AreBelow (length r.names.items) (given_at r.rules.items lists i)
  classes-low i low g there = (given-low i low g there).0

-- ---- rules of one set give the same

of-set-named : {A : Type 0} (names : List (List ℕ)) (p : ResolvedPermissions A) (set : ℕ) → is_of_set set p ≡ true → resolved_permissions_of names p ≡ of_set (slice_index_or names set [])
of-set-named names (permits.OfClass p) set is = absurd (true≢false (sym is))
of-set-named names (permits.OfSet s) set is = ap (λ n. of_set (slice_index_or names n [])) (eqb-true s.set set is)

same-given : {A : Type 0} (r : Resolved A) (a b : NumberedRule A) → IsSound r a → IsSound r b → (set : ℕ) → is_of_set set a.permissions ≡ true → is_of_set set b.permissions ≡ true
    → (g : ClassPermission) → Contains (given_in a.permissions) g → Contains (given_in b.permissions) g
same-given r a b sound_a sound_b set a_is b_is g there =
    let names = r.names.items in
    let one : resolved_permissions_of names b.permissions ≡ resolved_permissions_of names a.permissions = of-set-named names b.permissions set b_is ∙ sym (of-set-named names a.permissions set a_is) in
    let permits_a = sound_a.gives (name names g.class) (name names g.permission) ∙ named-to names (given_in a.permissions) g there in
    let permits_b = ap (λ p. permissions_permit (meaning_in r) p (name names g.class) (name names g.permission)) one ∙ permits_a in
    let (h, here, class_is, permission_is) =
    named-from names (given_in b.permissions) (name names g.class) (name names g.permission) (sym (sound_b.gives (name names g.class) (name names g.permission)) ∙ permits_b) in
    let g_low = sound_a.given_below g there in
    let h_low = sound_b.given_below h here in
    let classes = same-number names h.class g.class r.ordered h_low.0 g_low.0 class_is in
    let permissions = same-number names h.permission g.permission r.ordered h_low.1 g_low.1 (sym permission_is) in
    let same : h ≡ g = λ i. record { class = classes i; permission = permissions i } in
    subst (Contains (given_in b.permissions)) same here

-- what is known of a rule of a set
pub of-set-at : {A : Type 0} (rules : List (NumberedRule A)) (i set : ℕ) → set_at rules i ≡ Some set → (a : NumberedRule A) × (slice_get rules i ≡ Some a) × (is_of_set set a.permissions ≡ true)
of-set-at {A} rules i set is = by (slice_get rules i) refl is
  where
    of-set : (p : ResolvedPermissions A) → set_of p ≡ Some set → is_of_set set p ≡ true
    of-set (permits.OfClass p) none = absurd (none-some set none)
    of-set (permits.OfSet s) same = eq-eqb s.set set (same_Some s.set set same)

    by : (o : Option (NumberedRule A)) → slice_get rules i ≡ o → set_of_one o ≡ Some set → (a : NumberedRule A) × (slice_get rules i ≡ Some a) × (is_of_set set a.permissions ≡ true)
    by None at none = absurd (none-some set none)
    by (Some a) at same = (a, at, of-set a.permissions same)

pub same-set : {A : Type 0} (r : Resolved A) (lists : List (List ClassPermission)) → AreOrdered r.rules.items lists → (i j set : ℕ) → set_at r.rules.items i ≡ Some set → set_at r.rules.items j ≡ Some set
    → (g : ClassPermission) → Contains (given_at r.rules.items lists i) g → Contains (given_at r.rules.items lists j) g
same-set r lists ordered i j set i_is j_is g there =
    let (a, a_at, a_set) = of-set-at r.rules.items i set i_is in
    let (b, b_at, b_set) = of-set-at r.rules.items j set j_is in
    ((ordered.each j b b_at).same g).1
    (same-given r a b (rule-sound r i a a_at) (rule-sound r j b b_at) set a_set b_set g (((ordered.each i a a_at).same g).0 there))

-- the set of an allow rule of one
set-of-allow : {A : Type 0} (rules : List (NumberedRule A)) (set i : ℕ) → is_allow_of_set rules set i ≡ true → set_at rules i ≡ Some set
set-of-allow {A} rules set i is =
    let (a, at, kind, of) = set-rule rules set i is in
    ap set_of_one at ∙ by a.permissions of
  where
    by : (p : ResolvedPermissions A) → is_of_set set p ≡ true → set_of p ≡ Some set
    by (permits.OfClass p) none = absurd (true≢false (sym none))
    by (permits.OfSet s) same = ap Some (eqb-true s.set set same)

pub agree : {A : Type 0} (r : Resolved A) (lists : List (List ClassPermission)) → AreOrdered r.rules.items lists → DoAgree r.rules.items lists
agree r lists ordered i j (set, i_is, j_is) g there =
    same-set r lists ordered i j set (set-of-allow r.rules.items set i i_is) (set-of-allow r.rules.items set j j_is) g there

module _ {A : Type 0} (r : Resolved A) (members : Members A) (are : AreMembersBy r (symbols_in members) (count_now members.rows.now)) where
  held-aim : (target : ResolvedTarget) → is_target_below (length r.names.items) target ≡ true → is_aim_of (meaning_in r).types (meaning_in r).attributes (resolved_target_of r.names.items target) ≡ true
      → (source t : ℕ) → source < length r.names.items → t < length r.names.items → is_held_in members (aim_of target source) t ≡ aims (meaning_in r) (resolved_target_of r.names.items target) (name_in r source) (name_in r t)
  held-aim targets.Itself below declared source t source_low low = same-held r members are source t source_low low
  held-aim (targets.Element element) below declared source t source_low low = held-named r members are element below declared t low

  -- what a rule covers, by numbers and by names
  module _ (rule : NumberedRule A) (sound : IsSound r rule) (source target : ℕ) (source_low : source < length r.names.items) (target_low : target < length r.names.items) where
    pub covers-to : is_held_in members rule.source source ≡ true → is_held_in members (aim_of rule.target source) target ≡ true → (g : ClassPermission) → Contains (given_in rule.permissions) g
        → covers (meaning_in r) (rule_of r.modules.items r.names.items rule) (name_in r source) (name_in r target) (name_in r g.class) (name_in r g.permission) ≡ true
    covers-to held aimed g there =
        let m = meaning_in r in
        and_from (holds m (element_of r.names.items rule.source) (name_in r source)) _ (sym (held-named r members are rule.source sound.source_below sound.source_kept source source_low) ∙ held)
        (and_from (aims m (resolved_target_of r.names.items rule.target) (name_in r source) (name_in r target)) _ (sym (held-aim rule.target sound.target_below sound.target_kept source target source_low target_low) ∙ aimed)
        (sound.gives (name_in r g.class) (name_in r g.permission) ∙ named-to r.names.items (given_in rule.permissions) g there))

    pub covers-from : (c p : List ℕ) → covers (meaning_in r) (rule_of r.modules.items r.names.items rule) (name_in r source) (name_in r target) c p ≡ true
        → (is_held_in members rule.source source ≡ true) × (is_held_in members (aim_of rule.target source) target ≡ true)
        × ((g : ClassPermission) × Contains (given_in rule.permissions) g × (name_in r g.class ≡ c) × (p ≡ name_in r g.permission))
    covers-from c p covered =
        let m = meaning_in r in
        let first = and_parts (holds m (element_of r.names.items rule.source) (name_in r source)) _ covered in
        let second = and_parts (aims m (resolved_target_of r.names.items rule.target) (name_in r source) (name_in r target)) _ first.1 in (
          held-named r members are rule.source sound.source_below sound.source_kept source source_low ∙ first.0,
          held-aim rule.target sound.target_below sound.target_kept source target source_low target_low ∙ second.0,
          named-from r.names.items (given_in rule.permissions) c p (sym (sound.gives c p) ∙ second.1),
        )
