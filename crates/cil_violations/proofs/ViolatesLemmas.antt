-- The rows that pass the tests are the violations of the policy, in order.
use Rattle.cil_violations.proofs.Common.{◌≡◌, ◌≢◌, ◌↔◌, ◌∙◌, inl, inr, ℕ, ◌==◌, ◌&&◌, ◌<◌, Bool, true, List, [], ◌∷◌, length, map, Some, slice_get, Contains, bytes_eq, refl, sym, ap, subst, arith, AllByRecursion, IsStrictlySortedBy, nat_cmp, nat_cmp_total, ordering_then, ltb-true, and_parts, and_from, eqb-true, eq-eqb, cases_lt, tied_itself, get_or-map, length-map, slice_get_within, slice_get_read, get_or_from_slice_get, keeps_type, holds, aims, covers, AnyByRecursion, any_from, any-map, any_from_map, any_from_filter, any_from_test, contains_to, contains_from, any_weaker, all_weaker, sorted_map, all_from_contains, is_name_below, rule_of, element_of, resolved_target_of, declared_of, given_in, meaning_in, name_in, NumberedRule, ResolvedTarget, Resolved, ClassPermission, is_held_in, Violation, IsViolation, AreViolations, rule_cmp, violation_cmp, aim_of, AreInOrder, is_among, of_class, or_else, set_gives_at, permission_cmp, share, shared, is_allow, is_kind, rules_in, permissions_at, takes_source, takes_target, tests_of, all_rows, IsSearch, rule_in, no_rule, violation_by, IsRow, AreRows, RowNumbers, Search}
use Rattle.std.specs.Bool.{IsTrue}
use Rattle.std.proofs.lemmas.List.{get_or_past}
use Rattle.std.proofs.lemmas.Option.{slice_get_past}
use Rattle.std.proofs.lemmas.List.Elements.{recursion_from_All, All-from_recursion}
use Rattle.std.proofs.lemmas.List.Kept.{IsStrictlySortedBy-filter}
use Rattle.cil_specs.specs.Statements.{allow, neverallow}
use Rattle.cil_specs.specs.Rule as spec
use Rattle.cil_specs.specs.Rule.{kind_index}
use Rattle.cil_specs.specs.Report.{name_cmp}
use Rattle.cil_specs.proofs.ReportLemmas.{name_total, same-kind, sorted_from_names_rise}
use Rattle.cil_text.specs.Image.{rule_kind_of}
use Rattle.cil_resolve.specs.declared.numbered.ResolvedTarget.TheVariants as targets
use Rattle.cil_resolve.proofs.RisingNames.{same-number}
use Rattle.cil_specs.proofs.ViolationLemmas.{one-sorted, rule_total}
use Rattle.cil_violations.proofs.OrderLemmas.{ranked, row_cmp, rows-sorted}
use Rattle.cil_violations.proofs.TestLemmas.{is-there, if-at}
use Rattle.cil_violations.proofs.FoundLemmas.{Passes, found, passed}
use Rattle.cil_violations.proofs.ShareLemmas.{share-from, share-to}
use Rattle.cil_violations.proofs.MeaningLemmas.{IsSound, rule-sound, given-rising, witness, all-any, shared-to, shared-from, share-class, class-shared, of_class-to, of_class-from, covers-to, covers-from, bytes-same}

first-of : {X : Type 0} (xs : List X) → xs ≢ [] → (x : X) × Contains xs x
first-of [] some = absurd (some refl)
first-of (x ∷ xs) some = (x, contains_from (x ∷ xs) x (inl refl))

none-in : {X : Type 0} (xs : List X) (x : X) → Contains xs x → xs ≢ []
none-in xs x there empty = elim (contains_to [] x (subst (λ l. Contains l x) empty there)) [ ]

none-rise : AreInOrder []
unfolding IsStrictlySortedBy
none-rise = tt

module _ {A : Type 0} (s : Search A) (is : IsSearch s) where
  -- a row's rules, which meet at its source and target
  pub record Meets (row : RowNumbers) : Type 0 where
    pub never : NumberedRule A
    pub allowed : NumberedRule A
    pub never_at : slice_get (rules_in s) row.never ≡ Some never
    pub allowed_at : slice_get (rules_in s) row.allowed ≡ Some allowed
    pub forbids : is_kind 3 never ≡ true
    pub permits : is_kind 0 allowed ≡ true
    pub shares : share (of_class row.class (permissions_at s row.never)) (of_class row.class (permissions_at s row.allowed)) ≡ true
    pub source_low : row.source < length s.resolved.now.names.items
    pub target_low : row.target < length s.resolved.now.names.items
    pub class_low : row.class < length s.resolved.now.names.items
    pub never_source : is_held_in s.members never.source row.source ≡ true
    pub allowed_source : is_held_in s.members allowed.source row.source ≡ true
    pub never_target : is_held_in s.members (aim_of never.target row.source) row.target ≡ true
    pub allowed_target : is_held_in s.members (aim_of allowed.target row.source) row.target ≡ true

  pub meets : (row : RowNumbers) → Passes (tests_of s) (length (rules_in s)) (length s.resolved.now.names.items) row → Meets row
  meets row p =
      let (n, n_at, n_kind) = is-there (is_kind 3) (slice_get (rules_in s) row.never) p.never in
      let parts = and_parts (is_allow (rules_in s) row.allowed) (share (permissions_at s row.never) (permissions_at s row.allowed)) p.pair in
      let (a, a_at, a_kind) = is-there (is_kind 0) (slice_get (rules_in s) row.allowed) parts.0 in
      let sources = and_parts (takes_source s row.never row.source) (takes_source s row.allowed row.source) p.source in
      let aimed = and_parts (takes_target s row.never row.source row.target) (takes_target s row.allowed row.source row.target) p.target in
      record {
        never = n;
        allowed = a;
        never_at = n_at;
        allowed_at = a_at;
        forbids = n_kind;
        permits = a_kind;
        shares = p.the_class;
        source_low = p.source_below;
        target_low = p.target_below;
        class_low = p.class_below;
        never_source = sym (if-at (λ r. is_held_in s.members r.source row.source) (slice_get (rules_in s) row.never) n n_at) ∙ sources.0;
        allowed_source = sym (if-at (λ r. is_held_in s.members r.source row.source) (slice_get (rules_in s) row.allowed) a a_at) ∙ sources.1;
        never_target = sym (if-at (λ r. is_held_in s.members (aim_of r.target row.source) row.target) (slice_get (rules_in s) row.never) n n_at) ∙ aimed.0;
        allowed_target = sym (if-at (λ r. is_held_in s.members (aim_of r.target row.source) row.target) (slice_get (rules_in s) row.allowed) a a_at) ∙ aimed.1;
      }

  pub passes : (row : RowNumbers) → Meets row → Passes (tests_of s) (length (rules_in s)) (length s.resolved.now.names.items) row
  passes row m =
      let n = m.never in
      record {
        never_below = slice_get_within (rules_in s) row.never n m.never_at;
        allowed_below = slice_get_within (rules_in s) row.allowed m.allowed m.allowed_at;
        source_below = m.source_low;
        target_below = m.target_low;
        class_below = m.class_low;
        never = if-at (is_kind 3) (slice_get (rules_in s) row.never) n m.never_at ∙ m.forbids;
        pair =
            let (g, here, there, same) = class-shared row.class (permissions_at s row.never) (permissions_at s row.allowed) m.shares in
            and_from (is_allow (rules_in s) row.allowed) (share (permissions_at s row.never) (permissions_at s row.allowed))
            (if-at (is_kind 0) (slice_get (rules_in s) row.allowed) m.allowed m.allowed_at ∙ m.permits)
            (share-to (permissions_at s row.never) (permissions_at s row.allowed) g here there);
        the_class = m.shares;
        source =
            and_from (takes_source s row.never row.source) (takes_source s row.allowed row.source)
            (if-at (λ r. is_held_in s.members r.source row.source) (slice_get (rules_in s) row.never) n m.never_at ∙ m.never_source)
            (if-at (λ r. is_held_in s.members r.source row.source) (slice_get (rules_in s) row.allowed) m.allowed m.allowed_at ∙ m.allowed_source);
        target =
            and_from (takes_target s row.never row.source row.target) (takes_target s row.allowed row.source row.target)
            (if-at (λ r. is_held_in s.members (aim_of r.target row.source) row.target) (slice_get (rules_in s) row.never) n m.never_at ∙ m.never_target)
            (if-at (λ r. is_held_in s.members (aim_of r.target row.source) row.target) (slice_get (rules_in s) row.allowed) m.allowed m.allowed_at ∙ m.allowed_target);
      }

  -- what both rules of a row give of its class
  abbrev pub both-in : RowNumbers → List ClassPermission
  both-in row = shared (of_class row.class (permissions_at s row.never)) (of_class row.class (permissions_at s row.allowed))

  -- the violation of rules by numbers
  abbrev pub violation_of : (row : RowNumbers) → NumberedRule A → NumberedRule A → Violation
  violation_of row n a = record {
    never = rule_of s.resolved.now.modules.items s.resolved.now.names.items n;
    allowed = rule_of s.resolved.now.modules.items s.resolved.now.names.items a;
    source = name_in s.resolved.now row.source;
    target = name_in s.resolved.now row.target;
    the_class = name_in s.resolved.now row.class;
    permissions = map (λ g. name_in s.resolved.now g.permission) (both-in row);
  }

  rule-named : (i : ℕ) (rule : NumberedRule A) → slice_get (rules_in s) i ≡ Some rule → rule_in s.resolved.now i ≡ rule_of s.resolved.now.modules.items s.resolved.now.names.items rule
  rule-named i rule at =
      get_or-map (rule_of s.resolved.now.modules.items s.resolved.now.names.items) (rules_in s) i rule no_rule (slice_get_within (rules_in s) i rule at)
      ∙ ap (rule_of s.resolved.now.modules.items s.resolved.now.names.items) (get_or_from_slice_get (rules_in s) i rule rule at)

  pub by-rules : (row : RowNumbers) (m : Meets row) → violation_by s.resolved.now s.permissions.now.0 row ≡ violation_of row m.never m.allowed
  by-rules row m =
      let n = rule-named row.never m.never m.never_at in
      let a = rule-named row.allowed m.allowed m.allowed_at in
      λ k. record {
        never = n k;
        allowed = a k;
        source = name_in s.resolved.now row.source;
        target = name_in s.resolved.now row.target;
        the_class = name_in s.resolved.now row.class;
        permissions = map (λ g. name_in s.resolved.now g.permission) (both-in row);
      }

  rule-there : (i : ℕ) (rule : NumberedRule A) → slice_get (rules_in s) i ≡ Some rule → Contains (meaning_in s.resolved.now).rules (rule_of s.resolved.now.modules.items s.resolved.now.names.items rule)
  rule-there i rule at =
      let f = rule_of s.resolved.now.modules.items s.resolved.now.names.items in
      contains_from (map f (rules_in s)) (f rule)
      (any-map f (λ y. y ≡ f rule) (rules_in s)
      (any_weaker (λ x. x ≡ rule) (λ x. f x ≡ f rule) (λ x e. ap f e) (rules_in s) (contains_to (rules_in s) rule (i, slice_get_within (rules_in s) i rule at, get_or_from_slice_get (rules_in s) i rule rule at))))

  module _ (row : RowNumbers) (m : Meets row) where
    abbrev r : Resolved A
    r = s.resolved.now

    abbrev name : ClassPermission → List ℕ
    name g = name_in r g.permission

    -- what a rule gives, as it is listed
    abbrev first : List ClassPermission
    first = permissions_at s row.never

    abbrev second : List ClassPermission
    second = permissions_at s row.allowed

    never_sound : IsSound r m.never
    never_sound = rule-sound r row.never m.never m.never_at

    allowed_sound : IsSound r m.allowed
    allowed_sound = rule-sound r row.allowed m.allowed m.allowed_at

    in_never : (g : ClassPermission) → Contains first g ↔ Contains (given_in m.never.permissions) g
    in_never g = (is.permissions.each row.never m.never m.never_at).same g

    in_allowed : (g : ClassPermission) → Contains second g ↔ Contains (given_in m.allowed.permissions) g
    in_allowed g = (is.permissions.each row.allowed m.allowed m.allowed_at).same g

    -- what both rules cover at the source, the target and the class
    abbrev both-cover : List ℕ → Bool
    both-cover p =
        covers (meaning_in r) (violation_of row m.never m.allowed).never (name_in r row.source) (name_in r row.target) (name_in r row.class) p
        && covers (meaning_in r) (violation_of row m.never m.allowed).allowed (name_in r row.source) (name_in r row.target) (name_in r row.class) p

    covered : (p : List ℕ) → Contains (map name (both-in row)) p → both-cover p ≡ true
    covered p there =
        let (g, here, also, p_is) = shared-from name (of_class row.class first) (of_class row.class second) p there in
        let (one, same) = of_class-from row.class first g here in
        let (other, again) = of_class-from row.class second g also in
        let never =
        covers-to r s.members is.members m.never never_sound row.source row.target m.source_low m.target_low m.never_source m.never_target g ((in_never g).0 one) in
        let allowed =
        covers-to r s.members is.members m.allowed allowed_sound row.source row.target m.source_low m.target_low m.allowed_source m.allowed_target g ((in_allowed g).0 other) in
        (λ k. covers (meaning_in r) (violation_of row m.never m.allowed).never (name_in r row.source) (name_in r row.target) (name_in r (sym same k)) (p_is k)
        && covers (meaning_in r) (violation_of row m.never m.allowed).allowed (name_in r row.source) (name_in r row.target) (name_in r (sym same k)) (p_is k))
        ∙ and_from _ _ never allowed

    -- a number of the class that both give, where both cover a permission
    uncovered : (p : List ℕ) → both-cover p ≡ true → Contains (map name (both-in row)) p
    uncovered p both =
        let parts = and_parts _ _ both in
        let one = covers-from r s.members is.members m.never never_sound row.source row.target m.source_low m.target_low (name_in r row.class) p parts.0 in
        let two = covers-from r s.members is.members m.allowed allowed_sound row.source row.target m.source_low m.target_low (name_in r row.class) p parts.1 in
        let (g, here, g_class, g_is) = one.2 in
        let (h, there, h_class, h_is) = two.2 in
        let g_low = never_sound.given_below g here in
        let h_low = allowed_sound.given_below h there in
        let g_at = same-number r.names.items g.class row.class r.ordered g_low.0 m.class_low g_class in
        let h_at = same-number r.names.items h.class row.class r.ordered h_low.0 m.class_low h_class in
        let permission = same-number r.names.items h.permission g.permission r.ordered h_low.1 g_low.1 (sym h_is ∙ g_is) in
        let same : h ≡ g = λ k. record { class = (h_at ∙ sym g_at) k; permission = permission k } in
        subst (Contains (map name (both-in row))) (sym g_is)
        (shared-to name (of_class row.class first) (of_class row.class second) g (of_class-to row.class first g ((in_never g).1 here) g_at)
        (of_class-to row.class second g ((in_allowed g).1 (subst (Contains (given_in m.allowed.permissions)) same there)) g_at))

    -- what both give of the class, in order
    of-class-low : AllByRecursion (λ g. (g.class ≡ row.class) × (g.permission < length r.names.items)) (both-in row)
    of-class-low =
        recursion_from_All (λ g. (g.class ≡ row.class) × (g.permission < length r.names.items)) (both-in row)
        (all_from_contains (λ g. (g.class ≡ row.class) × (g.permission < length r.names.items)) (both-in row)
        (λ g c.
        let (x, here, at) = witness (λ x. (x ≡ g) × IsTrue (is_among (of_class row.class second) x)) (of_class row.class first)
        (any_from_filter (is_among (of_class row.class second)) (λ x. x ≡ g) (of_class row.class first) (contains_to (both-in row) g c)) in
        let (there, same) = of_class-from row.class first x here in
        subst (λ (y : ClassPermission). (y.class ≡ row.class) × (y.permission < length r.names.items)) at.0
        (same, (never_sound.given_below x ((in_never x).0 there)).1)))

    names-rise : (x y : ClassPermission) → (x.class ≡ row.class) × (x.permission < length r.names.items) → (y.class ≡ row.class) × (y.permission < length r.names.items)
        → name_cmp (name x) (name y) ≡ permission_cmp x y
    names-rise x y px py =
        ranked name_cmp name_total r.names.items [] (sorted_from_names_rise r.names.items r.ordered) x.permission y.permission px.1 py.1
        ∙ sym (ap (λ o. ordering_then o (nat_cmp x.permission y.permission)) (ap (nat_cmp x.class) (py.0 ∙ sym px.0) ∙ tied_itself nat_cmp_total x.class))

    pub violates : IsViolation (meaning_in s.resolved.now) (violation_of row m.never m.allowed)
    violates = record {
      never = rule-there row.never m.never m.never_at;
      forbids = same-kind (rule_kind_of m.never.kind) neverallow (eqb-true (kind_index (rule_kind_of m.never.kind)) 3 m.forbids);
      allowed = rule-there row.allowed m.allowed m.allowed_at;
      permits = same-kind (rule_kind_of m.allowed.kind) allow (eqb-true (kind_index (rule_kind_of m.allowed.kind)) 0 m.permits);
      some =
          let (g, here, also) = share-from (of_class row.class first) (of_class row.class second) m.shares in
          none-in (map name (both-in row)) (name g) (shared-to name (of_class row.class first) (of_class row.class second) g here also);
      ordered =
          sorted_map name permission_cmp name_cmp (λ g. (g.class ≡ row.class) × (g.permission < length r.names.items)) names-rise (both-in row) of-class-low
          (IsStrictlySortedBy-filter permission_cmp (is_among (of_class row.class second)) (of_class row.class first)
          (IsStrictlySortedBy-filter permission_cmp (λ g. g.class == row.class) first (is.permissions.each row.never m.never m.never_at).rising));
      exact = λ p. (covered p, uncovered p);
    }

  -- the place of a rule
  rule-found : (x : spec.Rule) → Contains (meaning_in s.resolved.now).rules x → (i : ℕ) × (n : NumberedRule A) × (slice_get (rules_in s) i ≡ Some n) × (rule_of s.resolved.now.modules.items s.resolved.now.names.items n ≡ x)
  rule-found x there =
      let f = rule_of s.resolved.now.modules.items s.resolved.now.names.items in
      let (i, n, within, at, named) = any_from (λ n. f n ≡ x) (rules_in s) (any_from_map f (λ y. y ≡ x) (rules_in s) (contains_to (map f (rules_in s)) x there)) in
      (i, n, slice_get_read (rules_in s) (length (rules_in s)) i n refl within (sym at), named)

  -- the number of a type's name
  type-number : (t : List ℕ) → keeps_type (meaning_in s.resolved.now) t ≡ true → (k : ℕ) × (k < length s.resolved.now.names.items) × (t ≡ name_in s.resolved.now k)
  type-number t kept =
      let r = s.resolved.now in
      let f = declared_of r.modules.items r.names.items in
      let (d, there, named) = witness (λ d. bytes_eq t (f d).name ≡ true) r.types.items (any_from_map f (λ d. bytes_eq t d.name ≡ true) r.types.items (any_from_test (λ d. bytes_eq t d.name) (map f r.types.items) kept)) in (
        d.name,
        ltb-true d.name (length r.names.items) (all-any (is_name_below (length r.names.items)) r.types.items d r.types_within (contains_to r.types.items d there)),
        bytes-same t (name_in r d.name) named,
      )

  -- and that of a target's
  target-number : (target : ResolvedTarget) (source t : List ℕ) (k : ℕ) → aims (meaning_in s.resolved.now) (resolved_target_of s.resolved.now.names.items target) source t ≡ true
      → k < length s.resolved.now.names.items → source ≡ name_in s.resolved.now k → (j : ℕ) × (j < length s.resolved.now.names.items) × (t ≡ name_in s.resolved.now j)
  target-number targets.Itself source t k aimed low named = (k, low, sym (bytes-same source t aimed) ∙ named)
  target-number (targets.Element element) source t k aimed low named =
      type-number t (and_parts (keeps_type (meaning_in s.resolved.now) t) _ aimed).0

  -- the violation of a policy is that of a row
  pub row-of : (v : Violation) → IsViolation (meaning_in s.resolved.now) v → (row : RowNumbers) × Meets row × (violation_by s.resolved.now s.permissions.now.0 row ≡ v)
  row-of v violation =
      let r = s.resolved.now in
      let m = meaning_in r in
      let name = name_in r in
      let f = rule_of r.modules.items r.names.items in
      let (i, n, n_at, n_is) = rule-found v.never violation.never in
      let (j, a, a_at, a_is) = rule-found v.allowed violation.allowed in
      let (p, p_there) = first-of v.permissions violation.some in
      let both = and_parts _ _ ((violation.exact p).0 p_there) in
      let n_covers : covers m (f n) v.source v.target v.the_class p ≡ true = subst (λ x. covers m x v.source v.target v.the_class p ≡ true) (sym n_is) both.0 in
      let a_covers : covers m (f a) v.source v.target v.the_class p ≡ true = subst (λ x. covers m x v.source v.target v.the_class p ≡ true) (sym a_is) both.1 in
      let parts = and_parts (holds m (element_of r.names.items n.source) v.source) _ n_covers in
      let (source, source_low, source_is) = type-number v.source (and_parts (keeps_type m v.source) _ parts.0).0 in
      let aimed = and_parts (aims m (resolved_target_of r.names.items n.target) v.source v.target) _ parts.1 in
      let (target, target_low, target_is) = target-number n.target v.source v.target source aimed.0 source_low source_is in
      let n_sound = rule-sound r i n n_at in
      let a_sound = rule-sound r j a a_at in
      let one =
      covers-from r s.members is.members n n_sound source target source_low target_low v.the_class p (subst (λ t. covers m (f n) t (name target) v.the_class p ≡ true) source_is (subst (λ t. covers m (f n) v.source t v.the_class p ≡ true) target_is n_covers)) in
      let two =
      covers-from r s.members is.members a a_sound source target source_low target_low v.the_class p (subst (λ t. covers m (f a) t (name target) v.the_class p ≡ true) source_is (subst (λ t. covers m (f a) v.source t v.the_class p ≡ true) target_is a_covers)) in
      let (g, here, g_class, g_is) = one.2 in
      let (h, there, h_class, h_is) = two.2 in
      let g_low = n_sound.given_below g here in
      let h_low = a_sound.given_below h there in
      let classes = same-number r.names.items h.class g.class r.ordered h_low.0 g_low.0 (h_class ∙ sym g_class) in
      let permission = same-number r.names.items h.permission g.permission r.ordered h_low.1 g_low.1 (sym h_is ∙ g_is) in
      let same : h ≡ g = λ k. record { class = classes k; permission = permission k } in
      let row : RowNumbers = record { never = i; allowed = j; source = source; target = target; class = g.class } in
      let met : Meets row = record {
        never = n;
        allowed = a;
        never_at = n_at;
        allowed_at = a_at;
        forbids = eq-eqb (kind_index (rule_kind_of n.kind)) 3 (ap (λ x. kind_index x.kind) n_is ∙ ap kind_index violation.forbids);
        permits = eq-eqb (kind_index (rule_kind_of a.kind)) 0 (ap (λ x. kind_index x.kind) a_is ∙ ap kind_index violation.permits);
        shares =
            share-class g.class (permissions_at s i) (permissions_at s j) g refl (((is.permissions.each i n n_at).same g).1 here)
            (((is.permissions.each j a a_at).same g).1 (subst (Contains (given_in a.permissions)) same there));
        source_low = source_low;
        target_low = target_low;
        class_low = g_low.0;
        never_source = one.0;
        allowed_source = two.0;
        never_target = one.1;
        allowed_target = two.1;
      } in
      (row, met, by-rules row met ∙ same-violation row met v violation n_is a_is (sym source_is) (sym target_is) g_class)
    where
      same-violation : (row : RowNumbers) (met : Meets row) (v : Violation) → IsViolation (meaning_in s.resolved.now) v → (violation_of row met.never met.allowed).never ≡ v.never → (violation_of row met.never met.allowed).allowed ≡ v.allowed
          → name_in s.resolved.now row.source ≡ v.source → name_in s.resolved.now row.target ≡ v.target → name_in s.resolved.now row.class ≡ v.the_class → violation_of row met.never met.allowed ≡ v
      same-violation row met v violation n_is a_is source_is target_is class_is =
          let m = meaning_in s.resolved.now in
          let w = violates row met in
          let cover : (p : List ℕ) → (covers m (violation_of row met.never met.allowed).never (name_in s.resolved.now row.source) (name_in s.resolved.now row.target) (name_in s.resolved.now row.class) p
          && covers m (violation_of row met.never met.allowed).allowed (name_in s.resolved.now row.source) (name_in s.resolved.now row.target) (name_in s.resolved.now row.class) p)
          ≡ (covers m v.never v.source v.target v.the_class p && covers m v.allowed v.source v.target v.the_class p) =
          λ p k. covers m (n_is k) (source_is k) (target_is k) (class_is k) p && covers m (a_is k) (source_is k) (target_is k) (class_is k) p in
          let listed = (violation_of row met.never met.allowed).permissions in
          let permissions : listed ≡ v.permissions =
          one-sorted name_cmp name_total listed v.permissions w.ordered violation.ordered
          (λ p c. contains_to v.permissions p ((violation.exact p).1 (sym (cover p) ∙ (w.exact p).0 (contains_from listed p c))))
          (λ p c. contains_to listed p ((w.exact p).1 (cover p ∙ (violation.exact p).0 (contains_from v.permissions p c)))) in
          λ k. record { never = n_is k; allowed = a_is k; source = source_is k; target = target_is k; the_class = class_is k; permissions = permissions k }

  -- the order of violations is that of their numbers
  same-order : IsStrictlySortedBy rule_cmp (meaning_in s.resolved.now).rules → (x y : RowNumbers) → Passes (tests_of s) (length (rules_in s)) (length s.resolved.now.names.items) x
      → Passes (tests_of s) (length (rules_in s)) (length s.resolved.now.names.items) y
      → violation_cmp (violation_by s.resolved.now s.permissions.now.0 x) (violation_by s.resolved.now s.permissions.now.0 y) ≡ row_cmp x y
  same-order ascend x y px py =
      let r = s.resolved.now in
      let rules = (meaning_in r).rules in
      let mapped = length-map (rules_in s) (rule_of r.modules.items r.names.items) in
      let x_never = px.never_below in
      let y_never = py.never_below in
      let x_allowed = px.allowed_below in
      let y_allowed = py.allowed_below in
      let rise = sorted_from_names_rise r.names.items r.ordered in
      let never = ranked rule_cmp rule_total rules no_rule ascend x.never y.never (omega (arith, x_never, mapped)) (omega (arith, y_never, mapped)) in
      let allowed = ranked rule_cmp rule_total rules no_rule ascend x.allowed y.allowed (omega (arith, x_allowed, mapped)) (omega (arith, y_allowed, mapped)) in
      let source = ranked name_cmp name_total r.names.items [] rise x.source y.source px.source_below py.source_below in
      let target = ranked name_cmp name_total r.names.items [] rise x.target y.target px.target_below py.target_below in
      let the_class = ranked name_cmp name_total r.names.items [] rise x.class y.class px.class_below py.class_below in
      λ k. ordering_then (never k) (ordering_then (allowed k) (ordering_then (source k) (ordering_then (target k) (the_class k))))

  all-pass : (rows : List RowNumbers) → ((x : RowNumbers) → AnyByRecursion (λ y. y ≡ x) rows → Passes (tests_of s) (length (rules_in s)) (length s.resolved.now.names.items) x)
      → AllByRecursion (Passes (tests_of s) (length (rules_in s)) (length s.resolved.now.names.items)) rows
  all-pass [] each = tt
  all-pass (x ∷ rows) each = (each x (inl refl), all-pass rows (λ y there. each y (inr there)))

  pub rows-pass : AllByRecursion (Passes (tests_of s) (length (rules_in s)) (length s.resolved.now.names.items)) (all_rows (tests_of s) (length (rules_in s)) (length s.resolved.now.names.items))
  rows-pass = all-pass (all_rows (tests_of s) (length (rules_in s)) (length s.resolved.now.names.items)) (λ x there. passed (tests_of s) (length (rules_in s)) (length s.resolved.now.names.items) x there)

  -- The rows that are found are the violations.
  pub are-violations : IsStrictlySortedBy rule_cmp (meaning_in s.resolved.now).rules
      → AreViolations (meaning_in s.resolved.now) (map (violation_by s.resolved.now s.permissions.now.0) (all_rows (tests_of s) (length (rules_in s)) (length s.resolved.now.names.items)))
  are-violations ascend =
      let by = violation_by s.resolved.now s.permissions.now.0 in
      let rows = all_rows (tests_of s) (length (rules_in s)) (length s.resolved.now.names.items) in
      record {
        ordered = sorted_map by row_cmp violation_cmp (Passes (tests_of s) (length (rules_in s)) (length s.resolved.now.names.items)) (same-order ascend) rows rows-pass (rows-sorted (tests_of s) (length (rules_in s)) (length s.resolved.now.names.items));
        exact = λ v. (
          λ there.
              let (row, here, named) = witness (λ x. by x ≡ v) rows (any_from_map by (λ w. w ≡ v) rows (contains_to (map by rows) v there)) in
              let met = meets row (passed (tests_of s) (length (rules_in s)) (length s.resolved.now.names.items) row (contains_to rows row here)) in
              subst (IsViolation (meaning_in s.resolved.now)) (sym (by-rules row met) ∙ named) (violates row met),
          λ violation.
              let (row, met, named) = row-of v violation in
              contains_from (map by rows) v
              (any-map by (λ w. w ≡ v) rows (any_weaker (λ x. x ≡ row) (λ x. by x ≡ v) (λ x e. ap by e ∙ named) rows (found (tests_of s) (length (rules_in s)) (length s.resolved.now.names.items) row (passes row met)))),
        );
      }

  -- and there are rules at their places
  pub are-rows : AreRows s.resolved.now s.permissions.now.0 (all_rows (tests_of s) (length (rules_in s)) (length s.resolved.now.names.items))
  are-rows =
      let rows = all_rows (tests_of s) (length (rules_in s)) (length s.resolved.now.names.items) in
      let rules = (meaning_in s.resolved.now).rules in
      let mapped : length rules ≡ length (rules_in s) = length-map (rules_in s) (rule_of s.resolved.now.modules.items s.resolved.now.names.items) in
      record {
        listed = record { len = is.permissions.len; rising = all-rising };
        each =
            All-from_recursion (IsRow (length rules)) rows
            (all_weaker (Passes (tests_of s) (length (rules_in s)) (length s.resolved.now.names.items)) (IsRow (length rules))
            (λ x p. record { never = subst (λ n. x.never < n) (sym mapped) p.never_below; allowed = subst (λ n. x.allowed < n) (sym mapped) p.allowed_below }) rows rows-pass);
      }
    where
      all-rising : (i : ℕ) → AreInOrder (permissions_at s i)
      all-rising i = elim (cases_lt i (length (rules_in s))) [
        | inl low ↦ given-rising s.resolved.now s.permissions.now.0 is.permissions i low
        | inr past ↦
            let len = is.permissions.len in
            subst AreInOrder (sym (λ k. or_else (get_or_past s.permissions.now.0 i [] (omega (arith, past, len)) k) (set_gives_at (slice_get_past (rules_in s) i past k)))) none-rise
      ]
