-- What rules give, by symbols and by full names.
use Rattle.std.proofs.Common.{◌≡◌, ℕ, zero, suc, ◌<◌, ◌≤◌, ◌==◌, ◌&&◌, ◌||◌, ◌⊎◌, Bool, true, false, bytes_eq, length, map, List, [], ◌∷◌, nat_lt, slice_get, slice_index, slice_index_or, Some, refl, sym, ap, ◌∙◌, subst, inl, inr, arith, true≢false}
use Rattle.std.specs.List.{list_any, list_all}
use Rattle.std.proofs.Math.Bool.{and-false}
use Rattle.std.proofs.lemmas.Bool.{cases_Bool, cases_lt, eq-eqb, eqb-true, ltb-true, lt-ltb, ne_eqb}
use Rattle.std.proofs.lemmas.List.{length-map}
use Rattle.std.proofs.lemmas.Option.{slice_get_within, get_or_from_slice_get, slice_get-get_or}
use Rattle.std.proofs.lemmas.Slice.Eq.{bytes_eq-Decides}
use Rattle.cil_bind.proofs.DeclareLemmas.{same-bool}
use Rattle.cil_specs.specs.Meaning.{aims, gives, holds, keeps_type, permissions_permit, permits, Meaning}
use Rattle.cil_specs.specs.Members.{is_member, keeps_element}
use Rattle.cil_specs.specs.Rule as spec
use Rattle.cil_specs.specs.Rule.{Declared}
use Rattle.cil_parse.specs.Lexicon.{AreNumbersOf}
use Rattle.cil_expression.specs.declared.expression.Element.{Element}
use Rattle.cil_expression.specs.declared.expression.Element.TheVariants.{«Type», Attribute}
use Rattle.cil_keyed_lines.specs.Keyed.{is_kind}
use Rattle.cil_keyed_lines.specs.declared.symbol_key.SymbolKey.{SymbolKey}
use Rattle.cil_resolve.specs.Below.{are_permissions_below, is_element_below, is_permission_below, is_rule_below, is_target_below}
use Rattle.cil_resolve.specs.Consistent.{is_aim_of, is_declared, is_element_of, is_rule_of}
use Rattle.cil_resolve.specs.Numbers.{element_of, given_in, has_named, resolved_permissions_of, resolved_target_of, rule_of, GivesNumbered}
use Rattle.cil_resolve.specs.Resolved.{meaning_in}
use Rattle.cil_resolve.specs.Sets.{name_in}
use Rattle.cil_resolve.specs.declared.numbered.NumberedRule.{NumberedRule}
use Rattle.cil_resolve.specs.declared.numbered.ResolvedPermissions.{ResolvedPermissions}
use Rattle.cil_resolve.specs.declared.numbered.ResolvedPermissions.TheVariants as kinds
use Rattle.cil_resolve.specs.declared.numbered.ResolvedTarget.{ResolvedTarget}
use Rattle.cil_resolve.specs.declared.numbered.ResolvedTarget.TheVariants as targets
use Rattle.cil_resolve.specs.declared.resolved.Resolved.{Resolved}
use Rattle.cil_resolve.specs.declared.set_permissions.ClassPermission.{ClassPermission}
use Rattle.cil_rule_reach.specs.Named.{atom_of, is_named, name_at, AreMembersOf}
use Rattle.cil_rule_reach.specs.Reaches.{aims_by, covers_by, has_by, permits_by}

and-first : (a b : Bool) → (a && b) ≡ true → a ≡ true
and-first true b e = refl
and-first false b e = e

and-second : (a b : Bool) → (a && b) ≡ true → b ≡ true
and-second true b e = e
and-second false true e = refl
and-second false false e = e

and-again : (a b c : Bool) → ((a && b) && c) ≡ (a && (b && c))
and-again true b c = refl
and-again false b c = refl

turned : (xs ys : List ℕ) → bytes_eq xs ys ≡ bytes_eq ys xs
turned xs ys =
    same-bool (bytes_eq xs ys) (bytes_eq ys xs)
    (λ e. (bytes_eq-Decides ys xs).1 (sym ((bytes_eq-Decides xs ys).0 e)))
    (λ e. (bytes_eq-Decides xs ys).1 (sym ((bytes_eq-Decides ys xs).0 e)))

-- what is declared is kept
kept-as : (ds : List Declared) (name : List ℕ) → is_declared ds name ≡ list_any (λ d. bytes_eq name d.name) ds
kept-as [] name = refl
kept-as (d ∷ ds) name = ap (λ b. b || is_declared ds name) (turned d.name name) ∙ ap (λ b. bytes_eq name d.name || b) (kept-as ds name)

pub element-kept : (meaning : Meaning) (element : spec.Element) → is_element_of meaning.types meaning.attributes element ≡ true → keeps_element meaning element ≡ true
element-kept meaning (spec.a_type name) declared = sym (kept-as meaning.types name) ∙ declared
element-kept meaning (spec.an_attribute name) declared = sym (kept-as meaning.attributes name) ∙ declared

module _ {A : Type 0} (r : Resolved A) where
  abbrev bounded : ClassPermission → Bool
  bounded = is_permission_below (length r.names.items)

  -- the permissions that are given have names, with their classes
  below-given : (permissions : ResolvedPermissions A) → are_permissions_below (length r.names.items) permissions ≡ true → list_all bounded (given_in permissions) ≡ true
  below-given (kinds.OfClass p) below = of_class p.given (and-second (nat_lt p.class (length r.names.items)) _ below)
    where
      of_class : (ps : List ℕ) → list_all (λ q. nat_lt q (length r.names.items)) ps ≡ true → list_all bounded (map (λ n. record { class = p.class; permission = n }) ps) ≡ true
      of_class [] low = refl
      of_class (q ∷ qs) low =
          ap (λ b. (b && nat_lt q (length r.names.items)) && list_all bounded (map (λ n. record { class = p.class; permission = n }) qs)) (and-first (nat_lt p.class (length r.names.items)) _ below)
          ∙ ap (λ b. b && list_all bounded (map (λ n. record { class = p.class; permission = n }) qs)) (and-first (nat_lt q (length r.names.items)) _ low)
          ∙ of_class qs (and-second (nat_lt q (length r.names.items)) _ low)
  below-given (kinds.OfSet s) below = and-second (nat_lt s.set (length r.names.items)) _ below

  -- the parts of a rule's bound
  pub record IsBelow (rule : NumberedRule A) : Type 0 where
    pub source : is_element_below (length r.names.items) rule.source ≡ true
    pub target : is_target_below (length r.names.items) rule.target ≡ true
    pub permissions : are_permissions_below (length r.names.items) rule.permissions ≡ true
    pub given : list_all (is_permission_below (length r.names.items)) (given_in rule.permissions) ≡ true

  pub is-below : (rule : NumberedRule A) → is_rule_below (length r.names.items) rule ≡ true → IsBelow rule
  is-below rule below =
      let rest = and-second (is_element_below (length r.names.items) rule.source) (is_target_below (length r.names.items) rule.target && are_permissions_below (length r.names.items) rule.permissions) below in
      let last = and-second (is_target_below (length r.names.items) rule.target) (are_permissions_below (length r.names.items) rule.permissions) rest in
      record {
        source = and-first (is_element_below (length r.names.items) rule.source) (is_target_below (length r.names.items) rule.target && are_permissions_below (length r.names.items) rule.permissions) below;
        target = and-first (is_target_below (length r.names.items) rule.target) (are_permissions_below (length r.names.items) rule.permissions) rest;
        permissions = last;
        given = below-given rule.permissions last;
      }

module _ {A : Type 0} (r : Resolved A) (all : List (List ℕ)) (symbols : List ℕ) (apart : (i j : ℕ) (name : List ℕ) → slice_get all i ≡ Some name → slice_get all j ≡ Some name → i ≡ j) (numbers : AreNumbersOf all symbols r.names.items) where
  abbrev count : ℕ
  count = length r.names.items

  pub as-many : length symbols ≡ count
  as-many = sym (length-map symbols (slice_get all)) ∙ ap (λ l. length l) numbers ∙ length-map r.names.items Some

  -- the symbol of a name is that of the name
  pub symbol-named : (n : ℕ) → n < count → slice_get all (slice_index symbols n) ≡ Some (name_in r n)
  symbol-named n low = named symbols r.names.items n numbers low
    where
      named : (ss : List ℕ) (names : List (List ℕ)) (k : ℕ) → map (slice_get all) ss ≡ map Some names → k < length names → slice_get all (slice_index ss k) ≡ Some (slice_index_or names k [])
      named [] [] k same within = absurd (omega (arith, within))
      named [] (name ∷ names) k same within = absurd (cc same)
      named (s ∷ ss) [] k same within = absurd (cc same)
      named (s ∷ ss) (name ∷ names) zero same within = cc same
      named (s ∷ ss) (name ∷ names) (suc k) same within = named ss names k (cc same) (omega (arith, within))

  pub symbol-within : (n : ℕ) → n < count → slice_index symbols n < length all
  symbol-within n low = slice_get_within all (slice_index symbols n) (name_in r n) (symbol-named n low)

  pub symbol-name : (n : ℕ) → n < count → name_at all (slice_index symbols n) ≡ name_in r n
  symbol-name n low = get_or_from_slice_get all (slice_index symbols n) (name_in r n) [] (symbol-named n low)

  -- symbols are the same where their names are
  pub same-symbol : (n t : ℕ) → n < count → t < length all → (slice_index symbols n == t) ≡ bytes_eq (name_in r n) (name_at all t)
  same-symbol n t low within = same-bool (slice_index symbols n == t) (bytes_eq (name_in r n) (name_at all t)) to from
    where
      to : (slice_index symbols n == t) ≡ true → bytes_eq (name_in r n) (name_at all t) ≡ true
      to e = (bytes_eq-Decides (name_in r n) (name_at all t)).1 (sym (symbol-name n low) ∙ ap (name_at all) (eqb-true (slice_index symbols n) t e))

      from : bytes_eq (name_in r n) (name_at all t) ≡ true → (slice_index symbols n == t) ≡ true
      from e =
          eq-eqb (slice_index symbols n) t
          (apart (slice_index symbols n) t (name_in r n) (symbol-named n low)
          (slice_get-get_or all t [] within ∙ ap Some (sym ((bytes_eq-Decides (name_in r n) (name_at all t)).0 e))))

  -- and none is that of no name
  pub no-symbol : (n t : ℕ) → n < count → length all ≤ t → (slice_index symbols n == t) ≡ false
  no-symbol n t low past = ne_eqb (slice_index symbols n) t (λ e. let within = symbol-within n low in omega (arith, within, past, e))

  module _ (members : ℕ → ℕ → ℕ) (are : AreMembersOf all (meaning_in r) members) where
    pub has-named : (element : Element) (t : ℕ) → is_element_below count element ≡ true → keeps_element (meaning_in r) (element_of r.names.items element) ≡ true → t < length all
        → has_by members symbols element t ≡ holds (meaning_in r) (element_of r.names.items element) (name_at all t)
    unfolding is_member
    has-named («Type» n) t below kept within =
        elim (cases_Bool (bytes_eq (name_in r n) (name_at all t))) [
          | inl same ↦
              same-symbol n t low within
              ∙ sym (ap (λ b. b && bytes_eq (name_in r n) (name_at all t)) (subst (λ name. keeps_type (meaning_in r) name ≡ true) ((bytes_eq-Decides (name_in r n) (name_at all t)).0 same) kept))
          | inr other ↦
              same-symbol n t low within ∙ other
              ∙ sym (ap (λ b. keeps_type (meaning_in r) (name_at all t) && b) other ∙ and-false (keeps_type (meaning_in r) (name_at all t)))
        ]
      where
        low : n < count
        low = ltb-true n count below
    has-named (Attribute a) t below kept within =
        let low = ltb-true a count below in
        are.are (slice_index symbols a) t (symbol-within a low) within ∙ ap (λ name. is_member (meaning_in r) name (name_at all t)) (symbol-name a low)

    pub has-none : (element : Element) (t : ℕ) → is_element_below count element ≡ true → length all ≤ t → has_by members symbols element t ≡ false
    has-none («Type» n) t below past = no-symbol n t (ltb-true n count below) past
    has-none (Attribute a) t below past = ap (nat_lt 0) (are.no_type (slice_index symbols a) t past)

    aims-named : (target : ResolvedTarget) (s t : ℕ) → is_target_below count target ≡ true → is_aim_of (meaning_in r).types (meaning_in r).attributes (resolved_target_of r.names.items target) ≡ true
        → s < length all → t < length all → aims_by members symbols target s t ≡ aims (meaning_in r) (resolved_target_of r.names.items target) (name_at all s) (name_at all t)
    aims-named targets.Itself s t below declared s_within t_within = same-bool (s == t) (bytes_eq (name_at all s) (name_at all t)) to from
      where
        to : (s == t) ≡ true → bytes_eq (name_at all s) (name_at all t) ≡ true
        to e = (bytes_eq-Decides (name_at all s) (name_at all t)).1 (ap (name_at all) (eqb-true s t e))

        from : bytes_eq (name_at all s) (name_at all t) ≡ true → (s == t) ≡ true
        from e = eq-eqb s t (apart s t (name_at all s) (slice_get-get_or all s [] s_within) (slice_get-get_or all t [] t_within ∙ ap Some (sym ((bytes_eq-Decides (name_at all s) (name_at all t)).0 e))))
    aims-named (targets.Element element) s t below declared s_within t_within =
        has-named element t below (element-kept (meaning_in r) (element_of r.names.items element) declared) t_within

    -- whether a permission of a class has these symbols
    abbrev is_this : ℕ → ℕ → ClassPermission → Bool
    is_this c p g = (slice_index symbols g.class == c) && (slice_index symbols g.permission == p)

    -- one of these has them where it has their names
    listed-named : (c p : ℕ) (gs : List ClassPermission) → c < length all → p < length all → list_all (is_permission_below count) gs ≡ true
        → list_any (is_this c p) gs ≡ has_named r.names.items gs (name_at all c) (name_at all p)
    listed-named c p [] class_within within below = refl
    listed-named c p (g ∷ gs) class_within within below =
        let bound = and-first (is_permission_below count g) (list_all (is_permission_below count) gs) below in
        let class_low = ltb-true g.class count (and-first (nat_lt g.class count) (nat_lt g.permission count) bound) in
        let low = ltb-true g.permission count (and-second (nat_lt g.class count) (nat_lt g.permission count) bound) in
        ap (λ b. (b && (slice_index symbols g.permission == p)) || list_any (is_this c p) gs) (same-symbol g.class c class_low class_within)
        ∙ ap (λ b. (bytes_eq (name_in r g.class) (name_at all c) && b) || list_any (is_this c p) gs) (same-symbol g.permission p low within ∙ turned (name_in r g.permission) (name_at all p))
        ∙ ap (λ b. (bytes_eq (name_in r g.class) (name_at all c) && bytes_eq (name_at all p) (name_in r g.permission)) || b)
        (listed-named c p gs class_within within (and-second (is_permission_below count g) (list_all (is_permission_below count) gs) below))

    listed-none : (c p : ℕ) (gs : List ClassPermission) → (length all ≤ c) ⊎ (length all ≤ p) → list_all (is_permission_below count) gs ≡ true → list_any (is_this c p) gs ≡ false
    listed-none c p [] past below = refl
    listed-none c p (g ∷ gs) past below =
        ap (λ b. b || list_any (is_this c p) gs) (by past) ∙ listed-none c p gs past (and-second (is_permission_below count g) (list_all (is_permission_below count) gs) below)
      where
        bound : is_permission_below count g ≡ true
        bound = and-first (is_permission_below count g) (list_all (is_permission_below count) gs) below

        by : (length all ≤ c) ⊎ (length all ≤ p) → is_this c p g ≡ false
        by (inl far) = ap (λ b. b && (slice_index symbols g.permission == p)) (no-symbol g.class c (ltb-true g.class count (and-first (nat_lt g.class count) (nat_lt g.permission count) bound)) far)
        by (inr far) =
            ap (λ b. (slice_index symbols g.class == c) && b) (no-symbol g.permission p (ltb-true g.permission count (and-second (nat_lt g.class count) (nat_lt g.permission count) bound)) far)
            ∙ and-false (slice_index symbols g.class == c)

    -- what a rule permits by symbols, it permits by names
    pub permits-named : (rule : NumberedRule A) (c p : ℕ) → is_rule_below count rule ≡ true → GivesNumbered (meaning_in r) r.modules.items r.names.items rule → c < length all → p < length all
        → permits_by symbols rule c p ≡ permits (meaning_in r) (rule_of r.modules.items r.names.items rule) (name_at all c) (name_at all p)
    permits-named rule c p below given class_within permission_within =
        listed-named c p (given_in rule.permissions) class_within permission_within (is-below r rule below).given ∙ sym (given (name_at all c) (name_at all p))

    -- and it permits nothing by symbols that are those of no names
    permits-none : (rule : NumberedRule A) (c p : ℕ) → is_rule_below count rule ≡ true → (length all ≤ c) ⊎ (length all ≤ p) → permits_by symbols rule c p ≡ false
    permits-none rule c p below past = listed-none c p (given_in rule.permissions) past (is-below r rule below).given

    -- rules whose permissions are written the same permit the same
    pub permits-alike : (rule other : NumberedRule A) (c p : ℕ) → is_rule_below count rule ≡ true → is_rule_below count other ≡ true
        → GivesNumbered (meaning_in r) r.modules.items r.names.items rule → GivesNumbered (meaning_in r) r.modules.items r.names.items other
        → resolved_permissions_of r.names.items rule.permissions ≡ resolved_permissions_of r.names.items other.permissions → permits_by symbols rule c p ≡ permits_by symbols other c p
    permits-alike rule other c p below other_below given other_given same =
        elim (cases_lt c (length all)) [
          | inr past ↦ permits-none rule c p below (inl past) ∙ sym (permits-none other c p other_below (inl past))
          | inl class_low ↦ elim (cases_lt p (length all)) [
            | inr past ↦ permits-none rule c p below (inr past) ∙ sym (permits-none other c p other_below (inr past))
            | inl low ↦
                permits-named rule c p below given class_low low
                ∙ ap (λ q. permissions_permit (meaning_in r) q (name_at all c) (name_at all p)) same
                ∙ sym (permits-named other c p other_below other_given class_low low)
          ]
        ]

    -- what a rule gives by symbols, it gives by names
    pub covers-named : (rule : NumberedRule A) (key : SymbolKey) (t : ℕ) → is_rule_below count rule ≡ true
        → is_rule_of (meaning_in r).types (meaning_in r).attributes (meaning_in r).classes (rule_of r.modules.items r.names.items rule) ≡ true
        → GivesNumbered (meaning_in r) r.modules.items r.names.items rule → is_named all key t ≡ true
        → covers_by members symbols rule key t ≡ gives (meaning_in r) (rule_of r.modules.items r.names.items rule) (atom_of all key t)
    unfolding covers_by
    covers-named rule key t below declared given named =
        ap (λ b. is_kind rule.kind key.kind && b)
        (ap (λ b. (b && aims_by members symbols rule.target key.source t) && permits_by symbols rule key.class key.permission)
        (has-named rule.source key.source bound.source (element-kept (meaning_in r) whole.source source_declared) source_within)
        ∙ ap (λ b. (holds (meaning_in r) whole.source (name_at all key.source) && b) && permits_by symbols rule key.class key.permission)
        (aims-named rule.target key.source t bound.target target_declared source_within target_within)
        ∙ ap (λ b. (holds (meaning_in r) whole.source (name_at all key.source) && aims (meaning_in r) whole.target (name_at all key.source) (name_at all t)) && b)
        (permits-named rule key.class key.permission below given class_within permission_within)
        ∙ and-again (holds (meaning_in r) whole.source (name_at all key.source)) (aims (meaning_in r) whole.target (name_at all key.source) (name_at all t)) _)
      where
        whole : spec.Rule
        whole = rule_of r.modules.items r.names.items rule

        bound : IsBelow r rule
        bound = is-below r rule below

        source_declared : is_element_of (meaning_in r).types (meaning_in r).attributes whole.source ≡ true
        source_declared = and-first (is_element_of (meaning_in r).types (meaning_in r).attributes whole.source) _ declared

        target_declared : is_aim_of (meaning_in r).types (meaning_in r).attributes whole.target ≡ true
        target_declared = and-first (is_aim_of (meaning_in r).types (meaning_in r).attributes whole.target) _ (and-second (is_element_of (meaning_in r).types (meaning_in r).attributes whole.source) _ declared)

        ends : (nat_lt key.source (length all) && nat_lt t (length all)) ≡ true
        ends = and-first (nat_lt key.source (length all) && nat_lt t (length all)) (nat_lt key.class (length all) && nat_lt key.permission (length all)) named

        others : (nat_lt key.class (length all) && nat_lt key.permission (length all)) ≡ true
        others = and-second (nat_lt key.source (length all) && nat_lt t (length all)) (nat_lt key.class (length all) && nat_lt key.permission (length all)) named

        source_within : key.source < length all
        source_within = ltb-true key.source (length all) (and-first (nat_lt key.source (length all)) (nat_lt t (length all)) ends)

        target_within : t < length all
        target_within = ltb-true t (length all) (and-second (nat_lt key.source (length all)) (nat_lt t (length all)) ends)

        class_within : key.class < length all
        class_within = ltb-true key.class (length all) (and-first (nat_lt key.class (length all)) (nat_lt key.permission (length all)) others)

        permission_within : key.permission < length all
        permission_within = ltb-true key.permission (length all) (and-second (nat_lt key.class (length all)) (nat_lt key.permission (length all)) others)

    -- and it gives nothing by symbols that are those of no names
    pub covers-none : (rule : NumberedRule A) (key : SymbolKey) (t : ℕ) → is_rule_below count rule ≡ true → is_named all key t ≡ false → covers_by members symbols rule key t ≡ false
    unfolding covers_by
    covers-none rule key t below unnamed =
        ap (λ b. is_kind rule.kind key.kind && b)
        (elim (cases_lt key.source (length all)) [
          | inr past ↦ ap (λ b. (b && aims_by members symbols rule.target key.source t) && permits_by symbols rule key.class key.permission) (has-none rule.source key.source bound.source past)
          | inl source_low ↦ elim (cases_lt t (length all)) [
            | inr past ↦
                ap (λ b. (has_by members symbols rule.source key.source && b) && permits_by symbols rule key.class key.permission) (aims-none rule.target key.source t bound.target source_low past)
                ∙ ap (λ b. b && permits_by symbols rule key.class key.permission) (and-false (has_by members symbols rule.source key.source))
            | inl target_low ↦ elim (cases_lt key.class (length all)) [
              | inr past ↦ unpermitted (inl past)
              | inl class_low ↦ elim (cases_lt key.permission (length all)) [
                | inr past ↦ unpermitted (inr past)
                | inl permission_low ↦ absurd (true≢false (sym (all-named source_low target_low class_low permission_low) ∙ unnamed))
              ]
            ]
          ]
        ]) ∙ and-false (is_kind rule.kind key.kind)
      where
        bound : IsBelow r rule
        bound = is-below r rule below

        reached : Bool
        reached = has_by members symbols rule.source key.source && aims_by members symbols rule.target key.source t

        unpermitted : (length all ≤ key.class) ⊎ (length all ≤ key.permission) → (reached && permits_by symbols rule key.class key.permission) ≡ false
        unpermitted past = ap (λ b. reached && b) (permits-none rule key.class key.permission below past) ∙ and-false reached

        aims-none : (target : ResolvedTarget) (s u : ℕ) → is_target_below count target ≡ true → s < length all → length all ≤ u → aims_by members symbols target s u ≡ false
        aims-none targets.Itself s u low within past = ne_eqb s u (λ e. omega (arith, within, past, e))
        aims-none (targets.Element element) s u low within past = has-none element u low past

        all-named : key.source < length all → t < length all → key.class < length all → key.permission < length all → is_named all key t ≡ true
        all-named a b c d =
            ap (λ x. (x && nat_lt t (length all)) && (nat_lt key.class (length all) && nat_lt key.permission (length all))) (lt-ltb key.source (length all) a)
            ∙ ap (λ x. x && (nat_lt key.class (length all) && nat_lt key.permission (length all))) (lt-ltb t (length all) b)
            ∙ ap (λ x. x && nat_lt key.permission (length all)) (lt-ltb key.class (length all) c) ∙ lt-ltb key.permission (length all) d
