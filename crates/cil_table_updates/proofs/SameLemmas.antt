-- The same rule of two policies, by symbols.
use Rattle.cil_table_updates.proofs.Common.{◌≡◌, ℕ, ◌<◌, ◌==◌, ◌&&◌, ◌||◌, true, List, [], ◌∷◌, length, map, nat_lt, not, slice_index, slice_index_or, Option, None, Some, refl, sym, ap, ◌∙◌, true≢false, list_all, list_any, eq-eqb, ltb-true, content_of, kind_index, is_element_below, is_rule_below, is_target_below, element_of, keeps_no_list, resolved_target_of, rule_of, NumberedRule, Resolved, aims_by, has_by, permits_by, reaches_by, is-below, symbol-named, AreApart}
use Rattle.std.proofs.Common.{Bool, Box, is_none}
use Rattle.cil_specs.specs.Expr.{leaves, listed, map_leaves}
use Rattle.cil_specs.proofs.MeansLemmas.{leaves-mapped}
use Rattle.cil_parse.specs.Forms.{is_plain}
use Rattle.cil_parse.specs.Lexicon.{AreNumbersOf}
use Rattle.cil_expression.specs.Expression.{expr_in}
use Rattle.cil_expression.specs.declared.expression.Expression.{Expression}
use Rattle.cil_expression.proofs.ListedLemmas.{leaves-listed, plain-mapped}
use Rattle.cil_expression.specs.declared.expression.Element.{Element}
use Rattle.cil_expression.specs.declared.expression.Element.TheVariants.{«Type», Attribute}
use Rattle.cil_keyed_lines.proofs.KeyedLemmas.{one_kind}
use Rattle.cil_matching.proofs.ContentLemmas.{plain-list}
use Rattle.cil_resolve.specs.Below.{are_permissions_below}
use Rattle.cil_resolve.specs.Numbers.{given_in, is_no_list, is_no_list_with, resolved_permissions_of, written_in, written_or}
use Rattle.cil_resolve.specs.Sets.{name_in}
use Rattle.cil_resolve.specs.declared.numbered.NumberedPermissions.{NumberedPermissions}
use Rattle.cil_resolve.specs.declared.numbered.ResolvedPermissions.{ResolvedPermissions}
use Rattle.cil_resolve.specs.declared.numbered.ResolvedPermissions.TheVariants as permits
use Rattle.cil_resolve.specs.declared.numbered.ResolvedTarget.{ResolvedTarget}
use Rattle.cil_resolve.specs.declared.numbered.ResolvedTarget.TheVariants as targets
use Rattle.cil_resolve.specs.declared.set_permissions.ClassPermission.{ClassPermission}
use Rattle.cil_table_updates.specs.Moves.{are_listed, is_plain_list}
use Rattle.cil_table_updates.proofs.GivenLemmas.{and-first, and-second}

-- permissions that keep no expression name the same as those that are written the same
plain-listed-same : {A B : Type 0} (f g : ℕ → List ℕ) (of : NumberedPermissions A) (other : NumberedPermissions B) → is_no_list of.written ≡ true → is_none other.written ≡ true → map_leaves f (written_in of) ≡ map_leaves g (written_in other)
    → map f of.given ≡ map g other.given
plain-listed-same {A = A} {B = B} f g of other no_list plain same = by of.written other.written no_list plain same
  where
    names_of : (h : ℕ → List ℕ) (ps : List ℕ) → leaves (map_leaves h (listed ps)) ≡ map h ps
    names_of h ps = leaves-mapped h (listed ps) ∙ ap (map h) (leaves-listed ps)

    by : (w : Option (Box (Expression ℕ A) A)) (v : Option (Box (Expression ℕ B) B)) → is_no_list w ≡ true → is_none v ≡ true → map_leaves f (written_or w of.given) ≡ map_leaves g (written_or v other.given)
        → map f of.given ≡ map g other.given
    by None None no_list plain same = sym (names_of f of.given) ∙ ap leaves same ∙ names_of g other.given
    by (Some e) None no_list plain same =
        absurd (true≢false (sym no_list ∙ ap not (sym (plain-mapped f (expr_in e.value)) ∙ ap is_plain same ∙ plain-mapped g (listed other.given) ∙ plain-list other.given)))
    by None (Some e) no_list plain same = absurd (true≢false (sym plain))
    by (Some e) (Some d) no_list plain same = absurd (true≢false (sym plain))

module _ {A B : Type 0} (old : Resolved A) (new : Resolved B) (names : List (List ℕ)) (apart : AreApart names) (old_symbols new_symbols : List ℕ)
    (old_numbers : AreNumbersOf names old_symbols old.names.items) (new_numbers : AreNumbersOf names new_symbols new.names.items) where
  -- one name has one symbol
  same-symbol : (m n : ℕ) → m < length old.names.items → n < length new.names.items → name_in old m ≡ name_in new n → slice_index old_symbols m ≡ slice_index new_symbols n
  same-symbol m n low below same =
      apart (slice_index old_symbols m) (slice_index new_symbols n) (name_in new n) (symbol-named old names old_symbols apart old_numbers m low ∙ ap Some same)
      (symbol-named new names new_symbols apart new_numbers n below)

  same-element : (members : ℕ → ℕ → ℕ) (e f : Element) (t : ℕ) → is_element_below (length old.names.items) e ≡ true → is_element_below (length new.names.items) f ≡ true
      → element_of old.names.items e ≡ element_of new.names.items f → has_by members old_symbols e t ≡ has_by members new_symbols f t
  same-element members («Type» m) («Type» n) t low below same =
      ap (λ s. s == t) (same-symbol m n (ltb-true m (length old.names.items) low) (ltb-true n (length new.names.items) below) (cc same))
  same-element members («Type» m) (Attribute n) t low below same = absurd (cc same)
  same-element members (Attribute m) («Type» n) t low below same = absurd (cc same)
  same-element members (Attribute m) (Attribute n) t low below same =
      ap (λ s. nat_lt 0 (members s t)) (same-symbol m n (ltb-true m (length old.names.items) low) (ltb-true n (length new.names.items) below) (cc same))

  same-target : (members : ℕ → ℕ → ℕ) (e f : ResolvedTarget) (s t : ℕ) → is_target_below (length old.names.items) e ≡ true → is_target_below (length new.names.items) f ≡ true
      → resolved_target_of old.names.items e ≡ resolved_target_of new.names.items f → aims_by members old_symbols e s t ≡ aims_by members new_symbols f s t
  same-target members targets.Itself targets.Itself s t low below same = refl
  same-target members targets.Itself (targets.Element f) s t low below same = absurd (cc same)
  same-target members (targets.Element e) targets.Itself s t low below same = absurd (cc same)
  same-target members (targets.Element e) (targets.Element f) s t low below same = same-element members e f t low below (cc same)

  -- a permission of a class has the symbols of these
  abbrev has_symbols : List ℕ → ℕ → ℕ → ClassPermission → Bool
  has_symbols symbols c p g = (slice_index symbols g.class == c) && (slice_index symbols g.permission == p)

  abbrev of_one : ℕ → List ℕ → List ClassPermission
  of_one class ps = map (λ n. record { class = class; permission = n }) ps

  same-permissions : (class other_class c p : ℕ) (ps qs : List ℕ) → slice_index old_symbols class ≡ slice_index new_symbols other_class
      → list_all (λ q. nat_lt q (length old.names.items)) ps ≡ true → list_all (λ q. nat_lt q (length new.names.items)) qs ≡ true
      → map (λ q. slice_index_or old.names.items q []) ps ≡ map (λ q. slice_index_or new.names.items q []) qs
      → list_any (has_symbols old_symbols c p) (of_one class ps) ≡ list_any (has_symbols new_symbols c p) (of_one other_class qs)
  same-permissions class other_class c p [] [] one low below same = refl
  same-permissions class other_class c p [] (q ∷ qs) one low below same = absurd (cc same)
  same-permissions class other_class c p (m ∷ ps) [] one low below same = absurd (cc same)
  same-permissions class other_class c p (m ∷ ps) (n ∷ qs) one low below same =
      let first = same-symbol m n (ltb-true m (length old.names.items) (and-first (nat_lt m (length old.names.items)) _ low)) (ltb-true n (length new.names.items) (and-first (nat_lt n (length new.names.items)) _ below)) (cc same) in
      let rest = same-permissions class other_class c p ps qs one (and-second (nat_lt m (length old.names.items)) _ low) (and-second (nat_lt n (length new.names.items)) _ below) (cc same) in
      λ i. ((one i == c) && (first i == p)) || rest i

  -- permissions of a class by a plain list give the same
  same-given : (of : ResolvedPermissions A) (other : ResolvedPermissions B) → are_permissions_below (length old.names.items) of ≡ true → are_permissions_below (length new.names.items) other ≡ true
      → resolved_permissions_of old.names.items of ≡ resolved_permissions_of new.names.items other → is_no_list_with of ≡ true → are_listed other ≡ true
      → (c p : ℕ) → list_any (has_symbols old_symbols c p) (given_in of) ≡ list_any (has_symbols new_symbols c p) (given_in other)
  same-given (permits.OfClass of) (permits.OfClass other) low below same no_list plain c p =
      let one = same-symbol of.class other.class (ltb-true of.class (length old.names.items) (and-first (nat_lt of.class (length old.names.items)) _ low)) (ltb-true other.class (length new.names.items) (and-first (nat_lt other.class (length new.names.items)) _ below)) (cc same) in
      let listed = plain-listed-same (λ n. slice_index_or old.names.items n []) (λ n. slice_index_or new.names.items n []) of other no_list plain (cc same) in
      same-permissions of.class other.class c p of.given other.given one (and-second (nat_lt of.class (length old.names.items)) _ low) (and-second (nat_lt other.class (length new.names.items)) _ below) listed
  same-given (permits.OfSet of) (permits.OfClass other) low below same no_list plain c p = absurd (cc same)
  same-given of (permits.OfSet other) low below same no_list plain c p = absurd (true≢false (sym plain))

  module _ (rule : NumberedRule A) (other : NumberedRule B) (low : is_rule_below (length old.names.items) rule ≡ true) (below : is_rule_below (length new.names.items) other ≡ true)
      (same : content_of (rule_of old.modules.items old.names.items rule) ≡ content_of (rule_of new.modules.items new.names.items other)) where
    pub same-rule-kind : rule.kind ≡ other.kind
    same-rule-kind = one_kind rule.kind other.kind (eq-eqb _ _ (ap (λ c. kind_index c.kind) same))

    -- the same members make it reach the same
    pub same-reach : (members : ℕ → ℕ → ℕ) (s t : ℕ) → reaches_by members old_symbols rule s t ≡ reaches_by members new_symbols other s t
    same-reach members s t =
        let first = is-below old rule low in
        let second = is-below new other below in
        λ i. same-element members rule.source other.source s first.source second.source (λ j. (same j).source) i && same-target members rule.target other.target s t first.target second.target (λ j. (same j).target) i

    -- a plain list permits the same
    pub same-permits : keeps_no_list rule ≡ true → is_plain_list other ≡ true → (c p : ℕ) → permits_by old_symbols rule c p ≡ permits_by new_symbols other c p
    same-permits no_list plain c p =
        same-given rule.permissions other.permissions (is-below old rule low).permissions (is-below new other below).permissions (ap (λ c. c.permissions) same) no_list plain c p
