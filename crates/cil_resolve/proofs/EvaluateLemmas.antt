-- The evaluation of set statements by the numbers of names.
use Rattle.cil_resolve.proofs.Common.{◌≡◌, ◌==◌, ℕ, ◌<◌, Bool, true, false, ◌&&◌, nat_lt, List, map, length, Contains, Option, Some, None, option_map, bytes_eq, refl, sym, ap, ◌∙◌, list_all, list_any, ltb-true, bytes_eq-Decides, Expr, leaves, map_leaves, SetStatement, element_holds, holds_with, mentions, is_the_attribute, Meaning, keeps_type, is_in, holds, is_member, none-some, same_Some, slice_get-map, first_true, second_true, any-contained, leaves-mapped, in-known, contains-map, set_expr_in, Element, «Type», Attribute, is_element_below, is_set_below, element_of, set_of, meaning_in, sets_at, NumberedSet}
use Rattle.std.proofs.Common.{Bor, IfSome, slice_get}
use Rattle.cil_specs.specs.Rule as spec
use Rattle.cil_specs.proofs.ExistsLemmas.{of-all}
use Rattle.cil_expression.specs.Holds.{holds_by, Answers}
use Rattle.cil_expression.proofs.HoldsLemmas.{holds-agree, holds-bound, holds-mapped}
use Rattle.cil_resolve.specs.Sets.{name_in, sets_in, IsAnswer, TellsMembers}
use Rattle.cil_resolve.proofs.SetOrderLemmas.{from-order}
use Rattle.cil_resolve.proofs.RisingNames.{same-name}
use Rattle.cil_resolve.proofs.StatementLemmas.{contained}
use Rattle.cil_resolve.specs.declared.resolved.Resolved.{Resolved}

module _ {A : Type 0} (r : Resolved A) where
  -- what a name of an expression holds, at the type of this number
  abbrev pub value-at : ℕ → Element → Bool
  value-at t («Type» n) = n == t
  value-at t (Attribute a) = is_member (meaning_in r) (name_in r a) (name_in r t)

  leaf-value : (t : ℕ) (element : Element) → t < length r.names.items → is_element_below (length r.names.items) element ≡ true
      → value-at t element ≡ element_holds (λ a. is_member (meaning_in r) a (name_in r t)) (element_of r.names.items element) (name_in r t)
  leaf-value t («Type» n) within below = sym (same-name r.names.items n t r.ordered (ltb-true n (length r.names.items) below) within)
  leaf-value t (Attribute a) within below = refl

  -- An expression holds a kept type by what its names hold.
  pub evaluated : (x : NumberedSet A) (t : ℕ) → t < length r.names.items → keeps_type (meaning_in r) (name_in r t) ≡ true → list_all (is_element_below (length r.names.items)) (leaves (set_expr_in x.expression)) ≡ true
      → holds_by (value-at t) (set_expr_in x.expression) ≡ is_in (meaning_in r) (set_of r.modules.items r.names.items x).expr (name_in r t)
  evaluated x t within kept below =
      let e = set_expr_in x.expression in
      let known = λ (a : List ℕ). is_member (meaning_in r) a (name_in r t) in
      let f = element_of r.names.items in
      holds-agree e (value-at t) (λ l. element_holds known (f l) (name_in r t)) (λ l c. leaf-value t l within (of-all (is_element_below (length r.names.items)) (leaves e) l below c))
      ∙ sym (holds-mapped f (λ l. element_holds known l (name_in r t)) e) ∙ in-known (meaning_in r) known (map_leaves f e) (name_in r t) kept (λ a m. refl)

  -- Answers for the names of an expression are what they hold.
  pub answers-told : {post : ℕ → Bool → Type 0} (s : SetStatement) (x : NumberedSet A) (t : ℕ) → TellsMembers r post s t → set_of r.modules.items r.names.items x ≡ s → list_all (is_element_below (length r.names.items)) (leaves (set_expr_in x.expression)) ≡ true
      → Answers (IsAnswer post t) (λ l. Contains (leaves (set_expr_in x.expression)) l) (value-at t)
  answers-told s x t tells named below («Type» n) answer c is = is
  answers-told s x t tells named below (Attribute a) answer c is = tells a answer (ltb-true a (length r.names.items) (of-all (is_element_below (length r.names.items)) (leaves (set_expr_in x.expression)) (Attribute a) below c)) (ap (λ y. mentions (name_in r a) y.expr) (sym named) ∙ mentioned a c) is
    where
      mentioned : (a : ℕ) → Contains (leaves (set_expr_in x.expression)) (Attribute a) → mentions (name_in r a) (map_leaves (element_of r.names.items) (set_expr_in x.expression)) ≡ true
      mentioned a c =
          ap (list_any (is_the_attribute (name_in r a))) (leaves-mapped (element_of r.names.items) (set_expr_in x.expression))
          ∙ any-contained (is_the_attribute (name_in r a)) (map (element_of r.names.items) (leaves (set_expr_in x.expression))) (spec.an_attribute (name_in r a))
          (contains-map (element_of r.names.items) (leaves (set_expr_in x.expression)) (Attribute a) c) ((bytes_eq-Decides (name_in r a) (name_in r a)).1 refl)

  -- the set statement at a place, by names and by numbers
  pub record IsSetAt (i : ℕ) (s : SetStatement) (x : NumberedSet A) : Type 0 where
    pub named : set_of r.modules.items r.names.items x ≡ s
    pub below : list_all (is_element_below (length r.names.items)) (leaves (set_expr_in x.expression)) ≡ true

  at-below : (i : ℕ) (x : NumberedSet A) → slice_get (sets_at r.sets.sets.items r.sets.order.items) i ≡ Some x → is_set_below (length r.names.items) x ≡ true
  at-below i x there =
      of-all (is_set_below (length r.names.items)) r.sets.sets.items x r.sets_within
      (from-order r.sets.sets.items r.sets.order.items x (contained (sets_at r.sets.sets.items r.sets.order.items) i x there))

  -- so is what is seen there
  pub seen-below : (i : ℕ) (o : Option (Bor (NumberedSet A))) → option_map (λ set. set.now) o ≡ slice_get (sets_at r.sets.sets.items r.sets.order.items) i
      → IfSome o (λ set. is_set_below (length r.names.items) set.now ≡ true)
  seen-below i None is = tt
  seen-below i (Some x) is = at-below i x.now (sym is)

  pub attribute-low : (i : ℕ) (x : NumberedSet A) → slice_get (sets_at r.sets.sets.items r.sets.order.items) i ≡ Some x → x.attribute < length r.names.items
  attribute-low i x there =
      ltb-true x.attribute (length r.names.items)
      (first_true (nat_lt x.attribute (length r.names.items)) (list_all (is_element_below (length r.names.items)) (leaves (set_expr_in x.expression))) (at-below i x there))

  pub names-below : (i : ℕ) (x : NumberedSet A) → slice_get (sets_at r.sets.sets.items r.sets.order.items) i ≡ Some x → list_all (is_element_below (length r.names.items)) (leaves (set_expr_in x.expression)) ≡ true
  names-below i x there =
      second_true (nat_lt x.attribute (length r.names.items)) (list_all (is_element_below (length r.names.items)) (leaves (set_expr_in x.expression)))
      (at-below i x there)

  pub set-at : (i : ℕ) (s : SetStatement) (found : Option (NumberedSet A)) (x : NumberedSet A) → found ≡ slice_get (sets_at r.sets.sets.items r.sets.order.items) i → found ≡ Some x → slice_get (sets_in r) i ≡ Some s → IsSetAt i s x
  set-at i s found x is one at =
      let there = sym is ∙ one in
      record {
        named = same_Some _ _ (sym (slice_get-map (set_of r.modules.items r.names.items) (sets_at r.sets.sets.items r.sets.order.items) i ∙ ap (option_map (set_of r.modules.items r.names.items)) there) ∙ at);
        below = names-below i x there;
      }

  pub set-there : (i : ℕ) (found : Option (NumberedSet A)) (x : NumberedSet A) → found ≡ slice_get (sets_at r.sets.sets.items r.sets.order.items) i → found ≡ Some x → slice_get (sets_in r) i ≡ None → ⊥
  set-there i found x is one none =
      none-some (set_of r.modules.items r.names.items x)
      (sym none ∙ slice_get-map (set_of r.modules.items r.names.items) (sets_at r.sets.sets.items r.sets.order.items) i ∙ ap (option_map (set_of r.modules.items r.names.items)) (sym is ∙ one))

  pub no-set-at : (i : ℕ) (s : SetStatement) → slice_get (sets_at r.sets.sets.items r.sets.order.items) i ≡ None → slice_get (sets_in r) i ≡ Some s → ⊥
  no-set-at i s none at = none-some s (sym (slice_get-map (set_of r.modules.items r.names.items) (sets_at r.sets.sets.items r.sets.order.items) i ∙ ap (option_map (set_of r.modules.items r.names.items)) none) ∙ at)

is-member : (meaning : Meaning) (a t : List ℕ) → is_member meaning a t ≡ holds meaning (spec.an_attribute a) t
unfolding is_member
is-member meaning a t = refl

-- An expression that holds nothing where none of its names does holds only what one of them holds.
pub reach-bound : (meaning : Meaning) (e : Expr spec.Element) (t : List ℕ) → holds_by (λ x. false) e ≡ false → ((x : spec.Element) → Contains (leaves e) x → holds meaning x t ≡ false) → is_in meaning e t ≡ false
reach-bound meaning e t none each = by (keeps_type meaning t) refl
  where
    known : List ℕ → Bool
    known a = is_member meaning a t

    leaf : keeps_type meaning t ≡ true → (x : spec.Element) → Contains (leaves e) x → element_holds known x t ≡ false
    leaf kept (spec.a_type name) c = sym (ap (λ b. b && bytes_eq name t) kept) ∙ each (spec.a_type name) c
    leaf kept (spec.an_attribute name) c = is-member meaning name t ∙ each (spec.an_attribute name) c

    by : (k : Bool) → keeps_type meaning t ≡ k → is_in meaning e t ≡ false
    by false k = ap (λ b. b && holds_with meaning.sets (length meaning.attributes) e t) k
    by true k = sym (in-known meaning known e t k (λ a m. refl)) ∙ holds-bound e (λ x. element_holds known x t) none (leaf k)
