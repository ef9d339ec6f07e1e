-- Rules and set statements say the same by their numbers where they do by their names.
use Rattle.cil_matching.proofs.Common.{◌≡◌, ◌∙◌, ◌==◌, ◌↔◌, ℕ, ◌<◌, Bool, true, false, true≢false, ◌&&◌, nat_lt, List, [], ◌∷◌, length, map, slice_get, slice_index_or, Option, None, Some, refl, sym, ap, arith, list_all, and_parts, eqb-true, eq-eqb, ltb-true, slice_get-get_or, slice_get_within, get_or_from_slice_get, a_type, an_attribute, ResolvedTarget, at_itself, at_element, RuleContent, SetContent, content_of, set_content_of, kind_index, same-kind, is_that, is_number_of, is_element_by, is_set_by, is_target_by, is_written_by, are_permissions_by, SayTheSame, AreNumbers}
use Rattle.std.proofs.Common.{Box, not}
use Rattle.std.proofs.Math.Bool.{and-false}
use Rattle.std.proofs.lemmas.Bool.{false_from_ne_true}
use Rattle.cil_specs.specs.Expr.{Expr, leaves, listed, map_leaves}
use Rattle.cil_specs.specs.Rule as spec
use Rattle.cil_specs.proofs.MeansLemmas.{leaves-mapped}
use Rattle.cil_specs.proofs.Runs.{first_true, second_true, both_true}
use Rattle.cil_parse.specs.Forms.{is_plain}
use Rattle.cil_text.specs.Image.{rule_kind_of}
use Rattle.cil_expression.specs.declared.expression.Element.{Element}
use Rattle.cil_expression.specs.declared.expression.Element.TheVariants.{«Type», Attribute}
use Rattle.cil_expression.specs.Expression.{expr_in, set_expr_in}
use Rattle.cil_expression.specs.Same.{all_same, are_same, same_node}
use Rattle.cil_expression.specs.Spelling.{nodes_of}
use Rattle.cil_expression.specs.declared.expression.Expression.{Expression}
use Rattle.cil_expression.proofs.ListedLemmas.{leaves-listed, plain-mapped}
use Rattle.cil_expression.proofs.SameExprLemmas.{mapped-same, same-mapped}
use Rattle.cil_resolve.specs.Below.{are_permissions_below, are_written_below, is_element_below, is_target_below, is_rule_below, is_set_below, is_written_below}
use Rattle.cil_resolve.specs.Numbers.{element_of, is_no_list, named_permissions, resolved_permissions_of, resolved_target_of, rule_of, set_of, written_in, written_or}
use Rattle.cil_resolve.specs.declared.numbered.NumberedPermissions.{NumberedPermissions}
use Rattle.cil_resolve.specs.declared.numbered.NumberedRule.{NumberedRule}
use Rattle.cil_resolve.specs.declared.numbered.NumberedSet.{NumberedSet}
use Rattle.cil_resolve.specs.declared.numbered.ResolvedPermissions.{ResolvedPermissions}
use Rattle.cil_resolve.specs.declared.numbered.ResolvedPermissions.TheVariants as permits
use Rattle.cil_resolve.specs.declared.numbered.ResolvedTarget as numbered
use Rattle.cil_resolve.specs.declared.numbered.ResolvedTarget.TheVariants as aims

that-is : (o : Option (Option ℕ)) (b : ℕ) → is_that o b ≡ true → o ≡ Some (Some b)
that-is None b e = absurd (true≢false (sym e))
that-is (Some None) b e = absurd (true≢false (sym e))
that-is (Some (Some n)) b e = ap (λ m. Some (Some m)) (eqb-true n b e)

is_type : spec.Element → Bool
is_type (a_type x) = true
is_type (an_attribute x) = false

name_of : spec.Element → List ℕ
name_of (a_type x) = x
name_of (an_attribute x) = x

is_itself : ResolvedTarget → Bool
is_itself at_itself = true
is_itself (at_element e) = false

element_or : spec.Element → ResolvedTarget → spec.Element
element_or d at_itself = d
element_or d (at_element e) = e

is_of_class : spec.ResolvedPermissions → Bool
is_of_class (spec.of_class the_class permissions) = true
is_of_class (spec.of_set set) = false

class_or_set : spec.ResolvedPermissions → List ℕ
class_or_set (spec.of_class the_class permissions) = the_class
class_or_set (spec.of_set set) = set

expr_or : Expr (List ℕ) → spec.ResolvedPermissions → Expr (List ℕ)
expr_or d (spec.of_class the_class permissions) = permissions
expr_or d (spec.of_set set) = d

-- the numbers of a rule are below this one
pub record IsBelow {A : Type 0} (n : ℕ) (r : NumberedRule A) : Type 0 where
  pub source : is_element_below n r.source ≡ true
  pub target : is_target_below n r.target ≡ true
  pub permissions : are_permissions_below n r.permissions ≡ true
  pub written : are_written_below n r.permissions ≡ true

pub is-below : {A : Type 0} (n : ℕ) (r : NumberedRule A) → is_rule_below n r ≡ true → is_written_below n r ≡ true → IsBelow n r
is-below n r e written =
    let one = and_parts (is_element_below n r.source) (is_target_below n r.target && are_permissions_below n r.permissions) e in
    let two = and_parts (is_target_below n r.target) (are_permissions_below n r.permissions) one.1 in
    record { source = one.0; target = two.0; permissions = two.1; written = written }

-- items that lead to one thing are the same in pairs, where that is so of two that pass their tests
leaves-told : {first second other : Type 0} (same : first → second → Bool) (f : first → other) (g : second → other) (p : first → Bool) (q : second → Bool)
    → ((x : first) (y : second) → p x ≡ true → q y ≡ true → f x ≡ g y → same x y ≡ true)
    → (xs : List first) (ys : List second) → list_all p xs ≡ true → list_all q ys ≡ true → map f xs ≡ map g ys → all_same same xs ys ≡ true
leaves-told same f g p q tell [] [] low below is = refl
leaves-told same f g p q tell [] (y ∷ ys) low below is = absurd (omega (arith, ap length is))
leaves-told same f g p q tell (x ∷ xs) [] low below is = absurd (omega (arith, ap length is))
leaves-told same f g p q tell (x ∷ xs) (y ∷ ys) low below is =
    let head : f x ≡ g y = cc is in
    let tail : map f xs ≡ map g ys = cc is in
    both_true (same x y) (all_same same xs ys)
    (tell x y (first_true (p x) (list_all p xs) low) (first_true (q y) (list_all q ys) below) head)
    (leaves-told same f g p q tell xs ys (second_true (p x) (list_all p xs) low) (second_true (q y) (list_all q ys) below) tail)

-- so are expressions that come to one
expr-told : {first second other : Type 0} (same : first → second → Bool) (f : first → other) (g : second → other) (p : first → Bool) (q : second → Bool)
    → ((x : first) (y : second) → p x ≡ true → q y ≡ true → f x ≡ g y → same x y ≡ true)
    → (d : Expr first) (e : Expr second) → list_all p (leaves d) ≡ true → list_all q (leaves e) ≡ true → map_leaves f d ≡ map_leaves g e → are_same same d e ≡ true
expr-told same f g p q tell d e low below is =
    let shape = mapped-same (λ x y. true) f g (λ x y led. refl) d e is in
    let named : map f (leaves d) ≡ map g (leaves e) = sym (leaves-mapped f d) ∙ ap leaves is ∙ leaves-mapped g e in
    both_true (all_same same_node (nodes_of d) (nodes_of e)) (all_same same (leaves d) (leaves e))
    (first_true (all_same same_node (nodes_of d) (nodes_of e)) (all_same (λ x y. true) (leaves d) (leaves e)) shape)
    (leaves-told same f g p q tell (leaves d) (leaves e) low below named)

module _ (names others : List (List ℕ)) (numbers : List (Option ℕ)) (are : AreNumbers names others numbers) where
  number-is : (a b : ℕ) → is_number_of numbers a b ≡ true → slice_index_or names a [] ≡ slice_index_or others b []
  number-is a b e =
      let told = that-is (slice_get numbers a) b e in
      let within = slice_get_within numbers a (Some b) told in
      let same = (are.exact a b (omega (arith, within, are.long))).0 told in
      get_or_from_slice_get names a same.statement [] same.here ∙ same.same ∙ sym (get_or_from_slice_get others b same.other [] same.there)

  number-from : (a b : ℕ) → a < length names → b < length others → slice_index_or names a [] ≡ slice_index_or others b [] → is_number_of numbers a b ≡ true
  number-from a b low below e =
      ap (λ o. is_that o b) ((are.exact a b low).1 (record {
        statement = slice_index_or names a [];
        other = slice_index_or others b [];
        here = slice_get-get_or names a [] low;
        there = slice_get-get_or others b [] below;
        same = e;
      })) ∙ eq-eqb b b refl

  number-tells : (a b : ℕ) → nat_lt a (length names) ≡ true → nat_lt b (length others) ≡ true → (is_number_of numbers a b ≡ true) ↔ (slice_index_or names a [] ≡ slice_index_or others b [])
  number-tells a b low below =
      let a_low = ltb-true a (length names) low in
      let b_low = ltb-true b (length others) below in
      (number-is a b, number-from a b a_low b_low)

  element-tells : (x y : Element) → is_element_below (length names) x ≡ true → is_element_below (length others) y ≡ true → (is_element_by numbers x y ≡ true) ↔ (element_of names x ≡ element_of others y)
  unfolding is_type name_of
  element-tells («Type» a) («Type» b) low below =
      let (to, from) = number-tells a b low below in
      (λ e. ap a_type (to e), λ e. from (ap name_of e))
  element-tells («Type» a) (Attribute b) low below = (λ e. absurd (true≢false (sym e)), λ e. absurd (true≢false (ap is_type e)))
  element-tells (Attribute a) («Type» b) low below = (λ e. absurd (true≢false (sym e)), λ e. absurd (true≢false (sym (ap is_type e))))
  element-tells (Attribute a) (Attribute b) low below =
      let (to, from) = number-tells a b low below in
      (λ e. ap an_attribute (to e), λ e. from (ap name_of e))

  target-tells : (x y : numbered.ResolvedTarget) → is_target_below (length names) x ≡ true → is_target_below (length others) y ≡ true → (is_target_by numbers x y ≡ true) ↔ (resolved_target_of names x ≡ resolved_target_of others y)
  unfolding is_itself element_or
  target-tells aims.Itself aims.Itself low below = (λ e. refl, λ e. refl)
  target-tells aims.Itself (aims.Element y) low below = (λ e. absurd (true≢false (sym e)), λ e. absurd (true≢false (ap is_itself e)))
  target-tells (aims.Element x) aims.Itself low below = (λ e. absurd (true≢false (sym e)), λ e. absurd (true≢false (sym (ap is_itself e))))
  target-tells (aims.Element x) (aims.Element y) low below =
      let (to, from) = element-tells x y low below in
      (λ e. ap at_element (to e), λ e. from (ap (element_or (element_of names x)) e))

  abbrev old_name : ℕ → List ℕ
  old_name p = slice_index_or names p []

  abbrev new_name : ℕ → List ℕ
  new_name q = slice_index_or others q []

  -- expressions are the same where they are of the same names
  expr-is : (e f : Expr ℕ) → are_same (is_number_of numbers) e f ≡ true → map_leaves old_name e ≡ map_leaves new_name f
  expr-is e f same = same-mapped (is_number_of numbers) old_name new_name number-is e f same

  expr-from : (e f : Expr ℕ) → list_all (λ p. nat_lt p (length names)) (leaves e) ≡ true → list_all (λ q. nat_lt q (length others)) (leaves f) ≡ true → map_leaves old_name e ≡ map_leaves new_name f
      → are_same (is_number_of numbers) e f ≡ true
  expr-from e f low below same =
      expr-told (is_number_of numbers) old_name new_name (λ p. nat_lt p (length names)) (λ q. nat_lt q (length others))
      (λ p q p_low q_low. (number-tells p q p_low q_low).1) e f low below same

  -- those of a class: it is the same, and what is written
  class-tells : {A : Type 0} (p q : NumberedPermissions A) → are_permissions_below (length names) (permits.OfClass p) ≡ true → are_permissions_below (length others) (permits.OfClass q) ≡ true
      → are_written_below (length names) (permits.OfClass p) ≡ true → are_written_below (length others) (permits.OfClass q) ≡ true
      → ((is_number_of numbers p.class q.class && is_written_by numbers p q) ≡ true)
      ↔ (◌≡◌ {A = spec.ResolvedPermissions} (spec.of_class (old_name p.class) (named_permissions names (written_in p))) (spec.of_class (new_name q.class) (named_permissions others (written_in q))))
  unfolding class_or_set expr_or
  class-tells p q low below written others_written =
      let p_low = first_true (nat_lt p.class (length names)) (list_all (λ n. nat_lt n (length names)) p.given) low in
      let q_low = first_true (nat_lt q.class (length others)) (list_all (λ n. nat_lt n (length others)) q.given) below in
      let (to, from) = number-tells p.class q.class p_low q_low in (
        λ e.
            let parts = and_parts (is_number_of numbers p.class q.class) (is_written_by numbers p q) e in
            let the_class = to parts.0 in
            let permissions = expr-is (written_in p) (written_in q) parts.1 in
            λ i. spec.of_class (the_class i) (permissions i),
        λ e.
            both_true (is_number_of numbers p.class q.class) (is_written_by numbers p q) (from (ap class_or_set e))
            (expr-from (written_in p) (written_in q) written others_written (ap (expr_or (named_permissions names (written_in p))) e)),
      )

  permissions-tell : {A : Type 0} (x y : ResolvedPermissions A) → are_permissions_below (length names) x ≡ true → are_permissions_below (length others) y ≡ true → are_written_below (length names) x ≡ true
      → are_written_below (length others) y ≡ true → (are_permissions_by numbers x y ≡ true) ↔ (resolved_permissions_of names x ≡ resolved_permissions_of others y)
  unfolding is_of_class class_or_set
  permissions-tell (permits.OfClass p) (permits.OfClass q) low below written others_written = class-tells p q low below written others_written
  permissions-tell (permits.OfClass p) (permits.OfSet t) low below written others_written = (λ e. absurd (true≢false (sym e)), λ e. absurd (true≢false (ap is_of_class e)))
  permissions-tell (permits.OfSet s) (permits.OfClass q) low below written others_written = (λ e. absurd (true≢false (sym e)), λ e. absurd (true≢false (sym (ap is_of_class e))))
  permissions-tell (permits.OfSet s) (permits.OfSet t) low below written others_written =
      let s_low = first_true (nat_lt s.set (length names)) _ low in
      let t_low = first_true (nat_lt t.set (length others)) _ below in
      let (to, from) = number-tells s.set t.set s_low t_low in
      (λ e. ap spec.of_set (to e), λ e. from (ap class_or_set e))

  element-is : (x y : Element) → is_element_by numbers x y ≡ true → element_of names x ≡ element_of others y
  element-is («Type» a) («Type» b) e = ap a_type (number-is a b e)
  element-is («Type» a) (Attribute b) e = absurd (true≢false (sym e))
  element-is (Attribute a) («Type» b) e = absurd (true≢false (sym e))
  element-is (Attribute a) (Attribute b) e = ap an_attribute (number-is a b e)

  -- set statements say the same by their numbers where they do by their names
  pub set-says : {A : Type 0} (modules newer : List (List ℕ)) (s t : NumberedSet A) → is_set_below (length names) s ≡ true → is_set_below (length others) t ≡ true
      → (is_set_by numbers s t ≡ true) ↔ (set_content_of (set_of modules names s) ≡ set_content_of (set_of newer others t))
  set-says modules newer s t low below =
      let e = set_expr_in s.expression in
      let f = set_expr_in t.expression in
      let one = and_parts (nat_lt s.attribute (length names)) (list_all (is_element_below (length names)) (leaves e)) low in
      let two = and_parts (nat_lt t.attribute (length others)) (list_all (is_element_below (length others)) (leaves f)) below in
      let (to, from) = number-tells s.attribute t.attribute one.0 two.0 in (
        λ is.
            let parts = and_parts (is_number_of numbers s.attribute t.attribute) (are_same (is_element_by numbers) e f) is in
            let attribute = to parts.0 in
            let expr = same-mapped (is_element_by numbers) (element_of names) (element_of others) element-is e f parts.1 in
            λ i. record { attribute = attribute i; expr = expr i },
        λ same.
            both_true (is_number_of numbers s.attribute t.attribute) (are_same (is_element_by numbers) e f) (from (ap (λ (c : SetContent). c.attribute) same))
            (expr-told (is_element_by numbers) (element_of names) (element_of others) (is_element_below (length names)) (is_element_below (length others))
            (λ x y x_low y_low. (element-tells x y x_low y_low).1) e f one.1 two.1 (ap (λ (c : SetContent). c.expr) same)),
      )

  module _ {A : Type 0} (modules newer : List (List ℕ)) (r s : NumberedRule A) (low : IsBelow (length names) r) (below : IsBelow (length others) s) where
    kinds : Bool
    kinds = kind_index (rule_kind_of r.kind) == kind_index (rule_kind_of s.kind)

    sources : Bool
    sources = is_element_by numbers r.source s.source

    targets : Bool
    targets = is_target_by numbers r.target s.target

    content-is : SayTheSame numbers r s → content_of (rule_of modules names r) ≡ content_of (rule_of newer others s)
    unfolding kinds sources targets
    content-is says =
        let two = and_parts (kinds && sources) targets says.head in
        let one = and_parts kinds sources two.0 in
        let kind = same-kind (rule_kind_of r.kind) (rule_kind_of s.kind) (eqb-true (kind_index (rule_kind_of r.kind)) (kind_index (rule_kind_of s.kind)) one.0) in
        let source = (element-tells r.source s.source low.source below.source).0 one.1 in
        let target = (target-tells r.target s.target low.target below.target).0 two.1 in
        let permissions = (permissions-tell r.permissions s.permissions low.permissions below.permissions low.written below.written).0 says.permissions in
        λ i. record { kind = kind i; source = source i; target = target i; permissions = permissions i }

    content-from : content_of (rule_of modules names r) ≡ content_of (rule_of newer others s) → SayTheSame numbers r s
    unfolding kinds sources targets
    content-from same =
        let kind = eq-eqb (kind_index (rule_kind_of r.kind)) (kind_index (rule_kind_of s.kind)) (ap (λ (c : RuleContent). kind_index c.kind) same) in
        let source = (element-tells r.source s.source low.source below.source).1 (ap (λ (c : RuleContent). c.source) same) in
        let target = (target-tells r.target s.target low.target below.target).1 (ap (λ (c : RuleContent). c.target) same) in
        record {
          head = both_true (kinds && sources) targets (both_true kinds sources kind source) target;
          permissions = (permissions-tell r.permissions s.permissions low.permissions below.permissions low.written below.written).1 (ap (λ (c : RuleContent). c.permissions) same);
        }

    pub content-tells : SayTheSame numbers r s ↔ (content_of (rule_of modules names r) ≡ content_of (rule_of newer others s))
    content-tells = (content-is, content-from)

-- an expression that is the same as a plain list is one
plain-same : {first second : Type 0} (same : first → second → Bool) (e : Expr first) (f : Expr second) → are_same same e f ≡ true → is_plain e ≡ is_plain f
plain-same same e f is =
    sym (plain-mapped {other = ℕ} (λ x. 0) e) ∙ ap is_plain (same-mapped {other = ℕ} same (λ x. 0) (λ y. 0) (λ x y is. refl) e f is) ∙ plain-mapped {other = ℕ} (λ y. 0) f

pub plain-list : {leaf : Type 0} (l : List leaf) → is_plain (listed l) ≡ true
plain-list [] = refl
plain-list (x ∷ xs) = plain-list xs

same-nodes : {first second : Type 0} (ps : List first) (qs : List second) → length ps ≡ length qs → all_same same_node (nodes_of (listed ps)) (nodes_of (listed qs)) ≡ true
same-nodes [] [] long = refl
same-nodes [] (q ∷ qs) long = absurd (omega (arith, long))
same-nodes (p ∷ ps) [] long = absurd (omega (arith, long))
same-nodes (p ∷ ps) (q ∷ qs) long = same-nodes ps qs (omega (arith, long))

all-long : {first second : Type 0} (same : first → second → Bool) (ps : List first) (qs : List second) → all_same same ps qs ≡ true → length ps ≡ length qs
all-long same [] [] all = refl
all-long same [] (q ∷ qs) all = absurd (true≢false (sym all))
all-long same (p ∷ ps) [] all = absurd (true≢false (sym all))
all-long same (p ∷ ps) (q ∷ qs) all = let rest = all-long same ps qs (second_true (same p q) (all_same same ps qs) all) in omega (arith, rest)

-- plain lists are the same where their leaves are
lists-same : {first second : Type 0} (same : first → second → Bool) (ps : List first) (qs : List second) → are_same same (listed ps) (listed qs) ≡ all_same same ps qs
lists-same same ps qs = (λ i. all_same same_node (nodes_of (listed ps)) (nodes_of (listed qs)) && all_same same (leaves-listed ps i) (leaves-listed qs i)) ∙ by (all_same same ps qs) refl
  where
    by : (b : Bool) → all_same same ps qs ≡ b → (all_same same_node (nodes_of (listed ps)) (nodes_of (listed qs)) && all_same same ps qs) ≡ all_same same ps qs
    by true is = ap (λ b. b && all_same same ps qs) (same-nodes ps qs (all-long same ps qs is))
    by false is = ap (λ b. all_same same_node (nodes_of (listed ps)) (nodes_of (listed qs)) && b) is ∙ and-false (all_same same_node (nodes_of (listed ps)) (nodes_of (listed qs))) ∙ sym is

-- permissions of which no expression is kept, and such of which one is
module _ {A : Type 0} (same : ℕ → ℕ → Bool) (r s : NumberedPermissions A) where
  pub both-lists : (ps qs : List ℕ) (answer : Bool) → r.written ≡ None → s.written ≡ None → ps ≡ r.given → qs ≡ s.given → answer ≡ all_same same ps qs
      → answer ≡ are_same same (written_in r) (written_in s)
  both-lists ps qs answer none no_other here there is =
      is ∙ (λ i. all_same same (here i) (there i)) ∙ sym (lists-same same r.given s.given)
      ∙ (λ i. are_same same (written_or (sym none i) r.given) (written_or (sym no_other i) s.given))

  pub both-kept : (e f : Box (Expression ℕ A) A) (x y : Expression ℕ A) (answer : Bool) → r.written ≡ Some e → s.written ≡ Some f → x ≡ e.value → y ≡ f.value
      → answer ≡ are_same same (expr_in x) (expr_in y) → answer ≡ are_same same (written_in r) (written_in s)
  both-kept e f x y answer kept keeps here there is =
      is ∙ (λ i. are_same same (expr_in (here i)) (expr_in (there i)))
      ∙ (λ i. are_same same (written_or (sym kept i) r.given) (written_or (sym keeps i) s.given))

  pub first-kept : (e : Box (Expression ℕ A) A) → is_no_list r.written ≡ true → r.written ≡ Some e → s.written ≡ None → are_same same (written_in r) (written_in s) ≡ false
  first-kept e no_list kept none = false_from_ne_true (are_same same (written_in r) (written_in s)) (λ is.
      true≢false (sym no_list ∙ ap is_no_list kept
      ∙ ap not (sym (ap (λ w. is_plain (written_or w r.given)) kept) ∙ plain-same same (written_in r) (written_in s) is ∙ ap (λ w. is_plain (written_or w s.given)) none ∙ plain-list s.given)))

  pub second-kept : (f : Box (Expression ℕ A) A) → is_no_list s.written ≡ true → r.written ≡ None → s.written ≡ Some f → are_same same (written_in r) (written_in s) ≡ false
  second-kept f no_list none keeps = false_from_ne_true (are_same same (written_in r) (written_in s)) (λ is.
      true≢false (sym no_list ∙ ap is_no_list keeps
      ∙ ap not (sym (ap (λ w. is_plain (written_or w s.given)) keeps) ∙ sym (plain-same same (written_in r) (written_in s) is) ∙ ap (λ w. is_plain (written_or w r.given)) none ∙ plain-list r.given)))
