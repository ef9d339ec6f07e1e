-- Rules and set statements of two policies that say the same, by the numbers of their names.
use Rattle.std.specs.Prelude.{◌≡◌, ◌==◌, ◌&&◌, ℕ, Bool, true, false, List, Option, None, Some, slice_get}
use Rattle.cil_specs.specs.Rule.{kind_index}
use Rattle.cil_text.specs.Image.{rule_kind_of}
use Rattle.cil_expression.specs.declared.expression.Element.{Element}
use Rattle.cil_expression.specs.declared.expression.Element.TheVariants.{«Type», Attribute}
use Rattle.cil_expression.specs.Expression.{set_expr_in}
use Rattle.cil_expression.specs.Same.{are_same}
use Rattle.cil_resolve.specs.Numbers.{written_in}
use Rattle.cil_resolve.specs.declared.numbered.NumberedPermissions.{NumberedPermissions}
use Rattle.cil_resolve.specs.declared.numbered.NumberedRule.{NumberedRule}
use Rattle.cil_resolve.specs.declared.numbered.NumberedSet.{NumberedSet}
use Rattle.cil_resolve.specs.declared.numbered.ResolvedPermissions.{ResolvedPermissions}
use Rattle.cil_resolve.specs.declared.numbered.ResolvedPermissions.TheVariants as permits
use Rattle.cil_resolve.specs.declared.numbered.ResolvedTarget.{ResolvedTarget}
use Rattle.cil_resolve.specs.declared.numbered.ResolvedTarget.TheVariants as aims

-- whether a name's number in the new policy is this one
abbrev pub is_that : Option (Option ℕ) → ℕ → Bool
is_that None b = false
is_that (Some None) b = false
is_that (Some (Some n)) b = n == b

-- the same of the name that has a number in the old policy
abbrev pub is_number_of : List (Option ℕ) → ℕ → ℕ → Bool
is_number_of numbers a b = is_that (slice_get numbers a) b

-- whether what a name leads to is a type, and its number
abbrev pub is_type : Element → Bool
is_type («Type» a) = true
is_type (Attribute a) = false

abbrev pub number_in : Element → ℕ
number_in («Type» a) = a
number_in (Attribute a) = a

abbrev pub is_element_by : List (Option ℕ) → Element → Element → Bool
is_element_by numbers («Type» a) («Type» b) = is_number_of numbers a b
is_element_by numbers («Type» a) (Attribute b) = false
is_element_by numbers (Attribute a) («Type» b) = false
is_element_by numbers (Attribute a) (Attribute b) = is_number_of numbers a b

abbrev pub is_target_by : List (Option ℕ) → ResolvedTarget → ResolvedTarget → Bool
is_target_by numbers aims.Itself aims.Itself = true
is_target_by numbers aims.Itself (aims.Element y) = false
is_target_by numbers (aims.Element x) aims.Itself = false
is_target_by numbers (aims.Element x) (aims.Element y) = is_element_by numbers x y

-- whether two rules say the same but for their permissions
abbrev pub is_head_by : {A : Type 0} → List (Option ℕ) → NumberedRule A → NumberedRule A → Bool
is_head_by numbers r s =
    ((kind_index (rule_kind_of r.kind) == kind_index (rule_kind_of s.kind)) && is_element_by numbers r.source s.source) && is_target_by numbers r.target s.target

-- whether permissions of a class are written the same: by expressions of one shape, of the same names
abbrev pub is_written_by : {A : Type 0} → List (Option ℕ) → NumberedPermissions A → NumberedPermissions A → Bool
is_written_by numbers p q = are_same (is_number_of numbers) (written_in p) (written_in q)

-- whether the permissions of two rules are the same: of one class and written the same, or those of one permission set
abbrev pub are_permissions_by : {A : Type 0} → List (Option ℕ) → ResolvedPermissions A → ResolvedPermissions A → Bool
are_permissions_by numbers (permits.OfClass p) (permits.OfClass q) = is_number_of numbers p.class q.class && is_written_by numbers p q
are_permissions_by numbers (permits.OfClass p) (permits.OfSet t) = false
are_permissions_by numbers (permits.OfSet s) (permits.OfClass q) = false
are_permissions_by numbers (permits.OfSet s) (permits.OfSet t) = is_number_of numbers s.set t.set

-- whether two set statements say the same: are of one attribute, with expressions of one shape, of the same names
abbrev pub is_set_by : {A : Type 0} → List (Option ℕ) → NumberedSet A → NumberedSet A → Bool
is_set_by numbers s t =
    is_number_of numbers s.attribute t.attribute && are_same (is_element_by numbers) (set_expr_in s.expression) (set_expr_in t.expression)

-- Two rules say the same.
pub record SayTheSame {A : Type 0} (numbers : List (Option ℕ)) (r s : NumberedRule A) : Type 0 where
  pub head : is_head_by numbers r s ≡ true
  pub permissions : are_permissions_by numbers r.permissions s.permissions ≡ true
