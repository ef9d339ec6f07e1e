-- The permissions that rules give, each with its class: in order and each once.
use Rattle.std.specs.Prelude.{◌≡◌, ◌↔◌, ◌==◌, ◌&&◌, ◌<◌, ℕ, Bool, List, [], ◌∷◌, Contains, length, slice_get, slice_index_or, Option, Some, None}
use Rattle.std.specs.List.{list_any, filter}
use Rattle.std.specs.List.Sorted.{IsStrictlySortedBy}
use Rattle.std.specs.Rc.{rc_value}
use Rattle.std.specs.declared.cmp.Ordering.{Ordering}
use Rattle.cil_resolve.specs.Numbers.{given_in}
use Rattle.cil_resolve.specs.SetPermissions.{permission_cmp}
use Rattle.cil_resolve.specs.declared.numbered.NumberedRule.{NumberedRule}
use Rattle.cil_resolve.specs.declared.numbered.ResolvedPermissions.{ResolvedPermissions}
use Rattle.cil_resolve.specs.declared.numbered.ResolvedPermissions.TheVariants as permits
use Rattle.cil_resolve.specs.declared.set_permissions.ClassPermission.{ClassPermission}

-- the same things in an order, each once
pub record IsOrdered {X : Type 0} (cmp : X → X → Ordering) (items ordered : List X) : Type 0 where
  pub rising : IsStrictlySortedBy cmp ordered
  pub same : (x : X) → Contains ordered x ↔ Contains items x

-- what the set gives, where a rule is one of a set
abbrev pub set_gives : {A : Type 0} → ResolvedPermissions A → List ClassPermission
set_gives (permits.OfClass p) = []
set_gives (permits.OfSet s) = (rc_value s.given).items

abbrev pub set_gives_at : {A : Type 0} → Option (NumberedRule A) → List ClassPermission
set_gives_at None = []
set_gives_at (Some r) = set_gives r.permissions

-- a list, or another one where it is empty
abbrev pub or_else : List ClassPermission → List ClassPermission → List ClassPermission
or_else [] others = others
or_else (g ∷ list) others = g ∷ list

-- what the rule at a place gives: what is listed for it, or what its set gives
abbrev pub given_at : {A : Type 0} → List (NumberedRule A) → List (List ClassPermission) → ℕ → List ClassPermission
given_at rules lists i = or_else (slice_index_or lists i []) (set_gives_at (slice_get rules i))

-- Lists for rules: what each gives is in order.
pub record AreOrdered {A : Type 0} (rules : List (NumberedRule A)) (lists : List (List ClassPermission)) : Type 0 where
  pub len : length lists ≡ length rules
  pub each : (i : ℕ) (r : NumberedRule A) → slice_get rules i ≡ Some r
      → IsOrdered permission_cmp (given_in r.permissions) (given_at rules lists i)

-- the numbers of their classes are below this one
abbrev pub AreBelow : ℕ → List ClassPermission → Type 0
AreBelow n list = (g : ClassPermission) → Contains list g → g.class < n

-- whether two are one
abbrev pub is_same : ClassPermission → ClassPermission → Bool
is_same g other = (other.class == g.class) && (other.permission == g.permission)

-- whether one is among some
abbrev pub is_among : List ClassPermission → ClassPermission → Bool
is_among others g = list_any (is_same g) others

-- whether two lists share one
abbrev pub share : List ClassPermission → List ClassPermission → Bool
share first second = list_any (is_among second) first

-- those of the first that are in the second
abbrev pub shared : List ClassPermission → List ClassPermission → List ClassPermission
shared first second = filter (is_among second) first

-- those of a class
abbrev pub of_class : ℕ → List ClassPermission → List ClassPermission
of_class the_class list = filter (λ g. g.class == the_class) list

-- whether one of a list is of a class
abbrev pub gives_class : List ClassPermission → ℕ → Bool
gives_class list the_class = list_any (λ g. g.class == the_class) list
