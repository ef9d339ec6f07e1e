-- What a rule permits: classes with permissions of theirs, by symbols.
use Rattle.std.specs.Prelude.{◌&&◌, ◌==◌, ℕ, Bool, List}
use Rattle.std.specs.List.{list_any}
use Rattle.std.specs.List.Sorted.{IsStrictlySortedBy}
use Rattle.std.specs.Ordering.{nat_cmp, on, then_cmp}
use Rattle.std.specs.declared.cmp.Ordering.{Ordering}
use Rattle.cil_rule_shifts.specs.declared.permit.Permit.{Permit}

-- whether it is that of a class and a permission
abbrev pub is_permit : ℕ → ℕ → Permit → Bool
is_permit class permission permit = (permit.class == class) && (permit.permission == permission)

-- whether a list has that of a class and a permission
abbrev pub has_permit : List Permit → ℕ → ℕ → Bool
has_permit permits class permission = list_any (is_permit class permission) permits

-- the order: by class, and then by permission
abbrev pub permit_cmp : Permit → Permit → Ordering
permit_cmp = then_cmp (on (λ p. p.class) nat_cmp) (on (λ p. p.permission) nat_cmp)

-- each once, in their order
abbrev pub AreInOrder : List Permit → Type 0
AreInOrder = IsStrictlySortedBy permit_cmp
