-- Where statements stand.
use Rattle.std.specs.Prelude.{◌≡◌, ◌==◌, ◌&&◌, ℕ, Bool, List, Some, bytes_eq, slice_get}
use Rattle.std.specs.Ordering.{nat_cmp, ordering_then}
use Rattle.std.specs.declared.cmp.Ordering.{Ordering}
use Rattle.cil_specs.specs.Report.{name_cmp}
use Rattle.cil_specs.specs.Rule.{Rule, SetStatement}
use Rattle.cil_matching.specs.declared.positions.Position.{Position}

-- the name of a module, and an offset in its text
pub record Spot : Type 0 where
  pub module_name : List ℕ
  pub offset : ℕ

abbrev pub spot_of : Position → Spot
spot_of p = record { module_name = p.«module».now; offset = p.offset }

abbrev pub same_spot : Spot → Spot → Bool
same_spot p q = bytes_eq p.module_name q.module_name && (p.offset == q.offset)

-- spots by the names of their modules, and then their offsets
abbrev pub spot_cmp : Spot → Spot → Ordering
spot_cmp p q = ordering_then (name_cmp p.module_name q.module_name) (nat_cmp p.offset q.offset)

abbrev pub set_spot : SetStatement → Spot
set_spot s = record { module_name = s.module_name; offset = s.at.offset }

abbrev pub rule_spot : Rule → Spot
rule_spot r = record { module_name = r.module_name; offset = r.at.offset }

-- No place has the spot of another one.
abbrev pub AreApart : List Spot → Type 0
AreApart spots = (i j : ℕ) (p : Spot) → slice_get spots i ≡ Some p → slice_get spots j ≡ Some p → i ≡ j
