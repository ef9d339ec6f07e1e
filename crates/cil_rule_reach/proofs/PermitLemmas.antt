-- Permissions of classes as permits.
use Rattle.std.proofs.Common.{◌≡◌, ◌==◌, ◌&&◌, ◌||◌, ℕ, List, [], ◌∷◌, map, slice_index, refl, ap}
use Rattle.std.specs.List.{list_any}
use Rattle.cil_resolve.specs.declared.set_permissions.ClassPermission.{ClassPermission}
use Rattle.cil_rule_shifts.specs.Permits.{has_permit}
use Rattle.cil_rule_reach.specs.Reaches.{permit_by}

-- permissions of one class, by symbols, are those of the class
pub class-permits : (symbols : List ℕ) (class : ℕ) (ps : List ℕ)
    → map (λ p. record { class = slice_index symbols class; permission = slice_index symbols p }) ps
    ≡ map (permit_by symbols) (map (λ n. record { class = class; permission = n }) ps)
class-permits symbols class [] = refl
class-permits symbols class (p ∷ ps) =
    ap (λ l. record { class = slice_index symbols class; permission = slice_index symbols p } ∷ l) (class-permits symbols class ps)

-- a list of them has the permits of these
pub listed-has : (symbols : List ℕ) (gs : List ClassPermission) (c p : ℕ)
    → has_permit (map (permit_by symbols) gs) c p ≡ list_any (λ g. (slice_index symbols g.class == c) && (slice_index symbols g.permission == p)) gs
listed-has symbols [] c p = refl
listed-has symbols (g ∷ gs) c p = ap (λ b. ((slice_index symbols g.class == c) && (slice_index symbols g.permission == p)) || b) (listed-has symbols gs c p)
