-- What stands at a place.
use Rattle.std.specs.Prelude.{ℕ, [], slice_index_or}
use Rattle.cil_specs.specs.Expr.{nothing}
use Rattle.cil_specs.specs.Place.{Place}
use Rattle.cil_specs.specs.Rule.{Declared, SetStatement}
use Rattle.cil_resolve.specs.Sets.{sets_in}
use Rattle.cil_resolve.specs.declared.resolved.Resolved.{Resolved}

abbrev pub no_place : Place
no_place = record { offset = 0; line = 0; column = 0 }

abbrev pub no_declared : Declared
no_declared = record { module_name = []; at = no_place; name = [] }

abbrev pub no_set : SetStatement
no_set = record { module_name = []; at = no_place; attribute = []; expr = nothing }

-- the set statement at a place of the order of dependence
abbrev pub set_at : {A : Type 0} → Resolved A → ℕ → SetStatement
set_at r i = slice_index_or (sets_in r) i no_set
