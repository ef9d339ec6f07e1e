-- Shared names.
use Rattle.std.specs.Prelude.{ℕ, List}
use Rattle.cil_resolve.specs.declared.resolved.Resolved.{Resolved}

-- the names of a policy
abbrev pub names_of : {A : Type 0} → Resolved A → List (List ℕ)
names_of r = r.names.items
