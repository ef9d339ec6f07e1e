-- The modules of a joined policy, as they are kept parsed.
use Rattle.std.specs.Prelude.{List, ℕ, map}
use Rattle.cil_specs.specs.Joined.{Module}
use Rattle.cil_bind.specs.Scope.{AreSpelt}
use Rattle.cil_bind.specs.Written.{AreWritten}
use Rattle.cil_bind.specs.declared.joined.NamedModule.{NamedModule}

-- these parsed modules have the statements of these modules, each of which a text spells
pub record AreParsedFrom {A : Type 0} (parsed : List (NamedModule A)) (modules : List Module) : Type 0 where
  pub spelt : AreSpelt parsed modules
  pub written : AreWritten modules

-- the names of parsed modules
abbrev pub names_of : {A : Type 0} → List (NamedModule A) → List (List ℕ)
names_of parsed = map (λ m. m.name.now) parsed
