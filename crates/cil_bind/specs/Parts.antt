-- Policies by their parts.
use Rattle.std.specs.Prelude.{ℕ, List, Option}
use Rattle.cil_bind.specs.declared.declarations.Declarations.{Declarations}
use Rattle.cil_bind.specs.declared.policy.Numbers.{Numbers}
use Rattle.cil_bind.specs.declared.policy.Policy.{Policy}
use Rattle.cil_bind.specs.declared.scope.Scope.{Scope}

-- the policy in which what is looked up leads elsewhere
abbrev pub with_leads : {A : Type 0} → Policy A → List (List (Option ℕ)) × List (Option ℕ) → Policy A
with_leads p leads = record {
  names = p.names;
  words = p.words;
  lookup = p.lookup;
  rows = p.rows;
  spaces = p.spaces;
  leads = leads;
  kinds = p.kinds;
  name_places = p.name_places;
}

-- the policy of statements by numbers, of what is known of their modules, of what they declare, and of where what is looked up leads
abbrev pub made_of : {A : Type 0} → Scope A → Numbers A → Declarations A → List (List (Option ℕ)) × List (Option ℕ) → Policy A
made_of scope numbers declarations leads = record {
  names = scope.names;
  words = numbers.words;
  lookup = record { namespaces = scope.namespaces; declared = declarations.first };
  rows = scope.rows;
  spaces = numbers.spaces;
  leads = leads;
  kinds = scope.kinds;
  name_places = numbers.name_places;
}
