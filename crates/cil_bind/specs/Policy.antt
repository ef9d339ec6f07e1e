-- A joined policy whose references are bound.
use Rattle.std.specs.Prelude.{◌≡◌, ◌<◌, ◌^◌, ℕ, List, [], ◌∷◌, length, take, slice_get, slice_index_or, Option, Some, Bool, false}
use Rattle.cil_specs.specs.Names.{Word}
use Rattle.cil_specs.specs.Joined.{Placed}
use Rattle.cil_specs.specs.PolicyFault.{PolicyFault, twice, twice_words}
use Rattle.cil_text.specs.Image.{place_of}
use Rattle.cil_specs.specs.Kept.{Optionals, is_within}
use Rattle.cil_bind.specs.declared.rows.Row.{Row}
use Rattle.cil_lookup.specs.Lookup.{Knows}
use Rattle.cil_bind.specs.Rows.{IsOnce}
use Rattle.cil_bind.specs.Scope.{Stands, AreFrom, AreAround, AreSpaced}
use Rattle.cil_bind.specs.Words.{AreWorded}
use Rattle.cil_bind.specs.AboutNames.{name_places}
use Rattle.cil_bind.specs.Binding.{AreBound, bound_rows, kinds_of}
use Rattle.cil_bind.specs.declared.joined.NamedModule.{NamedModule}
use Rattle.cil_bind.specs.declared.redeclaration.Redeclaration.{Redeclaration}
use Rattle.cil_bind.specs.declared.policy.Policy.{Policy}
use Rattle.cil_bind.specs.declared.policy.Numbers.{Numbers}
use Rattle.cil_bind.specs.declared.policy.Joining.{Joining}
use Rattle.cil_bind.specs.declared.policy.Joining.TheVariants.{Once, Twice}

-- for each statement where its references lead
abbrev pub bound_of : {A : Type 0} → Policy A → List (NamedModule A) → List (List (Option ℕ))
bound_of p parsed = bound_rows parsed p.leads.0 p.rows.items

-- each module's names have these numbers, and what its statements look up is looked up from these namespaces
pub record IsNumbered {A : Type 0} (names spaces : List (List ℕ)) (parsed : List (NamedModule A)) (numbers : Numbers A) : Type 0 where
  pub worded : AreWorded names numbers.words.items parsed
  pub spaced : AreSpaced names spaces parsed numbers.spaces.0
  pub long : length numbers.spaces.0 ≡ length parsed

-- The words, the namespaces and the rows are those of this policy; each name has its first declaration, and none is declared twice;
-- what each module's statements look up is looked up from these namespaces, and each reference is bound to what it leads to; the kinds
-- are those of the statements, and the places of those about names follow from them; and places have 32 bits.
pub record IsBoundTo {A : Type 0} (p : Policy A) (parsed : List (NamedModule A)) (policy : List Placed) : Type 0 where
  pub stands : Stands p.names p.lookup.namespaces p.rows.items policy
  pub from : AreFrom parsed p.rows.items policy
  pub knows : Knows p.lookup.namespaces p.lookup.declared.entries p.names policy
  pub once : IsOnce policy
  pub worded : AreWorded p.names p.words.items parsed
  pub spaced : AreSpaced p.names p.lookup.namespaces parsed p.spaces.0
  pub spaces_long : length p.spaces.0 ≡ length parsed
  pub leads_long : length p.leads.0 ≡ length parsed
  pub bound : AreBound policy policy (bound_of p parsed)
  pub kinds : p.kinds.items ≡ kinds_of policy
  pub name_places : p.name_places.items ≡ name_places 0 p.kinds.items
  pub few : length p.rows.items < 2 ^ 32

-- a word of a statement, by its module and its place
pub record IsTold (again : Redeclaration) (s : Placed) (word : Word) : Type 0 where
  pub named : again.«module».now ≡ s.module_name
  pub place : place_of again.at ≡ word.at
  pub text : again.word.now ≡ word.text

-- The word is that of the first statement whose name those in front of it declare, where the two aren't both optionals.
pub record IsFirstAgain (policy : List Placed) (again : Redeclaration) : Type 0 where
  pub place : ℕ
  pub s : Placed
  pub word : Word
  pub once : IsOnce (take place policy)
  pub at : slice_get policy place ≡ Some s
  pub is_twice : twice_words (take place policy) s ≡ word ∷ []
  pub told : IsTold again s word

-- what is made of a policy: all of it bound; or the first name that is declared again
abbrev pub Makes : {A : Type 0} → List (NamedModule A) → List Placed → Joining A → Type 0
Makes parsed policy (Once p) = IsBoundTo p parsed policy
Makes parsed policy (Twice again) = IsFirstAgain policy again

-- the fault of a name that is declared again
abbrev pub fault_of : Redeclaration → PolicyFault
fault_of again = record { kind = twice; module_name = again.«module».now; at = place_of again.at; word = again.word.now }

-- A row is marked, by the number of its innermost optional, where all optionals around its statement are in the set.
abbrev pub AreMarked : Optionals → List Bool → List Row → List Placed → Type 0
AreMarked set kept [] [] = Unit {0}
AreMarked set kept [] (s ∷ policy) = ⊥
AreMarked set kept (row ∷ rows) [] = ⊥
AreMarked set kept (row ∷ rows) (s ∷ policy) = (slice_index_or kept row.optional false ≡ is_within set s) × AreMarked set kept rows policy

-- of what is made of a whole policy, the rows tell the innermost optionals around their statements
abbrev pub TellsAround : {A : Type 0} → List Placed → Joining A → Type 0
TellsAround policy (Once p) = AreAround policy 0 p.rows.items policy
TellsAround policy (Twice again) = Unit {0}
