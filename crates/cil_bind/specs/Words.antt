-- The words of modules in one numbering.
use Rattle.std.specs.Prelude.{◌≡◌, ◌<◌, ℕ, List, [], ◌∷◌, ◌++◌, Vec, Option, None, Some, length, slice_get, slice_index_or}
use Rattle.cil_specs.specs.Joined.{Placed}
use Rattle.cil_specs.specs.Lookup.{leads}
use Rattle.cil_parse.specs.Lexicon.{AreNumbersOf}
use Rattle.cil_parse.specs.Parsed.{citations_of, names_of, texts_of}
use Rattle.cil_parse.specs.declared.citations.Citation.{Citation}
use Rattle.cil_parse.specs.declared.table.Table as code
use Rattle.cil_lookup.specs.Lookup.{namespace_at, table_of, Knows, IsLead}
use Rattle.cil_parse.specs.declared.parsed.ParsedModule.{ParsedModule}
use Rattle.cil_lookup.specs.declared.lookup.Lookup.{Lookup}
use Rattle.cil_bind.specs.declared.joined.NamedModule.{NamedModule}

-- each module's names have these numbers
abbrev pub AreWorded : {A : Type 0} → List (List ℕ) → List (Vec ℕ A) → List (NamedModule A) → Type 0
AreWorded names [] [] = Unit {0}
AreWorded names [] (m ∷ modules) = ⊥
AreWorded names (w ∷ words) [] = ⊥
AreWorded names (w ∷ words) (m ∷ modules) = AreNumbersOf names w.items (names_of m.module.now) × AreWorded names words modules

-- where a text of a module leads to from a namespace
abbrev pub LeadsTo : List (List ℕ) → List (List ℕ) → List (List ℕ) → List Placed → code.Table → ℕ → ℕ → Option ℕ → Type 0
LeadsTo names spaces texts policy table n t found = IsLead (table_of table) policy found (leads policy (table_of table) (namespace_at names spaces n) (slice_index_or texts t []))

-- what holds by the names and the policy that a look-up knows, where these are the numbers of the names of a module
abbrev pub AsKnown : {A : Type 0} → Lookup A → ParsedModule A → List ℕ → (List (List ℕ) → List Placed → Type 0) → Type 0
AsKnown lookup m words P = (names : List (List ℕ)) (policy : List Placed) → Knows lookup.namespaces lookup.declared.entries names policy → AreNumbersOf names words (names_of m) → P names policy

-- where what is looked up from a namespace leads, if it is a text of the module and the namespace is there
abbrev pub IsLed : List (List ℕ) → List (List ℕ) → List (List ℕ) → List Placed → Citation → ℕ → Option ℕ → Type 0
IsLed names spaces texts policy c n found =
    c.text < length texts → n < length spaces → LeadsTo names spaces texts policy c.table n c.text found

-- each of what is looked up leads there, from its namespace
abbrev pub AreLed : List (List ℕ) → List (List ℕ) → List (List ℕ) → List Placed → List Citation → List ℕ → List (Option ℕ) → Type 0
AreLed names spaces texts policy citations from leads = (n : ℕ) (c : Citation) → slice_get citations n ≡ Some c
    → IsLed names spaces texts policy c (slice_index_or from n 0) (slice_index_or leads n None)

-- the same of each of some modules
abbrev pub AreAllLed : {A : Type 0} → List (List ℕ) → List (List ℕ) → List Placed → List (NamedModule A) → List (List ℕ) → List (List (Option ℕ)) → Type 0
AreAllLed {A} names spaces policy parsed from leads = (k : ℕ) (m : NamedModule A) → slice_get parsed k ≡ Some m
    → AreLed names spaces (texts_of m.«module».now) policy (citations_of m.«module».now) (slice_index_or from k []) (slice_index_or leads k [])

-- A list came behind others, and this holds of it.
pub record Comes {X : Type 0} (Says : List X → Type 0) (old new : List (List X)) : Type 0 where
  pub came : List X
  pub added : new ≡ old ++ came ∷ []
  pub says : Says came
