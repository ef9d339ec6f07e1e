-- Statements of a bound policy.
use Rattle.std.specs.Prelude.{◌≡◌, List, [], Contains, Option, Some}
use Rattle.std.specs.Option.{option_map}
use Rattle.cil_specs.specs.Names.{Word}
use Rattle.cil_specs.specs.Joined.{Placed}
use Rattle.cil_specs.specs.Lookup.{references}
use Rattle.cil_specs.specs.PolicyFault.{missing_words}
use Rattle.cil_parse.specs.Builder.{read}
use Rattle.cil_parse.specs.Flat.{FlatStatement}
use Rattle.cil_parse.specs.Parsed.{texts_of}
use Rattle.cil_parse.specs.View.{IsShown}
use Rattle.cil_parse.specs.declared.row.NumberedWord.{NumberedWord}
use Rattle.cil_bind.specs.Binding.{AreLeads}
use Rattle.cil_bind.specs.Policy.{IsBoundTo}
use Rattle.cil_bind.specs.Written.{HaveOneNames}
use Rattle.cil_bind.specs.Ordered.{AreOrdered}
use Rattle.cil_check.specs.declared.bound.Seen.{Seen}
use Rattle.cil_check.specs.declared.bound.BoundPolicy.{BoundPolicy}

-- The statements in optionals have all their names found.
abbrev pub AreFoundInside : List Placed → Type 0
AreFoundInside policy = (s : Placed) → Contains policy s → (s.optionals ≡ [] → ⊥) → missing_words policy s ≡ []

-- The policy is bound and stands in order, what stands in optionals has its names found, and names have no dots.
pub record IsOf {A : Type 0} (b : BoundPolicy A) (policy : List Placed) : Type 0 where
  pub bound : IsBoundTo b.policy.now b.joined.now.modules.items policy
  pub ordered : AreOrdered policy
  pub inside : AreFoundInside policy
  pub spelt : HaveOneNames policy

-- what is seen of a statement
pub record IsSeen {A : Type 0} (seen : Seen A) (policy : List Placed) (s : Placed) : Type 0 where
  pub f : FlatStatement
  pub shown : IsShown (texts_of seen.«module».now) seen.view f
  pub form : f.form ≡ s.form
  pub place : f.at ≡ s.at
  pub named : seen.name.now ≡ s.module_name
  pub leads_are : AreLeads policy s.namespace (references s.form) seen.bound

-- the numbered word is this one, by the texts of the statement's module
abbrev pub Reads : {A : Type 0} → Seen A → Option NumberedWord → Option Word → Type 0
Reads seen found word = option_map (read (texts_of seen.«module».now)) found ≡ option_map Some word
