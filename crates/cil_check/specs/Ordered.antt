-- Faults of the statements of a policy.
use Rattle.std.specs.Prelude.{◌≡◌, ℕ, ◌<◌, ◌≤◌, List, [], take, Contains}
use Rattle.cil_specs.specs.Joined.{Placed}
use Rattle.cil_specs.specs.PolicyFault.{PolicyFault, PolicyFaultKind, code_of, missing_words, IsFaultOf}
use Rattle.cil_specs.proofs.FirstLemmas.{faulty_words}

-- a fault of these statements, of whatever kind
abbrev pub IsFaultIn : List Placed → PolicyFault → Type 0
IsFaultIn policy fault = IsFaultOf fault.kind policy fault

-- they have no fault, and all names of each are found
pub record IsFaultless (policy : List Placed) : Type 0 where
  pub none : (fault : PolicyFault) → IsFaultIn policy fault → ⊥
  pub found : (s : Placed) → Contains policy s → missing_words policy s ≡ []

-- they have no fault of a lesser code than this
abbrev pub HasNoneBelow : ℕ → List Placed → Type 0
HasNoneBelow code policy = (fault : PolicyFault) → IsFaultIn policy fault → code_of fault.kind < code → ⊥

-- the statement of a place has no fault of the kinds that are seen at one statement, 42 to 47
pub record IsCleanAt (policy : List Placed) (place : ℕ) (s : Placed) : Type 0 where
  pub none : (kind : PolicyFaultKind) → 42 ≤ code_of kind → code_of kind < 48 → faulty_words kind policy (take place policy) s ≡ []
