-- The optionals that are kept, those that drop, and the faults of a policy by what it keeps. All other
-- definitions read a plain list of statements.
use Rattle.std.specs.Prelude.{◌≡◌, ◌↔◌, ℕ, ◌==◌, Bool, false, not, ◌&&◌, List, [], ◌∷◌, filter, flat_map, bytes_eq, Contains, IsTrue, if◌then◌else◌}
use Rattle.std.specs.List.{list_all, list_any}
use Rattle.cil_specs.specs.Statements.{is_optional, stands_apart}
use Rattle.cil_specs.specs.Joined.{Placed}
use Rattle.cil_specs.specs.Lookup.{scopes}
use Rattle.cil_specs.specs.PolicyFault.{PolicyFaultKind, twice, PolicyFault, missing_words, IsFaultOf, IsNoLater}
use Rattle.cil_specs.specs.Rule.{Declared, declared_as}

-- a set of optionals, each by its module and its offset
abbrev pub Optionals : Type 0
Optionals = List ℕ → ℕ → Bool

-- whether all optionals around a statement are in the set
abbrev pub is_within : Optionals → Placed → Bool
is_within set s = list_all (set s.module_name) s.optionals

-- the policy of the statements all of whose optionals are in the set
abbrev pub restricted : Optionals → List Placed → List Placed
restricted set policy = filter (is_within set) policy

-- whether a statement is the optional of a module at an offset
abbrev pub is_optional_at : List ℕ → ℕ → Placed → Bool
is_optional_at name at s = is_optional s.form && (bytes_eq name s.module_name && at == s.at.offset)

-- whether a statement is an optional of the set
abbrev pub is_member : Optionals → Placed → Bool
is_member set s = is_optional s.form && set s.module_name s.at.offset

abbrev pub has_innermost : Optionals → List ℕ → List ℕ → Bool
has_innermost set name [] = false
has_innermost set name (at ∷ outer) = set name at

-- whether a statement stands directly in an optional of the set: in it, and in no further inner one
abbrev pub is_directly_in : Optionals → Placed → Bool
is_directly_in set s = has_innermost set s.module_name s.optionals

-- whether each of some optionals is among others
abbrev pub IsWithin : Optionals → Optionals → Type 0
IsWithin kept more = (name : List ℕ) (at : ℕ) → IsTrue (kept name at) → IsTrue (more name at)

-- A set of optionals of a policy is good if, for each member, all optionals around it are members, and each statement directly in
-- it has all its names found in the policy of the statements outside optionals or in members.
pub record IsGood (policy : List Placed) (set : Optionals) : Type 0 where
  pub of_policy : (name : List ℕ) (at : ℕ) → IsTrue (set name at) → IsTrue (list_any (is_optional_at name at) policy)
  pub around : (s : Placed) → Contains policy s → IsTrue (is_member set s) → IsTrue (is_within set s)
  pub found : (s : Placed) → Contains policy s → IsTrue (is_directly_in set s) → missing_words (restricted set policy) s ≡ []

-- The kept optionals are those of all good sets together.
abbrev pub AreKept : List Placed → Optionals → Type 0
AreKept policy kept = (name : List ℕ) (at : ℕ) → IsTrue (kept name at) ↔ ((set : Optionals) × IsGood policy set × IsTrue (set name at))

-- Blocks, classes, commons and what is said of them stand in no optional.
abbrev pub AreApart : List Placed → Type 0
AreApart policy = (s : Placed) → Contains policy s → IsTrue (stands_apart s.form) → s.optionals ≡ []

-- the optionals that drop, those inside others too, in the order of their statements
abbrev pub dropped_of : Optionals → List Placed → List Declared
dropped_of kept policy = flat_map (λ s. if is_optional s.form && not (kept s.module_name s.at.offset) then declared_as scopes s ∷ [] else []) policy

-- Where faults of a kind are looked for: names that are declared twice in the whole policy, whatever it keeps; all others among
-- the statements all of whose optionals are kept, those outside optionals too.
abbrev pub judged : PolicyFaultKind → Optionals → List Placed → List Placed
judged twice kept policy = policy
judged _ kept policy = restricted kept policy

abbrev pub IsPolicyFault : Optionals → List Placed → PolicyFault → Type 0
IsPolicyFault kept policy fault = IsFaultOf fault.kind (judged fault.kind kept policy) fault

-- the first fault of a policy by some optionals: the least code, then the least module name by bytes, then the least offset
pub record IsFirst (kept : Optionals) (policy : List Placed) (fault : PolicyFault) : Type 0 where
  pub is : IsPolicyFault kept policy fault
  pub first : (other : PolicyFault) → IsPolicyFault kept policy other → IsNoLater fault other

-- a policy with no fault compiles
abbrev pub Compiles : Optionals → List Placed → Type 0
Compiles kept policy = (fault : PolicyFault) → IsPolicyFault kept policy fault → ⊥

-- the first fault of a policy, by the optionals that it keeps
abbrev pub IsFirstFault : List Placed → PolicyFault → Type 0
IsFirstFault policy fault = (kept : Optionals) × AreKept policy kept × IsFirst kept policy fault
