-- What differs between two policies: the pairs that an edit from the one to the other may have to look at anew.
use Rattle.std.specs.Prelude.{◌≡◌, ◌≢◌, ◌⊎◌, ◌||◌, ℕ, false, List, All, AllPairs, Contains, IsTrue}
use Rattle.cil_specs.specs.Meaning.{Meaning, keeps_type, gives}
use Rattle.cil_specs.specs.Members.{is_member}
use Rattle.cil_specs.specs.Rule.{Rule, Atom, SetStatement, IsSameRule, IsSameSet}
use Rattle.cil_specs.specs.Sets.{differ, mentions}

-- exactly one of two
abbrev pub OnlyOne : Type 0 → Type 0 → Type 0
OnlyOne P Q = (P × (¬ Q)) ⊎ (Q × (¬ P))

-- a policy has a set statement, as resolved
abbrev pub HasSet : Meaning → SetStatement → Type 0
HasSet meaning s = (t : SetStatement) × Contains meaning.sets t × IsSameSet s t

-- A set statement and a type, each of one of two policies, where the statement is in one alone, or the type is, or an attribute that
-- the statement's expression mentions has the type as a member in one alone.
pub record IsDirtyPair (old new : Meaning) (s : SetStatement) (t : List ℕ) : Type 0 where
  pub statement : HasSet old s ⊎ HasSet new s
  pub a_type : IsTrue (keeps_type old t || keeps_type new t)
  pub why : OnlyOne (HasSet old s) (HasSet new s) ⊎ (IsTrue (differ (keeps_type old t) (keeps_type new t))
      ⊎ ((attribute : List ℕ) × IsTrue (mentions attribute s.expr) × IsTrue (differ (is_member old attribute t) (is_member new attribute t))))

-- such pairs, each once
pub record AreDirtyPairs (old new : Meaning) (pairs : List (SetStatement × List ℕ)) : Type 0 where
  pub each : All (λ p. IsDirtyPair old new p.0 p.1) pairs
  pub once : AllPairs (λ p q. ¬ (IsSameSet p.0 q.0 × (p.1 ≡ q.1))) pairs

-- an attribute has a type as a member in the new policy and not in the old; such pairs, each once
pub record AreGained (old new : Meaning) (pairs : List (List ℕ × List ℕ)) : Type 0 where
  pub each : All (λ p. (is_member old p.0 p.1 ≡ false) × IsTrue (is_member new p.0 p.1)) pairs
  pub once : AllPairs (λ p q. p ≢ q) pairs

-- an attribute has a type as a member in exactly one of two policies
abbrev pub IsChanged : Meaning → Meaning → List ℕ → List ℕ → Type 0
IsChanged old new attribute t = IsTrue (differ (is_member old attribute t) (is_member new attribute t))

-- a policy has a rule, as resolved, and the rule gives an access there
abbrev pub HasGiver : Meaning → Rule → Atom → Type 0
HasGiver meaning r a = (s : Rule) × Contains meaning.rules s × IsSameRule r s × IsTrue (gives meaning s a)

-- rules with accesses that they give in exactly one of two policies, each pair once
pub record AreDirtyGives (old new : Meaning) (pairs : List (Rule × Atom)) : Type 0 where
  pub each : All (λ p. OnlyOne (HasGiver old p.0 p.1) (HasGiver new p.0 p.1)) pairs
  pub once : AllPairs (λ p q. ¬ (IsSameRule p.0 q.0 × (p.1 ≡ q.1))) pairs
