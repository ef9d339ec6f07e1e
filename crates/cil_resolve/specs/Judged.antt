-- A policy without the optionals that drop.
use Rattle.std.specs.Prelude.{◌≡◌, List, map}
use Rattle.cil_specs.specs.Joined.{Module, Placed, joined}
use Rattle.cil_specs.specs.Kept.{Optionals, AreKept, AreApart, restricted, dropped_of}
use Rattle.cil_bind.specs.Nested.{AreNested}
use Rattle.cil_bind.specs.Policy.{IsBoundTo}
use Rattle.cil_bind.specs.Ordered.{AreOrdered}
use Rattle.cil_bind.specs.Rows.{IsOnce}
use Rattle.cil_bind.specs.Written.{HaveOneNames}
use Rattle.cil_check.specs.Bound.{AreFoundInside}
use Rattle.cil_bind.specs.declared.joined.NamedModule.{NamedModule}
use Rattle.cil_bind.specs.declared.policy.Policy.{Policy}
use Rattle.cil_resolve.specs.Modules.{AreParsedFrom, names_of}
use Rattle.cil_resolve.specs.Numbers.{dropped_with}
use Rattle.cil_resolve.specs.declared.judged.Judged.{Judged}

-- Of a policy that declares no name twice, the statements in kept optionals alone, or in none, are bound, and the others drop.
pub record IsJudged {A : Type 0} (policy : List Placed) (parsed : List (NamedModule A)) (judged : Judged A) : Type 0 where
  pub kept : Optionals
  pub are_kept : AreKept policy kept
  pub apart : AreApart policy
  pub once : IsOnce policy
  pub bound : IsBoundTo judged.policy parsed (restricted kept policy)
  pub dropped_are : map (dropped_with (names_of parsed)) judged.dropped.items ≡ dropped_of kept policy

-- so it is of the joined policy of the modules
abbrev pub AreJudged : {A : Type 0} → List (NamedModule A) → Judged A → Type 0
AreJudged parsed judged = (modules : List Module) → AreParsedFrom parsed modules → IsJudged (joined modules) parsed judged

-- The whole policy is bound, its rows tell the optionals around them, and blocks, classes and commons stand in no optional.
pub record IsWhole {A : Type 0} (p : Policy A) (parsed : List (NamedModule A)) (policy : List Placed) : Type 0 where
  pub bound : IsBoundTo p parsed policy
  pub nested : AreNested p.rows.items policy
  pub apart : AreApart policy

-- The policy is bound and stands in order, what stands in optionals has its names found, and names have no dots.
pub record IsInOrder {A : Type 0} (p : Policy A) (parsed : List (NamedModule A)) (policy : List Placed) : Type 0 where
  pub bound : IsBoundTo p parsed policy
  pub ordered : AreOrdered policy
  pub inside : AreFoundInside policy
  pub spelt : HaveOneNames policy
