-- The members of attributes, and what the set statements of a policy name.
use Rattle.std.specs.Prelude.{ℕ, Bool, List, bytes_eq, Contains, IsTrue}
use Rattle.std.specs.List.{list_any}
use Rattle.cil_specs.specs.Expr.{leaves}
use Rattle.cil_specs.specs.Rule.{Element, a_type, an_attribute, SetStatement}
use Rattle.cil_specs.specs.Sets.{HasNoCircle}
use Rattle.cil_specs.specs.Meaning.{Meaning, keeps_type, holds}

-- whether a policy keeps an attribute of this full name
abbrev pub keeps_attribute : Meaning → List ℕ → Bool
keeps_attribute meaning attribute = list_any (λ d. bytes_eq attribute d.name) meaning.attributes

-- whether a type is a member of an attribute; an attribute without a set statement has none
unfoldable pub is_member : Meaning → List ℕ → List ℕ → Bool
is_member meaning attribute t = holds meaning (an_attribute attribute) t

-- whether a policy keeps what a name of an expression leads to
abbrev pub keeps_element : Meaning → Element → Bool
keeps_element meaning (a_type name) = keeps_type meaning name
keeps_element meaning (an_attribute name) = keeps_attribute meaning name

-- The set statements of a policy are of attributes that it keeps, and mention types and attributes that it keeps.
pub record HasOwnSets (meaning : Meaning) : Type 0 where
  pub attributes : (s : SetStatement) → Contains meaning.sets s → IsTrue (keeps_attribute meaning s.attribute)
  pub mentioned : (s : SetStatement) (element : Element) → Contains meaning.sets s → Contains (leaves s.expr) element → IsTrue (keeps_element meaning element)

-- and none of its attributes depends on itself
pub record HasSoundSets (meaning : Meaning) : Type 0 where
  pub own : HasOwnSets meaning
  pub straight : HasNoCircle meaning.sets
