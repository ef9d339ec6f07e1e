-- The types that rules take in as targets.
use Rattle.std.specs.Prelude.{ℕ}
use Rattle.cil_expression.specs.declared.expression.Element.{Element}
use Rattle.cil_expression.specs.declared.expression.Element.TheVariants as elements
use Rattle.cil_resolve.specs.declared.numbered.ResolvedTarget.{ResolvedTarget}
use Rattle.cil_resolve.specs.declared.numbered.ResolvedTarget.TheVariants as targets

-- the element that a target takes in for a source: the source itself, or the target's own
abbrev pub aim_of : ResolvedTarget → ℕ → Element
aim_of targets.Itself source = elements.«Type» source
aim_of (targets.Element element) source = element
