use Rattle.cil_resolve.proofs.Common.{◌∙◌, sym, subst, types, element_at, IsElement}
use Rattle.cil_expression.specs.declared.expression.Element.TheVariants as elements
use Rattle.cil_resolve.proofs.ElementLemmas.{first-declares, element-type, element-attribute, element-alias, actual-here, set-given, alias-kind}
use Rattle.cil_resolve.proofs.elements.element_at.Goals as goal

pub returns-in-TypeAttribute : goal.returns-in-TypeAttribute
returns-in-TypeAttribute g c names policy s noted faultless have at first set =
    let kind = sym (c.kind.ensures policy s noted.is at) ∙ c.in-TypeAttribute.is in
    subst (λ n. IsElement names (elements.Attribute n) (element_at policy s s.form)) (sym c.number_at.ensures)
    (element-attribute names policy c.args.places.now have c.args.i s at (first-declares types policy c.args.i s at first) kind)

pub returns-in-TypeAlias : goal.returns-in-TypeAlias
returns-in-TypeAlias g c names policy s noted faultless have at first set =
    let kind = sym (c.kind.ensures policy s noted.is at) ∙ c.in-TypeAlias.is in
    let declared = first-declares types policy c.args.i s at first in
    let some = set-given policy s set (alias-kind s.form kind declared) in
    let a = actual-here policy faultless c.args.checker.now.actuals c.args.i s noted.has_actuals first at some in
    subst (λ n. IsElement names (elements.«Type» n) (element_at policy s s.form)) (sym c.number_at-in-TypeAlias.ensures)
    (element-alias names policy c.args.places.now have s c.actual_of.result declared kind (c.actual_of.ensures policy s noted faultless at first some) a.type c.unwrap_or-place.result (sym c.unwrap_or-place.ensures))

pub returns-in_default : goal.returns-in_default
returns-in_default g c names policy s noted faultless have at first set =
    let kind = c.kind.ensures policy s noted.is at in
    subst (λ n. IsElement names (elements.«Type» n) (element_at policy s s.form)) (sym c.number_at-in_default.ensures)
    (element-type names policy c.args.places.now have c.args.i s at (first-declares types policy c.args.i s at first) (λ e. c.in_default.not-TypeAttribute (kind ∙ e)) (λ e. c.in_default.not-TypeAlias (kind ∙ e)))
