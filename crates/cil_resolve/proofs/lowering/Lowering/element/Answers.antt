use Rattle.cil_resolve.proofs.Common.{None, get_or, ap, subst, types, references, seen-lead, unwrap_or, IsElement}
use Rattle.cil_specs.specs.Rule.{element_of}
use Rattle.cil_expression.specs.declared.expression.Element.TheVariants as elements
use Rattle.cil_resolve.proofs.LoweringLemmas.{element-led}
use Rattle.cil_resolve.proofs.StatementLemmas.{contained}
use Rattle.cil_resolve.proofs.lowering.Lowering.element.Goals as goal

pub returns : goal.returns
returns g c policy s word is refers names_it =
    let names = c.args.self.now.numbering.now.names.items in
    let made = c.args.self.now.elements.now in
    let found = get_or c.args.seen.now.bound c.args.k None in
    let lead = seen-lead c.args.seen.now policy s c.args.k types word is.seen_is refers in
    subst (λ e. IsElement names e (element_of policy s.namespace word))
    (ap (λ o. get_or made (unwrap_or o 0) (elements.«Type» 0)) c.place.ensures.led)
    (element-led policy is.lowering.faultless s is.there names made word found 0 is.lowering.elements (contained (references s.form) c.args.k (types, word) refers) names_it lead)
