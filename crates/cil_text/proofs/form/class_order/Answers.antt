use Rattle.cil_text.proofs.Common.{subst, codes, fits_parts, no_class_order, trees_of, AreClasses}
use Rattle.cil_text.proofs.form.class_order.Goals as goal

pub returns-in-None : goal.returns-in-None
returns-in-None g c place form inner h =
    let operands = trees_of c.args.operands in
    let p = fits_parts place (codes "classorder") operands form inner h in
    no_class_order operands inner form (subst (AreClasses operands) c.in-None.is c.in_ok-classes.ensures) p.0 p.1
