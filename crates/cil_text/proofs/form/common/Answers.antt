use Rattle.cil_text.proofs.Common.{subst, codes, fits_parts, no_common, trees_of, AreWordAndList}
use Rattle.cil_text.proofs.form.common.Goals as goal

pub returns-in-None : goal.returns-in-None
returns-in-None g c place form inner h =
    let operands = trees_of c.args.operands in
    let p = fits_parts place (codes "common") operands form inner h in
    let other = subst (AreWordAndList operands) c.in-None.is c.in_ok-id.ensures in
    no_common operands inner form (λ id permissions k. other id k.0 permissions k.1 k.2) p.0 p.1
