use Rattle.cil_text.proofs.Common.{◌∙◌, sym, subst, codes, IsClassAndPermissions, fits_parts, put_same, trees_of, word_of, AreClassAndPermissions}
use Rattle.cil_text.proofs.Fitting.{no_permission_set}
use Rattle.cil_text.proofs.form.class_permission_set.Goals as goal

pub returns-in-None : goal.returns-in-None
returns-in-None g c place form inner h =
    let operands = trees_of c.args.operands in
    let rest = trees_of c.in-Some.rest in
    let p = fits_parts place (codes "classpermissionset") operands form inner h in
    let other = subst (AreClassAndPermissions rest) c.in-None.is c.in_ok-class.ensures in
    no_permission_set operands inner form
    (λ set the_class last permissions is k.
    let same = put_same set (word_of c.in-Some.set) last rest (sym is ∙ c.in-Some.ensures) in
    other the_class permissions (subst (λ trees. IsClassAndPermissions trees the_class permissions) same.1 k)) p.0 p.1
