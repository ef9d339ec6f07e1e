use Rattle.cil_resolve.proofs.Common.{◌==◌, ◌∙◌, Some, classes, ap, sym, subst, filter, unwrap_or, expr_in}
use Rattle.cil_specs.specs.Expr.{holds_by}
use Rattle.cil_resolve.proofs.GivenLemmas.{IsClassAt, class-at, written-given}
use Rattle.cil_resolve.proofs.lowering.Lowering.written_permissions.Goals as goal

pub number-class-requires : goal.number-class-requires
number-class-requires g c =
    let (policy, s, the_class, permissions, is, writes) = c.requires in
    record { policy = policy; s = s; table = classes; word = the_class; is = is; at = writes.is.refers }

pub returns : goal.returns
returns g c policy s the_class permissions is writes =
    let l = c.args.self.now in
    let seen = c.args.seen.now in
    let k = c.args.k in
    let e = expr_in c.in_ok-expression.expression in
    let place = c.unwrap_or-place.result in
    let here = subst (IsClassAt policy s the_class) (sym (c.unwrap_or-place.ensures ∙ ap (λ o. unwrap_or o 0) c.lead.ensures)) (class-at l seen policy s is k the_class permissions writes.is) in
    written-given l seen policy s is k the_class permissions writes.is writes.no_list e (c.in_ok-expression.ensures policy s k the_class permissions is writes) place here
    c.in_ok-of_class.of_class.items (c.in_ok-of_class.ensures policy here.t is.lowering here.at here.is) c.in_ok-permissions.permissions
    (c.number-class.ensures.class policy s the_class is writes.is.refers ∙ ap Some (sym c.in_ok-permissions.ensures.class))
    (c.in_ok-permissions.ensures.given ∙ ap (filter (λ n. holds_by (λ q. n == q) e)) c.deref.ensures.value) c.in_ok-permissions.ensures.written c.in_ok-permissions.ensures.no_list
