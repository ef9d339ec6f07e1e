use Rattle.cil_violations.proofs.Common.{◌≡◌, ◌∙◌, ap, map, sym, subst, AreInOrder, given_at, name_in, of_class, shared}
use Rattle.cil_violations.proofs.PartLemmas.{class-rises}
use Rattle.cil_violations.proofs.violation.Violation.of.Goals as goal

pub invariant_of-result : goal.invariant_of-result
invariant_of-result g c =
    let r = c.args.resolved.now in
    let lists = c.args.permissions.now.0 in
    let row = c.args.row in
    subst AreInOrder
    (sym (c.of_class-2.ensures ∙ ap (of_class row.class) (c.given_at-2.ensures ∙ ap (λ l. given_at l lists row.allowed) c.rules-rules.ensures.rules)))
    (class-rises row.class (given_at r.rules.items lists row.allowed) (c.requires.permissions.rising row.allowed))

pub returns : goal.returns
returns g c =
    let r = c.args.resolved.now in
    let lists = c.args.permissions.now.0 in
    let row = c.args.row in
    let never_is : c.of_class.result.now ≡ of_class row.class (given_at r.rules.items lists row.never) =
    c.of_class.ensures ∙ ap (of_class row.class) (c.given_at.ensures ∙ ap (λ l. given_at l lists row.never) c.rules-rules.ensures.rules) in
    let allowed_is : c.of_class-2.result.now ≡ of_class row.class (given_at r.rules.items lists row.allowed) =
    c.of_class-2.ensures ∙ ap (of_class row.class) (c.given_at-2.ensures ∙ ap (λ l. given_at l lists row.allowed) c.rules-rules.ensures.rules) in
    λ i. record {
      never = c.rule_at.ensures i;
      allowed = c.rule_at-2.ensures i;
      source = c.name.ensures i;
      target = c.name-2.ensures i;
      the_class = c.name-3.ensures i;
      permissions = map (λ x. name_in r x.permission) (shared (never_is i) (allowed_is i));
    }
