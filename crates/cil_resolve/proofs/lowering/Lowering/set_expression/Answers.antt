use Rattle.cil_resolve.proofs.Common.{◌∙◌, ap, nodes_in}
use Rattle.cil_resolve.proofs.SetLemmas.{expression-spelt, expression-made}
use Rattle.cil_resolve.proofs.lowering.Lowering.set_expression.Goals as goal

pub of-requires : goal.of-requires
of-requires g c =
    let (policy, s, is, (attribute, expr, form)) = c.requires in
    let names = c.args.self.now.numbering.now.names.items in
    let x = expression-spelt names policy s expr c.in_ok-names.names.items (c.in_ok-names.ensures policy s attribute expr is form) in
    record {
      spelt = record {
        expr = x.expr;
        nodes_are = is.seen_is.shown.nodes ∙ ap nodes_in (is.seen_is.form ∙ form) ∙ x.nodes_are;
        names_are = x.names_are;
      };
    }

pub returns : goal.returns
returns g c policy s attribute expr is form =
    let names = c.args.self.now.numbering.now.names.items in
    let are = c.in_ok-names.ensures policy s attribute expr is form in
    let x = expression-spelt names policy s expr c.in_ok-names.names.items are in
    expression-made names policy s expr c.in_ok-names.names.items c.in_ok-expression.expression are
    (c.in_ok-expression.ensures x.expr (is.seen_is.shown.nodes ∙ ap nodes_in (is.seen_is.form ∙ form) ∙ x.nodes_are) x.names_are)
