use Rattle.std.proofs.Common.{rules}
use Rattle.cil_expression.proofs.Common.{◌≡◌, length, sym, ap, ◌∙◌, not}
use Rattle.cil_specs.specs.Expr.{listed}
use Rattle.cil_parse.specs.Forms.{is_plain}
use Rattle.cil_expression.specs.Expression.{expr_in}
use Rattle.cil_expression.specs.Listed.{list_nodes}
use Rattle.cil_expression.proofs.ListedLemmas.{leaves-listed, no-list, nodes-listed}
use Rattle.cil_expression.proofs.SpellingLemmas.{expr-is}
use Rattle.cil_expression.proofs.set_expression.SetExpression.of.Goals as goal

pub returns-then-are_of_list : goal.returns-then-are_of_list
returns-then-are_of_list g c expr nodes leaves =
    let spelling = c.args.nodes.now in
    let names = c.args.names.items in
    let long : c.len.result ≡ length names = search rules in
    let is = c.are_of_list.ensures.0 c.if-are_of_list.true ∙ ap list_nodes long ∙ sym (nodes-listed names) in
    sym (expr-is spelling names (listed names) is (sym (leaves-listed names))) ∙ expr-is spelling names expr nodes leaves

pub invariant_of-result-2 : goal.invariant_of-result-2
invariant_of-result-2 g c =
    let spelling = c.args.nodes.now in
    let names = c.args.names.items in
    let e = c.requires.spelt.expr in
    let long : length names ≡ c.len.result = search rules in
    let copied = c.in_ok-nodes.ensures.items in
    let other = no-list spelling names c.are_of_list.result e c.requires.spelt.nodes_are c.requires.spelt.names_are
    (λ is. c.are_of_list.ensures.1 (is ∙ ap list_nodes long)) c.if-are_of_list.false in
    let made = ap expr_in c.in_ok-boxed.ensures.ok ∙ c.new-tree.ensures e (copied ∙ c.requires.spelt.nodes_are) c.requires.spelt.names_are in
    record { no_list = ap (λ x. not (is_plain x)) made ∙ ap not other }
