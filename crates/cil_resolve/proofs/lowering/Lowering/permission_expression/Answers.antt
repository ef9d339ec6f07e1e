use Rattle.cil_resolve.proofs.Common.{◌∙◌, [], ap, subst, if◌then◌else◌, leaves, texts, nodes_in, expr_nodes, expr_in, AreNumbersIn}
use Rattle.cil_resolve.proofs.GivenLemmas.{permissions-listed, permissions-made, permissions-spelt}
use Rattle.cil_resolve.proofs.lowering.Lowering.permission_expression.Goals as goal

pub new-requires : goal.new-requires
new-requires g c =
    let (policy, s, k, the_class, permissions, is, rule) = c.requires in
    let names = c.args.self.now.numbering.now.names.items in
    let numbers = c.in_ok-names.names.items in
    let are : AreNumbersIn names (texts (leaves permissions)) numbers = subst (λ words. AreNumbersIn names (texts words) numbers) rule.is.words
    (c.in_ok-names.ensures policy s is (permissions-listed c.args.self.now c.args.seen.now policy s is k the_class permissions rule.is)) in
    let x = permissions-spelt names permissions numbers are in
    record {
      spelt = record {
        expr = x.expr;
        nodes_are =
            c.in_ok-nodes.ensures.items ∙ is.seen_is.shown.nodes ∙ ap nodes_in is.seen_is.form ∙ rule.is.nodes ∙ ap (λ b. if b then [] else expr_nodes permissions) rule.no_list
            ∙ x.nodes_are;
        names_are = x.names_are;
      };
    }

pub returns : goal.returns
returns g c policy s k the_class permissions is rule =
    let names = c.args.self.now.numbering.now.names.items in
    let numbers = c.in_ok-names.names.items in
    let are : AreNumbersIn names (texts (leaves permissions)) numbers = subst (λ words. AreNumbersIn names (texts words) numbers) rule.is.words
    (c.in_ok-names.ensures policy s is (permissions-listed c.args.self.now c.args.seen.now policy s is k the_class permissions rule.is)) in
    let x = permissions-spelt names permissions numbers are in
    permissions-made names permissions numbers are (expr_in c.new.result)
    (c.new.ensures x.expr
    (c.in_ok-nodes.ensures.items ∙ is.seen_is.shown.nodes ∙ ap nodes_in is.seen_is.form ∙ rule.is.nodes ∙ ap (λ b. if b then [] else expr_nodes permissions) rule.no_list
    ∙ x.nodes_are) x.names_are)
