use Rattle.cil_parse.proofs.Common.{[], ◌∷◌, leaves, word_of, expr_of, expr_nodes}
use Rattle.cil_parse.proofs.BuilderLemmas.{adds-then}
use Rattle.cil_parse.proofs.builder.Builder.set.Goals as goal

pub returns : goal.returns
returns g c =
    let x = expr_of c.args.expr.now in
    adds-then c.args.self.now c.word.new.self c.expr.new.self (word_of c.args.attribute ∷ []) (leaves x) [] (expr_nodes x) c.in_ok-word.ensures c.in_ok-expr.ensures
