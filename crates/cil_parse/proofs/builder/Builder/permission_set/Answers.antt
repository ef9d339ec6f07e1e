use Rattle.cil_parse.proofs.Common.{[], ◌∷◌, leaves, expr_of, permission_nodes, word_of}
use Rattle.cil_parse.proofs.BuilderLemmas.{adds-then}
use Rattle.cil_parse.proofs.builder.Builder.permission_set.Goals as goal

pub returns : goal.returns
returns g c =
    let permissions = expr_of c.args.permissions.now in
    adds-then c.args.self.now c.word.new.self c.of_class.new.self (word_of c.args.set ∷ []) (word_of c.args.class ∷ leaves permissions) [] (permission_nodes permissions) c.in_ok-word.ensures c.in_ok-of_class.ensures
