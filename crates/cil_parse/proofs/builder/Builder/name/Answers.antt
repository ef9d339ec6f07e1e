use Rattle.std.proofs.Common.{[], ◌∷◌}
use Rattle.cil_text.specs.Image.{word_of}
use Rattle.cil_parse.specs.declared.row.SetNode.TheVariants.{Name}
use Rattle.cil_parse.proofs.BuilderLemmas.{adds-then}
use Rattle.cil_parse.proofs.builder.Builder.name.Goals as goal

pub returns : goal.returns
returns g c = adds-then c.args.self.now c.node.new.self c.word.new.self [] (word_of c.args.word ∷ []) (Name ∷ []) [] c.in_ok-node.ensures c.in_ok-word.ensures
