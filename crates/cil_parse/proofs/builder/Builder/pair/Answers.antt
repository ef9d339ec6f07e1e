use Rattle.std.proofs.Common.{[], ◌∷◌}
use Rattle.cil_text.specs.Image.{word_of}
use Rattle.cil_parse.proofs.BuilderLemmas.{adds-then}
use Rattle.cil_parse.proofs.builder.Builder.pair.Goals as goal

pub returns : goal.returns
returns g c = adds-then c.args.self.now c.word.new.self c.word-2.new.self (word_of c.args.first ∷ []) (word_of c.args.second ∷ []) [] [] c.in_ok-word.ensures c.in_ok-word-2.ensures
