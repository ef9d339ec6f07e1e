use Rattle.std.proofs.Common.{[], ◌∷◌, map}
use Rattle.cil_text.specs.Image.{word_of}
use Rattle.cil_parse.proofs.BuilderLemmas.{adds-then}
use Rattle.cil_parse.proofs.builder.Builder.listed.Goals as goal

pub returns : goal.returns
returns g c = adds-then c.args.self.now c.word.new.self c.words.new.self (word_of c.args.id ∷ []) (map word_of c.args.words.now) [] [] c.in_ok-word.ensures c.in_ok-words.ensures
