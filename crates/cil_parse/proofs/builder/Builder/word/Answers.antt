use Rattle.cil_parse.proofs.Common.{refl, word_of, Builder}
use Rattle.cil_parse.proofs.BuilderLemmas.{adds-word}
use Rattle.cil_parse.proofs.builder.Builder.word.Goals as goal

pub returns : goal.returns
returns g c =
    let old = c.args.self.now in
    let new : Builder g.row.A.Denot = record { lexicon = c.text.new.self; words = c.push.new.self; nodes = old.nodes; rows = old.rows } in
    let found = c.in_ok-text.ensures in
    adds-word old new c.args.word.text.now (record { at = c.args.word.at; text = c.in_ok-text.text }) (word_of c.args.word) found.number refl found.texts found.lexicon c.in_ok-push.ensures.ok refl refl
