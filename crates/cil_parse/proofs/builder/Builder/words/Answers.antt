use Rattle.cil_parse.proofs.Common.{[], ◌∷◌, map, get_or, take, subst, take_all, word_of, Adds}
use Rattle.cil_reader.specs.declared.word.Word.{Word}
use Rattle.cil_parse.proofs.BuilderLemmas.{adds-none, adds-then, next-word}
use Rattle.cil_parse.proofs.builder.Builder.words.Goals as goal

pub loop-word-init : goal.loop-word-init
loop-word-init g c = adds-none c.args.self.now

-- what is read behind the end of a list of words
nowhere : Word
nowhere = record { at = record { offset = 0; line = 0; column = 0 }; text = record { ref_ptr = (0, 0); now = [] } }

pub loop-word-preserved : goal.loop-word-preserved
unfolding nowhere
loop-word-preserved g c =
    let words = c.args.words.now in
    let i = c.loop-word.word-index in
    subst (λ w. Adds c.args.self.now c.word.new.self w []) (next-word words i nowhere c.loop-word-test.true)
    (adds-then c.args.self.now c.loop-word.self c.word.new.self (map word_of (take i words)) (word_of (get_or words i nowhere) ∷ []) [] [] c.loop-word.invariant c.in_ok-word.ensures)

pub returns : goal.returns
returns g c = subst (λ l. Adds c.args.self.now c.loop-word.self (map word_of l) []) (take_all c.loop-word.word-index c.args.words.now c.loop-word-test.false) c.loop-word.invariant
