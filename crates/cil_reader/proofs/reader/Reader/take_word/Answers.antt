use Rattle.cil_reader.proofs.Common.{◌≡◌, ◌+◌, ◌∙◌, List, ℕ, length, drop, refl, ap, add-zero, length-drop, rules, arith, prefix_len, prefix_len-le-length, is_word_byte}
use Rattle.cil_reader.proofs.Reading.{placed-column}
use Rattle.cil_reader.proofs.Going.{goes-word}
use Rattle.cil_reader.proofs.reader.Reader.take_word.Goals as goal

pub overflow_cast-len : goal.overflow_cast-len
overflow_cast-len g c =
    let rest : List ℕ = c.rest-rest.result.now in
    omega (arith, prefix_len-le-length is_word_byte rest, c.word_len-len.ensures, ap length c.rest-rest.ensures, length-drop (c.args.self.now.at.offset + 0) c.args.self.now.text.now, c.requires.placed.small, c.requires.within)

pub to_right-self-requires-clause-offset : goal.to_right-self-requires-clause-offset
to_right-self-requires-clause-offset g c =
    let rest : List ℕ = c.rest-rest.result.now in
    omega (arith, prefix_len-le-length is_word_byte rest, c.word_len-len.ensures, ap length c.rest-rest.ensures, length-drop (c.args.self.now.at.offset + 0) c.args.self.now.text.now, c.requires.placed.small, c.requires.within)

pub to_right-self-requires-clause-column : goal.to_right-self-requires-clause-column
to_right-self-requires-clause-column g c =
    let rest : List ℕ = c.rest-rest.result.now in
    omega (arith, prefix_len-le-length is_word_byte rest, c.word_len-len.ensures, ap length c.rest-rest.ensures, length-drop (c.args.self.now.at.offset + 0) c.args.self.now.text.now, c.requires.placed.small, placed-column c.args.self.now c.requires.placed)

pub returns-clause-ok : goal.returns-clause-ok
returns-clause-ok g c =
    let here : c.rest-rest.result.now ≡ drop c.args.self.now.at.offset c.args.self.now.text.now = c.rest-rest.ensures ∙ ap (λ n. drop n c.args.self.now.text.now) (add-zero c.args.self.now.at.offset) in
    goes-word c.args.self.now (record { text = c.args.self.now.text; at = c.to_right-self.result; outer = c.args.self.now.outer; nodes = c.push.new.self }) c.word_len-len.result
    c.requires.placed c.requires.within c.requires.byte (c.word_len-len.ensures ∙ ap (prefix_len is_word_byte) here) (search rules) c.to_right-self.ensures refl c.in_ok-push.ensures.items refl
