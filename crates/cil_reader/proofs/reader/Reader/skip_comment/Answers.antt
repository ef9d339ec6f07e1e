use Rattle.cil_reader.proofs.Common.{◌+◌, ◌∙◌, List, ℕ, length, refl, ap, length-drop, arith, prefix_len, prefix_len-le-length, is_comment_byte}
use Rattle.cil_reader.proofs.Reading.{placed-column}
use Rattle.cil_reader.proofs.Going.{goes-comment}
use Rattle.cil_reader.proofs.reader.Reader.skip_comment.Goals as goal

pub overflow_add-len : goal.overflow_add-len
overflow_add-len g c =
    let rest : List ℕ = c.rest.result.now in
    omega (arith, prefix_len-le-length is_comment_byte rest, c.comment_len-len.ensures, ap length c.rest.ensures, length-drop (c.args.self.now.at.offset + 1) c.args.self.now.text.now, c.requires.placed.small)

pub to_right-self-requires-clause-offset : goal.to_right-self-requires-clause-offset
to_right-self-requires-clause-offset g c =
    let rest : List ℕ = c.rest.result.now in
    omega (arith, prefix_len-le-length is_comment_byte rest, c.comment_len-len.ensures, ap length c.rest.ensures, length-drop (c.args.self.now.at.offset + 1) c.args.self.now.text.now, c.requires.placed.small)

pub to_right-self-requires-clause-column : goal.to_right-self-requires-clause-column
to_right-self-requires-clause-column g c =
    let rest : List ℕ = c.rest.result.now in
    omega (arith, prefix_len-le-length is_comment_byte rest, c.comment_len-len.ensures, ap length c.rest.ensures, length-drop (c.args.self.now.at.offset + 1) c.args.self.now.text.now, c.requires.placed.small, placed-column c.args.self.now c.requires.placed)

pub returns : goal.returns
returns g c =
    goes-comment c.args.self.now (record { text = c.args.self.now.text; at = c.to_right-self.result; outer = c.args.self.now.outer; nodes = c.args.self.now.nodes }) c.comment_len-len.result
    c.requires.placed c.requires.within c.requires.byte (c.comment_len-len.ensures ∙ ap (prefix_len is_comment_byte) c.rest.ensures) c.to_right-self.ensures refl refl refl
