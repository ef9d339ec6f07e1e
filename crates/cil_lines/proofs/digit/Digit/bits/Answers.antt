use Rattle.cil_lines.proofs.Common.{◌<◌, ◌∙◌, length, rules, sym, get_or_default}
use Rattle.cil_lines.proofs.DigitLemmas.{dense_is}
use Rattle.cil_lines.proofs.digit.Digit.bits.Goals as goal

pub returns-then-word-len : goal.returns-then-word-len
returns-then-word-len g c =
    let l = c.self.inside.dense.items in
    let within : c.args.word < length l = search rules in
    rw (← c.self.view_is) (c.index.ensures ∙ get_or_default l c.args.word _ 0 within ∙ sym (dense_is l c.self.inside.sparse.items c.args.word within))
