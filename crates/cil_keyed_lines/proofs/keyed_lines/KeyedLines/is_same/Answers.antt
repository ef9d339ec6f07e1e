use Rattle.cil_keyed_lines.proofs.Common.{sym, ◌∙◌}
use Rattle.cil_keyed_lines.proofs.PastLemmas.{not-holds, same-line, unmarked-turns}
use Rattle.cil_keyed_lines.proofs.keyed_lines.KeyedLines.is_same.Goals as goal

pub returns-then-line : goal.returns-then-line
returns-then-line g c same t on =
    let past = c.args.past.now in
    let unmarked = sym c.has_turned.ensures ∙ not-holds c.has_turned.result same in
    same-line c.args.self.now past.turned.items c.args.place t c.requires.turns c.line_of-line.result
    (unmarked-turns past.has_turned.items past.turned.items c.line_of-line.result t c.requires.marked unmarked) c.line_of-line.ensures
    (c.if-line.true ∙ c.line.ensures ∙ c.requires.named c.args.place)
