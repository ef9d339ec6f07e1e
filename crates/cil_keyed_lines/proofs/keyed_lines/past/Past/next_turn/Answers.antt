use Rattle.cil_keyed_lines.proofs.Common.{sym, ◌∙◌}
use Rattle.cil_keyed_lines.proofs.PastLemmas.{unmarked-turns}
use Rattle.cil_keyed_lines.proofs.keyed_lines.past.Past.next_turn.Goals as goal

pub returns-then-not-has_turned : goal.returns-then-not-has_turned
returns-then-not-has_turned g c t on =
    let past = c.args.self.now in
    unmarked-turns past.has_turned.items past.turned.items c.args.line t c.requires.marked (sym c.has_turned.ensures ∙ c.if-not-has_turned.true)
