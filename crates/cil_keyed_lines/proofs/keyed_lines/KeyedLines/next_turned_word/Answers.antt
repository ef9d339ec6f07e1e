use Rattle.cil_keyed_lines.proofs.Common.{◌/◌, ◌∙◌}
use Rattle.cil_keyed_lines.proofs.PastLemmas.{below-present, below-turn, next-turned, other-line, present-from, same-line, turn-from}
use Rattle.cil_recorded.specs.Recorded.{count_now}
use Rattle.cil_keyed_lines.specs.Keyed.{Keyed}
use Rattle.cil_keyed_lines.proofs.keyed_lines.KeyedLines.next_turned_word.Goals as goal

pub returns-then-was-is : goal.returns-then-was-is
returns-then-was-is g c =
    let changes = c.args.past.now.turned.items in
    let was = c.line-was.result in
    let turn = c.next_turn-turn in
    next-turned c.args.self.now c.args.place c.args.from turn.result (turn-from changes was c.args.from turn.result turn.ensures)
    (λ t on below. same-line c.args.self.now changes c.args.place t c.requires.turns was (below-turn changes was c.args.from t turn.result turn.ensures on below) (c.if-was-is.true ∙ c.line_of-is.ensures)
    (c.line-was.ensures ∙ c.requires.named c.args.place))

pub returns : goal.returns
returns g c =
    let old = c.self.inside in
    let k : Keyed = record { keys = old.keys.keys; names = old.names; lines = old.lines } in
    let changes = c.args.past.now.turned.items in
    let was = c.line-was.result in
    let is = c.line_of-is.result in
    let from = c.args.from in
    let turn = c.next_turn-turn in
    let had = c.next_present_word-had in
    let has = c.next_present_word-has in
    let asked = rw (← c.self.view_is) at c.requires in
    let named = rw (← c.self.view_is) at c.line_of-is.ensures in
    let first = c.earlier.ensures in
    let second = c.earlier-2.ensures in
    rw (← c.self.view_is)
    (next-turned k c.args.place from c.earlier-2.result
    (second.from from (turn-from changes was from turn.result turn.ensures) (first.from from (present-from (count_now old.lines was) from had.result had.ensures) (present-from (count_now old.lines is) from has.result has.ensures)))
    (λ t on below.
    let (one, others) = second.below (t / 64) below in
    let (two, three) = first.below (t / 64) others in
    other-line k changes c.args.place t asked.turns was is (below-turn changes was from t turn.result turn.ensures on one) (below-present (count_now old.lines was) from t had.result had.ensures on two)
    (below-present (count_now old.lines is) from t has.result has.ensures on three) (c.line-was.ensures ∙ asked.named c.args.place) named))
