use Rattle.cil_keyed_lines.proofs.Common.{◌<◌, ◌∙◌, ap, arith, length, subst, sym}
use Rattle.std.proofs.lemmas.List.{get_or_default}
use Rattle.cil_recorded.specs.declared.recorded_lines.changes.Change.{Change}
use Rattle.cil_keyed_lines.specs.Past.{IsOwnTurn}
use Rattle.cil_keyed_lines.proofs.OwnLemmas.{none-own, own-turn}
use Rattle.cil_keyed_lines.proofs.keyed_lines.KeyedLines.own_turn.Goals as goal
use Rattle.cil_keyed_lines.proofs.keyed_lines.KeyedLines.own_turn.Goals.{else-at-len-via-then-at-len+else-index-line, else-at-len-via-else-at-len}

pub returns-then-index-line : goal.returns-then-index-line
returns-then-index-line g c from fits own =
    let k = c.args.self.now in
    let past = c.args.past.now in
    let place = c.args.place in
    let at = c.args.at in
    let d = c.index-then-index-line.result.now in
    let len = c.len.ensures in
    let inside = c.if-at-len.true in
    let short = c.len.type_inv in
    let within : at < length past.turned.items = omega (arith, len, inside) in
    let is = sym c.index-then-index-line.ensures in
    let tested = sym (get_or_default past.turned.items at c.index.result.now d within) ∙ sym c.index.ensures in
    let of_line = ap (λ (x : Change). x.line) tested ∙ c.if-index-line.true ∙ c.line_of-line.ensures in
    subst (IsOwnTurn k past place from at) is (own-turn k past place from at fits c.requires own d within of_line (omega (arith, short, inside)))

pub returns-else-at-len : goal.returns-else-at-len
returns-else-at-len g c from fits own =
    let past = c.args.past.now in
    let xs = past.turned.items in
    let at = c.args.at in
    let len = c.len.ensures in
    none-own c.args.self.now past c.args.place from at fits c.requires own (λ d within same. elim c.else-at-len.branch [
      | else-at-len-via-then-at-len+else-index-line w ↦
          let read = sym (get_or_default xs at w.index.result.now d within) ∙ sym w.index.ensures in
          w.if-index-line.false (sym (ap (λ (x : Change). x.line) read) ∙ same ∙ sym c.line_of-line.ensures)
      | else-at-len-via-else-at-len w ↦ let past_end = w.if-at-len.false in absurd (omega (arith, past_end, len, within))
    ])
