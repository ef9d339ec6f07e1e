use Rattle.cil_keyed_lines.proofs.Common.{◌+◌, ◌*◌, ◌^◌, ◌<◌, ◌∙◌, ap, count_before, count_now, rules, sym}
use Rattle.cil_recorded.specs.Differences.{appeared_at, gone_at}
use Rattle.cil_keyed_lines.proofs.PastLemmas.{bits-before-steps, turned-same, unmarked-turns}
use Rattle.cil_keyed_lines.proofs.keyed_lines.past.Past.present.Goals as goal

pub returns-then-not-has_turned : goal.returns-then-not-has_turned
returns-then-not-has_turned g c b small =
    let past = c.args.self.now in
    let t = 64 * c.args.word + b in
    c.present-now.ensures b small
    ∙ turned-same past.turned.items c.args.lines.now c.args.line t c.requires.turns
    (unmarked-turns past.has_turned.items past.turned.items c.args.line t c.requires.marked (sym c.has_turned.ensures ∙ c.if-not-has_turned.true))

pub returns : goal.returns
returns g c b small =
    let t = 64 * c.args.word + b in
    let change = c.change_of-change.result in
    let turns = c.requires.turns in
    let told = c.change_of-change.ensures b small in
    let fits : change.appeared < 2 ^ 64 = search rules in
    let same = c.deref.ensures.value in
    bits-before-steps c.present-now.result change.appeared change.gone b (count_now c.args.lines.now c.args.line t) (count_before c.args.lines.now c.args.line t) small fits (c.present-now.ensures b small)
    (told.0 ∙ ap (λ cs. appeared_at cs c.args.line t) same ∙ turns.appeared c.args.line t) (told.1 ∙ ap (λ cs. gone_at cs c.args.line t) same ∙ turns.gone c.args.line t)
