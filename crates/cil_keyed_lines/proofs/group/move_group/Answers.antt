use Rattle.cil_keyed_lines.proofs.Common.{false, true, ◌≡◌, ◌∙◌, rules}
use Rattle.cil_keyed_lines.proofs.GroupLemmas.{counted_cleared, counted_moved, lines_cleared, lines_moved, now_cleared, now_moved}
use Rattle.cil_keyed_lines.proofs.group.move_group.Goals as goal

pub returns-then-not-is_clear-clause-lined : goal.returns-then-not-is_clear-clause-lined
returns-then-not-is_clear-clause-lined g c =
    let to = c.in_ok-line.ensures in
    let step = c.move_line.ensures in
    lines_moved c.args.group.now c.args.moved.now c.args.names.now c.reach.new.names c.args.lines.now c.reach.new.lines c.move_line.new.lines c.in_ok-line.line c.requires.named c.requires.line
    c.requires.lined to.lined to.own to.others to.copy to.now step.now to.line.0 step.lines step.before

pub returns-then-not-is_clear-clause-counted : goal.returns-then-not-is_clear-clause-counted
returns-then-not-is_clear-clause-counted g c =
    let to = c.in_ok-line.ensures in
    let step = c.move_line.ensures in
    let some : c.is_clear.result ≡ false = search rules in
    counted_moved c.args.group.now c.args.moved.now c.args.names.now c.reach.new.names c.args.lines.now c.reach.new.lines c.move_line.new.lines c.in_ok-line.line c.requires.named c.requires.line
    c.requires.lined to.lined to.own to.others to.copy to.now step.now c.requires.counted (c.is_clear.ensures.present some)

pub returns-then-not-is_clear-clause-now : goal.returns-then-not-is_clear-clause-now
returns-then-not-is_clear-clause-now g c =
    let to = c.in_ok-line.ensures in
    let step = c.move_line.ensures in
    now_moved c.args.group.now c.args.moved.now c.args.names.now c.reach.new.names c.args.lines.now c.reach.new.lines c.move_line.new.lines c.in_ok-line.line c.requires.named c.requires.line
    c.requires.lined to.lined to.own to.others to.copy to.now step.now

pub returns-clause-lined : goal.returns-clause-lined
returns-clause-lined g c =
    let to = c.in_ok-line.ensures in
    let step = c.move_line.ensures in
    let clear : c.is_clear.result ≡ true = search rules in
    lines_cleared c.args.group.now c.args.moved.now c.args.names.now c.reach.new.names c.args.lines.now c.reach.new.lines c.move_line.new.lines c.in_ok-line.line c.requires.named c.requires.line
    c.requires.lined to.lined to.own to.others to.copy to.now step.now to.line.0 step.lines step.before c.rename_all.new.names c.rename_all.ensures.now (c.is_clear.ensures.clear clear)
    c.rename_all.ensures.lines c.rename_all.ensures.before

pub returns-clause-counted : goal.returns-clause-counted
returns-clause-counted g c =
    let to = c.in_ok-line.ensures in
    let step = c.move_line.ensures in
    let clear : c.is_clear.result ≡ true = search rules in
    counted_cleared c.args.group.now c.args.moved.now c.args.names.now c.reach.new.names c.args.lines.now c.reach.new.lines c.move_line.new.lines c.in_ok-line.line c.requires.named c.requires.line
    c.requires.lined to.lined to.own to.others to.copy to.now step.now to.line.0 step.lines step.before c.rename_all.new.names c.rename_all.ensures.now (c.is_clear.ensures.clear clear)
    c.requires.counted

pub returns-clause-now : goal.returns-clause-now
returns-clause-now g c =
    let to = c.in_ok-line.ensures in
    let step = c.move_line.ensures in
    let clear : c.is_clear.result ≡ true = search rules in
    now_cleared c.args.group.now c.args.moved.now c.args.names.now c.reach.new.names c.args.lines.now c.reach.new.lines c.move_line.new.lines c.in_ok-line.line c.requires.named c.requires.line
    c.requires.lined to.lined to.own to.others to.copy to.now step.now to.line.0 step.lines step.before c.rename_all.new.names c.rename_all.ensures.now (c.is_clear.ensures.clear clear)

pub returns-then-not-is_clear-clause-before : goal.returns-then-not-is_clear-clause-before
returns-then-not-is_clear-clause-before g c = λ l t low. c.move_line.ensures.before l t ∙ c.in_ok-line.ensures.before l t low

pub returns-clause-before : goal.returns-clause-before
returns-clause-before g c = λ l t low. c.move_line.ensures.before l t ∙ c.in_ok-line.ensures.before l t low

pub returns-clause-names_before : goal.returns-clause-names_before
returns-clause-names_before g c = λ p. c.rename_all.ensures.before p ∙ c.in_ok-line.ensures.names_before p
