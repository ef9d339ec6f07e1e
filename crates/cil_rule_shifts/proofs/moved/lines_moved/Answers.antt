use Rattle.cil_rule_shifts.proofs.Common.{◌∙◌, ◌||◌, ap, arith, is_present}
use Rattle.cil_rule_shifts.proofs.MoveLemmas.{moves-done, moves-new, moves-next}
use Rattle.cil_rule_shifts.proofs.ReachLemmas.{present-hits}
use Rattle.cil_rule_shifts.proofs.moved.lines_moved.Goals as goal

pub loop-word-init : goal.loop-word-init
loop-word-init g c = rw c.new-moved.ensures.items (moves-new (is_present c.args.was.now) (is_present c.args.is.now))

pub loop-word-preserved : goal.loop-word-preserved
loop-word-preserved g c =
    let was = c.args.was.now in
    let is = c.args.is.now in
    let word = c.loop-word.word in
    let behind = c.line_word_behind-word.ensures in
    moves-next (is_present was) (is_present is) word c.line_word_behind-word.result _
    (c.in_ok-push_moved.ensures (is_present was) (is_present is) (present-hits was word c.present-before.result c.present-before.ensures) (present-hits is word c.present-now.result c.present-now.ensures) c.loop-word.invariant)
    behind.behind behind.between

pub returns : goal.returns
returns g c =
    let was = c.args.was.now in
    let is = c.args.is.now in
    moves-done (is_present was) (is_present is) c.loop-word.word c.loop-word.moved.items c.loop-word.invariant
    (λ t past. ap (λ b. b || is_present is t) (c.requires.was t (let end = c.loop-word-test.false in omega (arith, past, end))) ∙ c.requires.is t (let end = c.loop-word-test.false in omega (arith, past, end)))
