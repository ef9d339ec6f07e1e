use Rattle.cil_rule_shifts.proofs.Common.{◌∙◌, arith, is_present, subst, sym, takes}
use Rattle.std.specs.Prelude.{IfOk}
use Rattle.cil_rule_shifts.specs.Groups.{AreMovesOf}
use Rattle.cil_rule_shifts.proofs.MoveLemmas.{moves-done, moves-new, moves-next, short-words}
use Rattle.cil_rule_shifts.proofs.moved.moved_of.Goals as goal

-- of two lines
pub lines_moved-requires-clause-was : goal.lines_moved-requires-clause-was
lines_moved-requires-clause-was g c n past = sym (c.in-Some.ensures c.args.source n).0 ∙ c.requires.was c.args.source n c.ranges.source.fits past

pub lines_moved-requires-clause-is : goal.lines_moved-requires-clause-is
lines_moved-requires-clause-is g c n past = sym (c.in-Some.ensures c.args.source n).1 ∙ c.requires.is c.args.source n c.ranges.source.fits past

pub returns-in-Some : goal.returns-in-Some
returns-in-Some g c =
    let lines = c.in-Some in
    subst (λ f. IfOk c.lines_moved.result (λ moved. AreMovesOf f (takes c.args.is.now c.args.source) moved.items)) (λ i t. sym (lines.ensures c.args.source t).0 i)
    (subst (λ f. IfOk c.lines_moved.result (λ moved. AreMovesOf (is_present lines.had.now) f moved.items)) (λ i t. sym (lines.ensures c.args.source t).1 i) c.lines_moved.ensures)

-- word by word
pub loop-word-init : goal.loop-word-init
loop-word-init g c = rw c.new-moved.ensures.items (moves-new (takes c.args.was.now c.args.source) (takes c.args.is.now c.args.source))

pub loop-word-preserved : goal.loop-word-preserved
loop-word-preserved g c =
    let was = takes c.args.was.now c.args.source in
    let is = takes c.args.is.now c.args.source in
    let behind = c.word_behind-word.ensures in
    moves-next was is c.loop-word.word c.word_behind-word.result _ (c.in_ok-push_moved.ensures was is c.word-before.ensures c.word-now.ensures c.loop-word.invariant) behind.behind behind.between

pub returns : goal.returns
returns g c =
    let was = c.args.was.now in
    let is = c.args.is.now in
    moves-done (takes was c.args.source) (takes is c.args.source) c.loop-word.word c.loop-word.moved.items c.loop-word.invariant
    (λ t past. short-words was is c.args.source c.requires.was c.requires.is c.ranges.source.fits t (let end = c.loop-word-test.false in omega (arith, past, end)))
