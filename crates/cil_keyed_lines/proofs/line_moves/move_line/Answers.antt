use Rattle.std.proofs.Common.{◌∙◌, ◌<◌, arith, length}
use Rattle.cil_keyed_lines.proofs.MoveLemmas.{can_lower, now_more, room_more}
use Rattle.cil_keyed_lines.proofs.line_moves.move_line.Goals as goal

pub lower-requires-clause-above : goal.lower-requires-clause-above
lower-requires-clause-above g c =
    let i = c.loop-step.step-index in
    let within : i < length c.args.moved.now = omega arith in
    can_lower c.args.moved.now i within c.args.line c.args.lines.now c.loop-step.lines c.loop-step.invariant.now c.requires.above

pub loop-step-preserved : goal.loop-step-preserved
loop-step-preserved g c =
    let i = c.loop-step.step-index in
    let is = c.loop-step.invariant in
    let low = c.lower.ensures in
    let high = c.raise.ensures in
    let within : i < length c.args.moved.now = omega arith in
    record {
      room = room_more c.args.moved.now i within c.args.line c.loop-step.lines c.lower.new.lines c.raise.new.lines c.requires.moved is.room low.now high.now low.limits high.limits;
      spare = omega (arith, is.spare, low.spare, high.spare);
      len = high.lines ∙ low.lines ∙ is.len;
      now = now_more c.args.moved.now i within c.args.line c.args.lines.now c.loop-step.lines c.lower.new.lines c.raise.new.lines is.now low.now high.now;
      before = λ l t. high.before l t ∙ low.before l t ∙ is.before l t;
    }
