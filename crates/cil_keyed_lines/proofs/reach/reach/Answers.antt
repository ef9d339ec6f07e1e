use Rattle.cil_keyed_lines.proofs.Common.{◌≡◌, ◌<◌, ◌∙◌, arith}
use Rattle.cil_keyed_lines.proofs.reach.reach.Goals as goal

pub returns-in_err-make_room-clause-now : goal.returns-in_err-make_room-clause-now
returns-in_err-make_room-clause-now g c = λ l t low. c.make_room.ensures.now l t ∙ c.in_ok-line.ensures.now l t low

pub returns-in_err-make_room-clause-before : goal.returns-in_err-make_room-clause-before
returns-in_err-make_room-clause-before g c = λ l t low. c.make_room.ensures.before l t ∙ c.in_ok-line.ensures.before l t low

pub returns-clause-copy : goal.returns-clause-copy
returns-clause-copy g c = λ t. c.in_ok-make_room.ensures.now c.in_ok-line.line t ∙ c.in_ok-line.ensures.copy t

pub returns-clause-now : goal.returns-clause-now
returns-clause-now g c = λ l t low. c.in_ok-make_room.ensures.now l t ∙ c.in_ok-line.ensures.now l t low

pub returns-clause-before : goal.returns-clause-before
returns-clause-before g c = λ l t low. c.in_ok-make_room.ensures.before l t ∙ c.in_ok-line.ensures.before l t low
