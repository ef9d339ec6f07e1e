use Rattle.cil_keyed_lines.proofs.Common.{came, went, AreKeyed}
use Rattle.cil_keyed_lines.proofs.KeyedLemmas.{count_same}
use Rattle.cil_keyed_lines.proofs.KeyLemmas.{above_places, before_moved, keys_bounded, keys_moved, shared_moved}
use Rattle.cil_lines.proofs.DigitLemmas.{OnOk-map}
use Rattle.cil_keyed_lines.specs.Keyed.{before_in}
use Rattle.cil_keyed_lines.proofs.keyed_lines.KeyedLines.move_keys.Given as given
use Rattle.cil_keyed_lines.proofs.keyed_lines.KeyedLines.move_keys.Goals as goal
use Rattle.cil_keyed_lines.proofs.keyed_lines.KeyedLines.move_keys.Goals.{After-move_places}

pub move_places-requires-clause-above : goal.move_places-requires-clause-above
move_places-requires-clause-above g c =
    let old = c.self.inside in
    above_places c.args.places.now old.keys.keys old.names old.lines old.keys_before old.lines_before (went c.args.moved.now) c.self.invariant (rw (← c.self.view_is) at c.requires.named)
    (rw (← c.self.view_is) at c.requires.above)

-- the keys, the lines that they name and the counters of these hold together
moved : (g : given.Over) (c : After-move_places g) → AreKeyed c.self.inside.keys.keys c.move_places.new.names c.move_places.new.lines c.self.inside.keys_before c.self.inside.lines_before
moved g c =
    let old = c.self.inside in
    let move = c.move_places.ensures in
    shared_moved old.keys.keys old.names c.move_places.new.names old.lines c.move_places.new.lines old.keys_before old.lines_before c.self.invariant move.lined move.lines move.names_before move.before
    move.counted move.len (move.logged c.self.invariant.logged)

pub invariant_of-self : goal.invariant_of-self
invariant_of-self g c = moved g (goal.at.invariant_of-self g c).After-move_places

pub returns-clause-before : goal.returns-clause-before
returns-clause-before g c =
    let old = c.self.inside in
    let move = c.move_places.ensures in
    rw (← c.self.view_is)
    (count_same (before_in old.names old.lines) (before_in c.move_places.new.names c.move_places.new.lines) old.keys.keys
    (before_moved old.keys.keys old.names c.move_places.new.names old.lines c.move_places.new.lines old.keys_before old.lines_before c.self.invariant move.lined move.lines move.names_before move.before))

pub returns-clause-now : goal.returns-clause-now
returns-clause-now g c =
    let old = c.self.inside in
    rw (← c.self.view_is)
    (OnOk-map c.move_places.result
    (keys_moved old.keys.keys old.names c.move_places.new.names old.lines c.move_places.new.lines old.keys_before old.lines_before c.self.invariant (moved g (goal.at.returns-clause-now g c).After-move_places)
    c.args.places.now (went c.args.moved.now) (came c.args.moved.now)) c.move_places.ensures.now)

pub returns-clause-bounded : goal.returns-clause-bounded
returns-clause-bounded g c =
    let old = c.self.inside in
    let is = moved g (goal.at.returns-clause-bounded g c).After-move_places in
    rw (← c.self.view_is)
    (keys_bounded old.keys.keys old.names c.move_places.new.names old.lines c.move_places.new.lines old.keys_before old.lines_before c.self.invariant is c.args.places.now (went c.args.moved.now) (came c.args.moved.now)
    c.move_places.ensures.bounded)
