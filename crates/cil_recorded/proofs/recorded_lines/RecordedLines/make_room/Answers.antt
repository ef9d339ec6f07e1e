use Rattle.std.proofs.Common.{reverse, sym, le_of_eq}
use Rattle.cil_recorded.proofs.LogLemmas.{sound_same, undone_same}
use Rattle.cil_recorded.specs.Recorded.{count_in}
use Rattle.cil_recorded.proofs.recorded_lines.RecordedLines.make_room.Goals as goal

pub invariant_of-self : goal.invariant_of-self
invariant_of-self g c =
    let room = c.make_room.ensures in
    sound_same c.self.inside.lines.items c.make_room.new.lines.items c.self.inside.log.items c.self.invariant room.limits (le_of_eq (sym room.len)) room.now

pub returns-clause-before : goal.returns-clause-before
returns-clause-before g c =
    rw (← c.self.view_is) (undone_same (reverse c.self.inside.log.items) (count_in c.self.inside.lines.items) (count_in c.make_room.new.lines.items) c.make_room.ensures.now)

pub returns-clause-now : goal.returns-clause-now
returns-clause-now g c = rw (← c.self.view_is) c.make_room.ensures.now

pub returns-clause-limits : goal.returns-clause-limits
returns-clause-limits g c = rw (← c.self.view_is) c.make_room.ensures.limits
