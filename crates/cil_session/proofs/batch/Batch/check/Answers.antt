use Rattle.std.proofs.Common.{subst}
use Rattle.cil_session.specs.Batch.{CanHold}
use Rattle.cil_session.proofs.BatchLemmas.{list-ok, list-err}
use Rattle.cil_session.proofs.batch.Batch.check.Goals as goal

pub returns-then-has_room-clause-ok : goal.returns-then-has_room-clause-ok
returns-then-has_room-clause-ok g c =
    subst (λ o. CanHold o c.args.len) c.self.view_is (list-ok c.self.inside.begin c.self.inside.fault c.self.inside.edits c.args.len c.in-None.is (c.has_room.ensures.yes c.if-has_room.true))

pub returns-else-has_room-clause-err : goal.returns-else-has_room-clause-err
returns-else-has_room-clause-err g c =
    rw (← c.self.view_is) (list-err c.self.inside.begin c.self.inside.fault c.self.inside.edits c.args.len c.in-None.is (c.has_room.ensures.no c.if-has_room.false))
