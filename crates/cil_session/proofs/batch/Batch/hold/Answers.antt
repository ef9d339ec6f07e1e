use Rattle.cil_session.proofs.Common.{subst, edit_of, Adds}
use Rattle.cil_session.proofs.BatchLemmas.{held-added, held-given_up}
use Rattle.cil_session.proofs.batch.Batch.hold.Goals as goal

pub returns-in-Ok : goal.returns-in-Ok
returns-in-Ok g c = held-added c.args.self.now c.add.new.self (edit_of c.args.edit) _ (subst (Adds c.args.self.now c.add.new.self (edit_of c.args.edit)) c.in-Ok.is c.add.ensures)

pub returns-in-Err : goal.returns-in-Err
returns-in-Err g c =
    held-given_up c.args.self.now c.add.new.self c.give_up.new.self (edit_of c.args.edit) c.in-Err.fault (subst (Adds c.args.self.now c.add.new.self (edit_of c.args.edit)) c.in-Err.is c.add.ensures) c.give_up.ensures
