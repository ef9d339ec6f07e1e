use Rattle.cil_session.proofs.Common.{subst, Adds}
use Rattle.cil_session.proofs.BatchLemmas.{held-added, held-given_up}
use Rattle.cil_session.proofs.batch.Batch.hold_install.Goals as goal

pub returns-in-Ok : goal.returns-in-Ok
returns-in-Ok g c edit is = held-added c.args.self.now c.add_install.new.self edit _ (subst (Adds c.args.self.now c.add_install.new.self edit) c.in-Ok.is (c.add_install.ensures edit is))

pub returns-in-Err : goal.returns-in-Err
returns-in-Err g c edit is =
    held-given_up c.args.self.now c.add_install.new.self c.give_up.new.self edit c.in-Err.fault (subst (Adds c.args.self.now c.add_install.new.self edit) c.in-Err.is (c.add_install.ensures edit is)) c.give_up.ensures
