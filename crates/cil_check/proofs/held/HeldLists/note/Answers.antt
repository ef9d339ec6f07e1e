use Rattle.cil_check.proofs.RecentLemmas.{held-noted}
use Rattle.cil_check.proofs.held.HeldLists.note.Goals as goal

pub returns-in-Some : goal.returns-in-Some
returns-in-Some g c = λ holds is are.
    held-noted holds c.args.self.now.slots.items c.slot_of.result (record { «module» = c.args.list.«module»; list = c.args.list.list; owner = c.args.class }) is are
