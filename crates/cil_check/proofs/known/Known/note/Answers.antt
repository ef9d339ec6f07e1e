use Rattle.cil_check.proofs.RecentLemmas.{recent-noted}
use Rattle.cil_check.proofs.known.Known.note.Goals as goal

pub returns-in-Some-clause-recent : goal.returns-in-Some-clause-recent
returns-in-Some-clause-recent g c = λ has is are. recent-noted has c.args.self.now.recent.items c.slot_of.result (record { owner = c.args.class; word = c.args.word }) is are
