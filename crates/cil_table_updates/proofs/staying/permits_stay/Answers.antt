use Rattle.cil_table_updates.proofs.Common.{◌∙◌, ap, not}
use Rattle.cil_table_updates.specs.Moves.{are_listed}
use Rattle.cil_table_updates.specs.Staying.{set_in}
use Rattle.cil_table_updates.proofs.staying.permits_stay.Goals as goal

pub returns-in-OfSet : goal.returns-in-OfSet
returns-in-OfSet g c same =
    c.requires.staying c.in-OfSet.of.set (c.stays.ensures same) c.args.old.now.rule.now c.args.new.now.rule.now c.requires.alike.here c.requires.alike.there
    (ap set_in c.in-OfSet.is) c.requires.alike.written

pub returns-then-is_none : goal.returns-then-is_none
returns-then-is_none g c same = c.requires.plain (ap are_listed c.in-OfClass.is ∙ ap not (c.if-is_none.ensures {u = tt}))
