use Rattle.cil_member_rows.specs.Rows as member_rows
use Rattle.cil_keyed_lines.specs.Keyed as access_tables
use Rattle.cil_counters.proofs.CountedLemmas.{either-steps}
use Rattle.cil_counters.proofs.counters.Counters.is_pending.Goals as goal

pub returns-clause-steps : goal.returns-clause-steps
returns-clause-steps g c =
    either-steps c.is_pending-rows.result c.is_pending-tables.result (member_rows.steps_in c.args.self.now.rows) (access_tables.steps_in c.args.self.now.tables) c.is_pending-rows.ensures.steps c.is_pending-tables.ensures.changes
