use Rattle.cil_member_rows.specs.Rows as member_rows
use Rattle.cil_resolve.proofs.SetOrderLemmas.{both-ok}
use Rattle.cil_counters.proofs.Common.{meaning_in, is_in_table, AreChanges, names-apart}
use Rattle.cil_symbol_changes.specs.Counts.{has_come, AreSoMany}
use Rattle.cil_keyed_lines.specs.Keyed as access_tables
use Rattle.cil_counters.specs.ChangeCounts.{CountsSome}
use Rattle.cil_counters.proofs.ChangeCountLemmas.{changes-counted}
use Rattle.cil_counters.proofs.counters.Counters.count_changes.Goals as goal

pub returns : goal.returns
returns g c =
    let symbols = c.args.self.now.names in
    let was = access_tables.count_before c.args.self.now.tables in
    let now = access_tables.count_now c.args.self.now.tables in
    both-ok c.count_changes.result (λ n. AreSoMany (has_come was now) n.added) (λ n. AreSoMany (has_come now was) n.removed) (CountsSome (AreChanges (is_in_table (meaning_in c.args.old.now)) (is_in_table (meaning_in c.args.new.now))))
    (λ n. changes-counted symbols (names-apart symbols c.requires.distinct) c.args.old.now c.args.new.now (member_rows.count_before c.args.self.now.rows) (member_rows.count_now c.args.self.now.rows) was now c.requires.before.counted
    c.requires.now.counted n)
    c.count_changes.ensures.added c.count_changes.ensures.removed
