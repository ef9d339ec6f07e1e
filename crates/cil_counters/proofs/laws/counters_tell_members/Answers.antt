use Rattle.cil_member_rows.specs.Rows as member_rows
use Rattle.cil_keyed_lines.specs.Keyed as access_tables
use Rattle.cil_counters.proofs.ToldLemmas.{told-members}
use Rattle.cil_counters.proofs.laws.counters_tell_members.Goals as goal

pub returns : goal.returns
returns g c =
    told-members c.args.counters.now.names c.args.resolved.now (member_rows.count_now c.args.counters.now.rows) (access_tables.count_now c.args.counters.now.tables) c.requires.counted c.resolved_names_are_kept.ensures.types
    c.resolved_is_sound.ensures c.resolved_sets_are_in_order.ensures.the_same c.resolved_names_are_kept.ensures.attributes
