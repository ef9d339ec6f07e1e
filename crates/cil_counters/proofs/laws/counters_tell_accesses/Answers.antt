use Rattle.cil_counters.proofs.Common.{◌≡◌, length, subst, true, list_all, is_rule_below}
use Rattle.cil_member_rows.specs.Rows as member_rows
use Rattle.cil_keyed_lines.specs.Keyed as access_tables
use Rattle.cil_counters.proofs.ToldLemmas.{told-accesses}
use Rattle.cil_counters.proofs.laws.counters_tell_accesses.Goals as goal

pub returns : goal.returns
returns g c =
    told-accesses c.args.counters.now.names c.args.resolved.now (member_rows.count_now c.args.counters.now.rows) (access_tables.count_now c.args.counters.now.tables) c.requires.counted c.resolved_names_are_kept.ensures.types
    (subst (λ l. list_all (is_rule_below (length c.args.resolved.now.names.items)) l ≡ true) c.rules.ensures.rules c.rules.ensures.within)
