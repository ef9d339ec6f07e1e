use Rattle.cil_resolve.specs.Resolved.{meaning_in}
use Rattle.cil_keyed_lines.specs.Keyed as access_tables
use Rattle.cil_counters.proofs.BoundLemmas.{bounded-by-names}
use Rattle.cil_counters.proofs.laws.counters_are_bounded.Goals as goal

pub returns : goal.returns
returns g c = bounded-by-names c.args.counters.now.names (meaning_in c.args.one.now) (meaning_in c.args.other.now) (access_tables.count_now c.args.counters.now.tables) c.requires
