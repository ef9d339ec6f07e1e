use Rattle.cil_table_updates.proofs.Common.{◌&&◌}
use Rattle.cil_table_updates.proofs.GivenLemmas.{and-first, and-second}
use Rattle.cil_table_updates.proofs.changed_rows.ChangedRows.reach_stays.Goals as goal

pub returns : goal.returns
returns g c both s t =
    let sources = c.element_stays-source.ensures (and-first _ _ both) s in
    let targets = c.target_stays-target.ensures (and-second _ _ both) s t in
    λ i. sources i && targets i
