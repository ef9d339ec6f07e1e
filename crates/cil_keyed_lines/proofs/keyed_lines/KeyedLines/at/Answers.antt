use Rattle.cil_keyed_lines.proofs.Common.{◌∙◌}
use Rattle.cil_keyed_lines.proofs.SharedLemmas.{line_of_place}
use Rattle.cil_keyed_lines.proofs.keyed_lines.KeyedLines.at.Goals as goal

pub returns : goal.returns
returns g c =
    let old = c.self.inside in
    rw (← c.self.view_is)
    (line_of_place (record { keys = old.keys.keys; names = old.names; lines = old.lines }) old.keys_before old.lines_before c.args.place c.copied.result c.self.invariant (c.copied.ensures ∙ c.get_index.ensures.key))
