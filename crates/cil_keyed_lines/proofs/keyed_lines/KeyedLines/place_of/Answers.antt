use Rattle.cil_keyed_lines.proofs.Common.{◌∙◌, ap, position}
use Rattle.cil_keyed_lines.proofs.KeyedLemmas.{same_eq}
use Rattle.cil_keyed_lines.proofs.keyed_lines.KeyedLines.place_of.Goals as goal

pub returns-clause-place : goal.returns-clause-place
returns-clause-place g c = rw (← c.self.view_is) (c.get_index_of.ensures.index ∙ ap (λ same. position (same c.args.key) c.self.inside.keys.keys) same_eq)
