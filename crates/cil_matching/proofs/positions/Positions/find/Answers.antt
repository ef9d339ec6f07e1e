use Rattle.std.proofs.Common.{◌∙◌, ap, position}
use Rattle.cil_matching.specs.Spot.{same_spot, spot_of}
use Rattle.cil_matching.proofs.SpotLemmas.{position-spots}
use Rattle.cil_matching.proofs.positions.Positions.find.Goals as goal

pub returns : goal.returns
returns g c = c.get_index_of.ensures.index ∙ position-spots c.args.wanted c.self.inside.positions.keys ∙ ap (position (same_spot (spot_of c.args.wanted))) c.self.view_is
