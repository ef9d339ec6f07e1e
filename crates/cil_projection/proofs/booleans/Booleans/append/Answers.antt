use Rattle.std.proofs.Common.{◌∙◌, ap, position, bytes_eq}
use Rattle.cil_projection.proofs.NameLemmas.{is_new}
use Rattle.cil_projection.proofs.booleans.Booleans.append.Goals as goal

pub returns-else-new : goal.returns-else-new
returns-else-new g c =
    let name = c.args.name.now in
    let nowhere = ap (λ known. position (bytes_eq name) known.names) c.self.view_is ∙ c.requires in
    absurd (is_new c.self.inside.names name c.in_ok-_number.new nowhere c.in_ok-_number.ensures.added c.if-new.false)
