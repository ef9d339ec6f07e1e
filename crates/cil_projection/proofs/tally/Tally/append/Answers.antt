use Rattle.std.proofs.Common.{◌∙◌, ap, position, bytes_eq}
use Rattle.cil_projection.proofs.NameLemmas.{is_new}
use Rattle.cil_projection.proofs.tally.Tally.append.Goals as goal

pub returns-else-new : goal.returns-else-new
returns-else-new g c =
    let keyword = c.args.keyword.now in
    let nowhere = ap (λ counts. position (bytes_eq keyword) counts.keywords) c.self.view_is ∙ c.requires in
    absurd (is_new c.self.inside.keywords keyword c.in_ok-_place.new nowhere c.in_ok-_place.ensures.added c.if-new.false)
