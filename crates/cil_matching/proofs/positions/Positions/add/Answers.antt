use Rattle.cil_matching.proofs.Common.{◌∙◌, ◌++◌, ◌∷◌, [], map, ap, list_any, same_spot, spot_of}
use Rattle.cil_matching.proofs.SpotLemmas.{insert-spots}
use Rattle.cil_matching.proofs.positions.Positions.add.Goals as goal

pub returns : goal.returns
returns g c =
    let p = c.args.position in
    ap (map spot_of) c.in_ok-insert.ensures.keys
    ∙ insert-spots p c.self.inside.positions.keys (ap (list_any (same_spot (spot_of p))) c.self.view_is ∙ c.requires)
    ∙ ap (λ l. l ++ spot_of p ∷ []) c.self.view_is
