use Rattle.std.proofs.Common.{◌≡◌, ◌∙◌, ◌↔◌, Some, slice_get, ap, subst}
use Rattle.cil_matching.specs.Matching.{Matched}
use Rattle.cil_matching.proofs.set_matching.SetMatching.old_place.Goals as goal

pub returns : goal.returns
returns g c = λ i.
    subst (λ l. (c.place_at.result ≡ Some i) ↔ (slice_get l c.args.j ≡ Some (Some i))) (c.deref.ensures.value ∙ ap (λ (m : Matched). m.back) c.self.view_is) (c.place_at.ensures i)
