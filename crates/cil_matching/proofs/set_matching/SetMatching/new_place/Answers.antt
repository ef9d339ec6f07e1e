use Rattle.std.proofs.Common.{◌≡◌, ◌∙◌, ◌↔◌, Some, slice_get, ap, subst}
use Rattle.cil_matching.specs.Matching.{Matched}
use Rattle.cil_matching.proofs.set_matching.SetMatching.new_place.Goals as goal

pub returns : goal.returns
returns g c = λ j.
    subst (λ l. (c.place_at.result ≡ Some j) ↔ (slice_get l c.args.i ≡ Some (Some j))) (c.deref.ensures.value ∙ ap (λ (m : Matched). m.ahead) c.self.view_is) (c.place_at.ensures j)
