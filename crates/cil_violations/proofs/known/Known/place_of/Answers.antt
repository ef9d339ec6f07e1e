use Rattle.cil_violations.proofs.Common.{◌≡◌, ◌∙◌, length, Some, slice_get, refl, ap, sym, ltb-true, slice_get_read}
use Rattle.cil_violations.proofs.known.Known.place_of.Goals as goal

pub returns-then-shared-allowed : goal.returns-then-shared-allowed
returns-then-shared-allowed g c =
    let lists = c.deref-2.result.now in
    let place = c.in_ok-place.field-0.now in
    let shared = c.in_ok-shared.shared.now in
    let found = c.in_ok-shared.ensures.lookup in
    let low = ltb-true place (length lists) (sym found.0) in
    let at : slice_get lists place ≡ Some shared = slice_get_read lists (length lists) place shared refl low found.1 in
    (shared, sym (ap (λ l. slice_get l place) c.deref-2.ensures.value) ∙ at, c.if-shared-allowed.true)
