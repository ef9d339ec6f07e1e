use Rattle.cil_matching.proofs.Common.{◌≡◌, ◌∙◌, inl, inr, Some, slice_get, sym, ap, arith, cases_lt, slice_get-get_or}
use Rattle.cil_matching.proofs.FilledLemmas.{some-from}
use Rattle.cil_matching.proofs.set_matching.first_open.Goals as goal

pub loop-i-preserved : goal.loop-i-preserved
loop-i-preserved c a low =
    let test = c.loop-i-test.true in
    elim (cases_lt a c.loop-i.i) [
      | inl before ↦ c.loop-i.invariant a before
      | inr last ↦
          let same : c.loop-i.i ≡ a = omega (arith, low, last) in
          let (k, is) = some-from _ c.if-is_none.ensures in
          (k, ap (slice_get c.args.places.now) (sym same) ∙ slice_get-get_or c.args.places.now c.loop-i.i c.index-places-i.result test ∙ ap Some (sym c.index-places-i.is ∙ sym c.place_of.ensures ∙ is))
    ]
