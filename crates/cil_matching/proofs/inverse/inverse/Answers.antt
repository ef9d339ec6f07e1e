use Rattle.cil_matching.proofs.Common.{◌≡◌, ◌∙◌, ◌<◌, ◌+◌, Some, length, slice_get, ap, sym, subst, slice_get-get_or, IsInverse}
use Rattle.cil_matching.proofs.InverseLemmas.{inverse-next, inverse-all, noted-length}
use Rattle.cil_matching.proofs.inverse.inverse.Goals as goal

pub loop-i-preserved : goal.loop-i-preserved
loop-i-preserved g c =
    let places = c.args.places.now in
    let back = c.loop-i.back.items in
    let i = c.loop-i.i in
    let place = c.place_of.result in
    let at : slice_get places i ≡ Some place = slice_get-get_or places i c.index-places-i.result c.loop-i-test.true ∙ ap Some (sym c.index-places-i.is ∙ sym c.place_of.ensures) in
    record {
      long = ap length c.in_ok-note.ensures ∙ noted-length back place i ∙ c.loop-i.invariant.long;
      inverse = subst (IsInverse (i + 1) places) (sym c.in_ok-note.ensures)
          (inverse-next places back place i at (λ j is. subst (λ n. j < n) (sym c.loop-i.invariant.long) (c.requires.below i j (at ∙ ap Some is))) c.requires.apart c.loop-i.invariant.inverse);
    }

pub returns : goal.returns
returns g c = inverse-all c.args.places.now c.loop-i.back.items c.loop-i.i c.loop-i-test.false c.loop-i.invariant.inverse
