use Rattle.cil_resolve.proofs.Common.{◌≡◌, ◌+◌, ◌<◌, ◌∙◌, ◌∷◌, [], Some, length, sym, ap, subst, arith, refl, take_all, length-append, slice_get-get_or, slice_get_read, IsOrdered, ArePutInOrder}
use Rattle.std.proofs.Common.{slice_get}
use Rattle.std.specs.Rc.{rc_value}
use Rattle.cil_resolve.proofs.GatheredLemmas.{ordered-none, ordered-more}
use Rattle.cil_resolve.proofs.gathering.put_in_order.Goals as goal

pub loop-place-init : goal.loop-place-init
loop-place-init g c = record { long = ap length c.in_ok-sets.ensures.items; ordered = ordered-none c.args.numbers.now c.args.lists.now c.in_ok-sets.sets.items c.in_ok-sets.ensures.items }

pub loop-place-preserved : goal.loop-place-preserved
loop-place-preserved g c =
    let numbers = c.args.numbers.now in
    let lists = c.args.lists.now in
    let old = c.loop-place.sets.items in
    let i = c.loop-place.place in
    let v = c.index-lists-place.result in
    let s = c.in_ok-of.field-0 in
    let pushed = c.in_ok-push.ensures.items in
    let long : length c.push.new.self.items ≡ i + 1 = (let whole = ap length pushed in let more = length-append old (s ∷ []) in let so_far = c.loop-place.invariant.long in omega (arith, whole, more, so_far)) in
    let low : i < length lists = (let below = c.loop-place-test.true in let same = c.requires in omega (arith, below, same)) in
    let numbered : slice_get numbers i ≡ Some s.set = slice_get-get_or numbers i 0 c.loop-place-test.true ∙ ap Some (sym c.in_ok-of.ensures.set) in
    let at : slice_get lists i ≡ Some v = slice_get_read lists (length lists) i v refl low c.index-lists-place.is in
    record {
      long = long;
      ordered = ordered-more numbers lists old c.push.new.self.items i v s numbered c.loop-place.invariant.long at
          (subst (λ l. IsOrdered l (rc_value s.given).items) c.deref.ensures.value c.in_ok-of.ensures.given) pushed c.loop-place.invariant.ordered;
    }

pub returns : goal.returns
returns g c =
    let past = c.loop-place-test.false in
    subst (λ l. ArePutInOrder l c.args.lists.now c.loop-place.sets.items) (take_all c.loop-place.place c.args.numbers.now past) c.loop-place.invariant.ordered
