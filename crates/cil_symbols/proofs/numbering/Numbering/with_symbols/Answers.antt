use Rattle.cil_symbols.proofs.Common.{◌≡◌, ◌∙◌, [], None, Some, length, get_or, replicate, slice_get, ap, sym, subst, arith, length-set, slice_get-get_or, AreInverse}
use Rattle.cil_symbols.proofs.InverseLemmas.{inverse-none, inverse-next, inverse-all, only-none}
use Rattle.cil_symbols.proofs.numbering.Numbering.with_symbols.Goals as goal

pub loop-local-init : goal.loop-local-init
loop-local-init g c =
    let none : c.in_ok-locals.locals.items ≡ replicate c.args.count None = c.in_ok-locals.ensures.items_if_clones_equal (only-none _ (λ x some. some)) in
    record {
      long = let len = c.in_ok-locals.ensures.len in omega (arith, len);
      inverse = subst (AreInverse []) (sym none) (inverse-none c.args.count);
    }

pub loop-local-preserved : goal.loop-local-preserved
loop-local-preserved g c =
    let all = c.deref-symbol-items.result.now in
    let local = c.loop-local.local in
    let symbol = get_or all local 0 in
    let at : slice_get c.args.symbols.items local ≡ Some symbol =
    ap (λ l. slice_get l local) (sym c.deref-symbol-items.ensures.value) ∙ slice_get-get_or all local 0 c.loop-local-test.true in
    let low = c.requires.below local symbol at in
    let long = c.loop-local.invariant.long in
    record {
      long = length-set c.loop-local.locals.items symbol (Some local) ∙ long;
      inverse = inverse-next c.args.symbols.items c.loop-local.locals.items local symbol c.requires.apart at (omega (arith, low, long)) c.loop-local.invariant.inverse;
    }

pub index_mut-requires : goal.index_mut-requires
index_mut-requires g c =
    let all = c.deref-symbol-items.result.now in
    let local = c.loop-local.local in
    let at : slice_get c.args.symbols.items local ≡ Some (get_or all local 0) =
    ap (λ l. slice_get l local) (sym c.deref-symbol-items.ensures.value) ∙ slice_get-get_or all local 0 c.loop-local-test.true in
    let low = c.requires.below local (get_or all local 0) at in
    let long = c.loop-local.invariant.long in
    omega (arith, low, long)

pub invariant_of-result : goal.invariant_of-result
invariant_of-result g c =
    let many = ap length c.deref-symbol-items.ensures.value in
    let past = c.loop-local-test.false in
    inverse-all c.args.symbols.items c.loop-local.locals.items c.loop-local.local (omega (arith, many, past)) c.loop-local.invariant.inverse
