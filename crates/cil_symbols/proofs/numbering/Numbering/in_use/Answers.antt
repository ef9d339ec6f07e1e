use Rattle.cil_symbols.proofs.Common.{◌∙◌, ap, arith, is_some, length, map, slice_get, take_all, slice_get-map, used_in}
use Rattle.std.proofs.Common.{option_map}
use Rattle.cil_symbols.proofs.InUseLemmas.{marks-count}
use Rattle.cil_symbols.proofs.numbering.Numbering.in_use.Goals as goal

pub returns-clause-used : goal.returns-clause-used
returns-clause-used g c k s at =
    let locals = c.self.inside.locals.items in
    let all = c.loop-local.invariant ∙ ap (map is_some) (take_all c.loop-local.local-index c.deref-local-items.result.now c.loop-local-test.false ∙ c.deref-local-items.ensures.value) in
    let here = ap (λ n. slice_get n.symbols k) c.self.view_is ∙ at in
    let used = ap (λ l. slice_get l s) all ∙ slice_get-map is_some locals s ∙ ap (option_map is_some) (c.self.invariant.forth k s here) in
    ap (λ l. slice_get l s) c.new.ensures ∙ c.in_ok-pad.ensures.used s used

pub returns-clause-count : goal.returns-clause-count
returns-clause-count g c =
    let locals = c.self.inside.locals.items in
    let all = c.loop-local.invariant ∙ ap (map is_some) (take_all c.loop-local.local-index c.deref-local-items.result.now c.loop-local-test.false ∙ c.deref-local-items.ensures.value) in
    let marks = ap used_in c.new.ensures ∙ c.in_ok-pad.ensures.count ∙ ap used_in all in
    let counted = marks-count locals in
    let others = c.self.invariant.others in
    let symbols = ap (λ n. length n.symbols) c.self.view_is in
    omega (arith, marks, counted, others, symbols)
