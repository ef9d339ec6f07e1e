use Rattle.cil_parse.proofs.Common.{◌∙◌, [], ◌∷◌, ◌++◌, map, take, ap, sym, subst, arith, take_more, take_all, seen, AreNumbersOf}
use Rattle.cil_parse.proofs.LexiconLemmas.{number-pushed}
use Rattle.cil_parse.proofs.permission_lists.numbered.Goals as goal

pub loop-i-init : goal.loop-i-init
loop-i-init g c = ap (map _) c.in_ok-numbers.ensures.items

pub loop-i-preserved : goal.loop-i-preserved
loop-i-preserved g c =
    let i = c.loop-i.i in
    let lists = c.args.lists.now.0 in
    let new = c.insert_full.new.self.keys in
    let many = c.len-i-end.ensures in
    let within = c.loop-i-test.true in
    subst (AreNumbersOf (seen new) c.push.new.self.items) (ap (λ l. take i lists ++ l ∷ []) c.get.ensures ∙ sym (take_more lists i [] (omega (arith, many, within))))
    (number-pushed c.loop-i.distinct.keys c.get.result new c.loop-i.numbers.items c.push.new.self.items c.in_ok-n.n c.in_ok-in_32_bits.field-0 c.in_ok-n.ensures.keys c.in_ok-n.ensures.stored c.in_ok-in_32_bits.ensures.same c.in_ok-push.ensures.items (take i lists) c.loop-i.invariant)

pub returns : goal.returns
returns g c =
    let many = c.len-i-end.ensures in
    let past = c.loop-i-test.false in
    subst (AreNumbersOf (seen c.loop-i.distinct.keys) c.loop-i.numbers.items) (take_all c.loop-i.i c.args.lists.now.0 (omega (arith, many, past))) c.loop-i.invariant
