use Rattle.std.proofs.Common.{ap, sym, ◌∙◌, map, take_all, arith}
use Rattle.std.specs.Rc.{rc_value}
use Rattle.cil_store.proofs.JoinLemmas.{parsed-same}
use Rattle.cil_store.proofs.join.named.Goals as goal

pub returns : goal.returns
returns g c = λ entries are.
    let modules = c.args.modules.now in
    let all = take_all c.loop-module.module-index modules (omega (arith, c.loop-module-test.false)) in
    parsed-same (λ m. m.name) (λ m. rc_value m.«module») (λ n. n.name.now) (λ n. n.«module».now) entries modules c.loop-module.named.items
    (sym (ap (map (λ m. m.name)) all) ∙ c.loop-module.invariant.0)
    (sym (ap (map (λ m. rc_value m.«module»)) all) ∙ c.loop-module.invariant.1)
    are
