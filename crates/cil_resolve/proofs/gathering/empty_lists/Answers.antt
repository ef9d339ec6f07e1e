use Rattle.cil_resolve.proofs.Common.{◌≡◌, ◌+◌, ◌∙◌, ◌∷◌, [], inl, inr, length, sym, ap, subst, arith, Contains, Contains-push_cases, length-append}
use Rattle.cil_resolve.proofs.GatheredLemmas.{gathered-none}
use Rattle.cil_resolve.proofs.gathering.empty_lists.Goals as goal

pub loop-preserved : goal.loop-preserved
loop-preserved g c =
    let old = c.loop.lists.items in
    let pushed = c.in_ok-push.ensures.items in
    let long : length c.push.new.self.items ≡ c.loop.counter + 1 =
    (let whole = ap length pushed in let more = length-append old (c.new.result ∷ []) in let so_far = c.loop.invariant.long in omega (arith, whole, more, so_far)) in
    record {
      long = long;
      empty = λ list there. elim (Contains-push_cases old c.new.result list (subst (λ l. Contains l list) pushed there)) [
        | inl before ↦ c.loop.invariant.empty list before
        | inr same ↦ ap (λ v. v.items) (sym same) ∙ c.new.ensures.items
      ];
    }

pub returns : goal.returns
returns g c =
    let long : length c.loop.lists.items ≡ length c.args.numbers.now =
    (let past = c.loop-test.false in let end = c.loop.auto.counter-end in let so_far = c.loop.invariant.long in omega (arith, past, end, so_far)) in
    gathered-none c.args.numbers.now c.loop.lists.items long c.loop.invariant.empty
