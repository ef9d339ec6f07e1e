use Rattle.cil_bind.proofs.Common.{◌<◌, ◌≤◌, ◌+◌, take, length, rules, sym, subst, take_all, AreWorded}
use Rattle.cil_bind.proofs.WordLemmas.{worded-next}
use Rattle.cil_bind.proofs.words.number_modules.Goals as goal

pub loop-i-init : goal.loop-i-init
loop-i-init g c = record {
  worded = rw c.in_ok-words.ensures.items tt;
  distinct = λ d. d;
}

pub loop-i-preserved : goal.loop-i-preserved
loop-i-preserved g c =
    let items = c.args.joined.now.modules.items in
    let low : c.loop-i.i < length items = search rules in
    record {
      worded = subst (λ l. AreWorded c.number_names.new.names l (take (c.loop-i.i + 1) items)) (sym c.in_ok-push.ensures.items)
          (worded-next c.loop-i.names c.number_names.new.names c.loop-i.words.items items c.loop-i.i c.in_ok-numbers.numbers c.index.result.now c.loop-i.invariant.worded c.in_ok-numbers.ensures.kept low c.index.ensures c.in_ok-numbers.ensures.numbers);
      distinct = λ d. c.in_ok-numbers.ensures.distinct (c.loop-i.invariant.distinct d);
    }

pub returns-clause-worded : goal.returns-clause-worded
returns-clause-worded g c =
    let items = c.args.joined.now.modules.items in
    let past : length items ≤ c.loop-i.i = search rules in
    subst (AreWorded c.loop-i.names c.loop-i.words.items) (take_all c.loop-i.i items past) c.loop-i.invariant.worded
