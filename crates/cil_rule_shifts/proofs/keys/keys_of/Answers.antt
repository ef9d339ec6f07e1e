use Rattle.std.specs.Prelude.{IfOk}
use Rattle.cil_rule_shifts.proofs.Common.{arith, is_among, subst, sym, AreKeysOf}
use Rattle.cil_rule_shifts.proofs.KeyLemmas.{keys-apart, keys-done, keys-more, keys-new}
use Rattle.cil_rule_shifts.proofs.ShiftLemmas.{short-source}
use Rattle.cil_rule_shifts.proofs.keys.keys_of.Goals as goal

-- the keys of the only source
pub returns-in-Some : goal.returns-in-Some
returns-in-Some g c =
    subst (λ f. IfOk c.keys_of_source.result (λ keys. AreKeysOf f c.args.head keys.items)) (λ i s. sym (c.in-Some.ensures s) i) c.keys_of_source.ensures

pub loop-source-init : goal.loop-source-init
loop-source-init g c = rw c.reserve.ensures.items (rw c.requires.empty (keys-new (is_among c.args.sources) c.args.head))

pub push_keys-requires-clause-distinct : goal.push_keys-requires-clause-distinct
push_keys-requires-clause-distinct g c = c.loop-source.invariant.distinct

pub push_keys-requires-clause-new : goal.push_keys-requires-clause-new
push_keys-requires-clause-new g c =
    keys-apart (is_among c.args.sources) c.args.head c.loop-source.from c.in-Some-next_source.source c.loop-source.keys.items c.loop-source.invariant c.in-Some-next_source.ensures

pub overflow_add-from : goal.overflow_add-from
overflow_add-from g c = let low = short-source c.args.sources c.loop-source.from c.in-Some-next_source.source c.requires.sources c.in-Some-next_source.ensures in omega (arith, low)

pub loop-source-preserved : goal.loop-source-preserved
loop-source-preserved g c =
    keys-more (is_among c.args.sources) c.args.head c.loop-source.from c.in-Some-next_source.source c.loop-source.keys.items c.loop-source.invariant c.in-Some-next_source.ensures c.push_keys.new.keys.items
    c.push_keys.ensures.distinct c.in_ok-push_keys.ensures.keys

pub returns : goal.returns
returns g c = keys-done (is_among c.args.sources) c.args.head c.loop-source.from c.loop-source.keys.items c.loop-source.invariant c.in_default-next_source.ensures
