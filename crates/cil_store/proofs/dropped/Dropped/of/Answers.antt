use Rattle.cil_store.proofs.Common.{List, Declared, meaning_in}
use Rattle.cil_resolve.specs.Views.{declared_seen}
use Rattle.cil_store.proofs.DroppedLemmas.{taken-next, next-within, taken-all}
use Rattle.cil_store.proofs.dropped.Dropped.of.Goals as goal

pub loop-name-preserved : goal.loop-name-preserved
loop-name-preserved g c =
    let optionals : List Declared = (meaning_in c.args.resolved.now).dropped in
    let name : Declared = declared_seen c.in-Some.name in
    record {
      so_far =
          taken-next optionals c.loop-name.names.items c.push.new.self.items c.loop-name.i name c.in_ok-of.field-0 c.loop-name.invariant.so_far c.in-Some.ensures c.in_ok-of.ensures c.in_ok-push.ensures.items;
      within = next-within optionals c.loop-name.i name c.in-Some.ensures;
    }

pub returns : goal.returns
returns g c = taken-all (meaning_in c.args.resolved.now).dropped c.loop-name.names.items c.loop-name.i c.loop-name.invariant.so_far c.in_default.ensures
