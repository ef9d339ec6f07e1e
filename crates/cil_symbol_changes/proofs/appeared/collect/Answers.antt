use Rattle.cil_symbol_changes.proofs.Common.{sym, subst, AreAppeared, IsIn}
use Rattle.cil_recorded.specs.Differences.{appeared_at}
use Rattle.cil_symbol_changes.proofs.GainedLemmas.{alike-trans, gained-all, gained-short}
use Rattle.cil_symbol_changes.proofs.appeared.collect.Goals as goal

pub push_changes-requires-clause-all : goal.push_changes-requires-clause-all
push_changes-requires-clause-all g c =
    subst (AreAppeared c.args.changes.now) (sym c.deref.ensures.value) c.in_ok-order.ensures

pub of-requires : goal.of-requires
of-requires g c = record {
  words = gained-short (IsIn c.args.numbers.now c.args.lines.now (appeared_at c.args.changes.now))
      c.new-growing.result.chunks.items c.push_changes.new.growing.chunks.items c.new-growing.ensures
      c.in_ok-push_changes.ensures;
}

pub returns-clause-those : goal.returns-clause-those
returns-clause-those g c a =
    alike-trans (c.of.ensures.same a)
    (gained-all (IsIn c.args.numbers.now c.args.lines.now (appeared_at c.args.changes.now))
    c.new-growing.result.chunks.items c.push_changes.new.growing.chunks.items c.new-growing.ensures
    c.in_ok-push_changes.ensures a)
