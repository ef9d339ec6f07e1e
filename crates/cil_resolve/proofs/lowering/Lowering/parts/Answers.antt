use Rattle.cil_resolve.proofs.Common.{◌≤◌, length, take, sym, subst, arith, take_all, there-at, AreNaming, ArePartsOf, GivesSets, KnowSets, modules_of}
use Rattle.cil_resolve.proofs.KnownLemmas.{none-known}
use Rattle.cil_bind.proofs.PositionLemmas.{take-last}
use Rattle.cil_resolve.proofs.lowering.Lowering.parts.Goals as goal

pub add-requires : goal.add-requires
add-requires g c =
    let (policy, is, naming) = c.requires in
    let count = c.len-count.ensures policy is.noted.is in
    (policy, is, omega (arith, count))

pub permission_sets-requires : goal.permission_sets-requires
permission_sets-requires g c =
    let (policy, is, naming) = c.requires in
    (policy, is, subst (AreNaming policy) (sym c.deref.ensures.value) naming)

pub loop-i-init : goal.loop-i-init
loop-i-init g c policy is naming =
    let there = subst (AreNaming policy) (sym c.deref.ensures.value) naming in
    let none = none-known c.args.self.now c.new-known.result policy c.new-known.ensures in (
      c.in_ok-parts.ensures policy (c.in_ok-permission_sets.ensures.sets policy is there none),
      c.in_ok-permission_sets.ensures.known policy is there none,
    )

pub loop-i-preserved : goal.loop-i-preserved
loop-i-preserved g c policy is naming =
    let i = c.loop-i.i in
    let count = c.len-count.ensures policy is.noted.is in
    let (s, at) = there-at policy i (omega (arith, count)) in
    let modules = modules_of c.args.self.now.checker.now.bound.joined.now in
    let names = c.args.self.now.numbering.now.names.items in
    let (so_far, knows) = c.loop-i.invariant policy is naming in
    let there = subst (AreNaming policy) (sym c.deref.ensures.value) naming in
    let none = none-known c.args.self.now c.new-known.result policy c.new-known.ensures in
    let sets : KnowSets c.args.self.now c.in_ok-given.given policy = record {
      sets = c.in_ok-permission_sets.permission_sets.items;
      are = c.in_ok-permission_sets.ensures.sets policy is there none;
      give = subst (λ l. GivesSets l c.in_ok-given.given) c.deref-2.ensures.value c.in_ok-given.ensures;
    } in (
      subst (λ l. ArePartsOf modules names policy l c.add.new.parts) (sym (take-last policy i s at)) (c.in_ok-add.ensures.parts policy (take i policy) s is at knows sets so_far),
      c.in_ok-add.ensures.known policy is knows,
    )

pub returns : goal.returns
returns g c policy is naming =
    let count = c.len-count.ensures policy is.noted.is in
    let past : length policy ≤ c.loop-i.i = omega (arith, count) in
    subst (λ l. ArePartsOf (modules_of c.args.self.now.checker.now.bound.joined.now) c.args.self.now.numbering.now.names.items policy l c.loop-i.parts) (take_all c.loop-i.i policy past) (c.loop-i.invariant policy is naming).0
