use Rattle.cil_bind.proofs.Common.{◌<◌, ◌≤◌, length, take, subst, rules, [], sym, append-nil, arith, joined, Spells, AreFrom, AreAround, HaveModule}
use Rattle.cil_bind.proofs.PlaceLemmas.{module-next, joined-all, kept-next, spelt-at}
use Rattle.cil_bind.proofs.AroundLemmas.{around-module, around-joined}
use Rattle.cil_bind.proofs.FromLemmas.{from-module, from-joined}
use Rattle.cil_bind.proofs.scope.Scope.add_all.Goals as goal

pub loop-i-init : goal.loop-i-init
loop-i-init g c = record {
  stands = λ modules are stands. stands;
  from = λ modules are. subst (λ r. AreFrom c.args.joined.now.modules.items r []) (sym c.requires.first) tt;
  around = λ modules are. subst (λ r. AreAround (joined modules) 0 r []) (sym c.requires.first) tt;
  kinds = λ told. told;
  kept = ([], sym (append-nil _));
}

pub returns-clause-stands : goal.returns-clause-stands
returns-clause-stands g c = λ modules are stands.
    joined-all c.args.joined.now.modules.items modules _ _ _ c.loop-i.i are (omega arith) (c.loop-i.invariant.stands modules are stands)

pub add-requires : goal.add-requires
add-requires g c =
    let items = c.args.joined.now.modules.items in
    let low : c.loop-i.i < length items = search rules in
    let m = spelt-at items c.requires.spelt.0 c.loop-i.i c.index.result.now c.requires.spelt.1 low in
    (m.0.statements, subst (λ n. Spells n.«module».now m.0.statements) (sym c.index.ensures) m.2)

pub loop-i-preserved : goal.loop-i-preserved
loop-i-preserved g c = record {
  stands = λ modules are stands.
      let items = c.args.joined.now.modules.items in
      let low : c.loop-i.i < length items = search rules in
      module-next items modules c.loop-i.i c.index.result.now _ _ _ are low λ m spells.
      c.in_ok-add.ensures.stands (joined (take c.loop-i.i modules)) m.name m.statements (subst (λ n. Spells n.«module».now m.statements) (sym c.index.ensures) spells) (c.loop-i.invariant.stands modules are stands);
  from = λ modules are.
      let items = c.args.joined.now.modules.items in
      let low : c.loop-i.i < length items = search rules in
      from-module items modules c.loop-i.i c.index.result.now c.loop-i.self.rows.items c.add.new.self.rows.items are low c.index.ensures (c.loop-i.invariant.from modules are)
      (λ name statements spells have.
      c.in_ok-add.ensures.from items (joined (take c.loop-i.i modules)) name statements spells
      (subst (λ n. HaveModule items n c.index.result.now.«module».now name) (sym c.in_ok-in_32_bits.ensures.same) have) (c.loop-i.invariant.from modules are));
  around = λ modules are.
      let items = c.args.joined.now.modules.items in
      let low : c.loop-i.i < length items = search rules in
      around-module items modules c.loop-i.i c.index.result.now c.loop-i.self.rows.items c.add.new.self.rows.items are low c.index.ensures (c.loop-i.invariant.around modules are) c.in_ok-add.ensures.around;
  kinds = λ told. c.in_ok-add.ensures.kinds (c.loop-i.invariant.kinds told);
  kept = kept-next _ _ _ c.loop-i.invariant.kept c.in_ok-add.ensures.kept;
}

pub returns-clause-from : goal.returns-clause-from
returns-clause-from g c = λ modules are.
    let items = c.args.joined.now.modules.items in
    let past : length items ≤ c.loop-i.i = search rules in
    from-joined items modules _ c.loop-i.i are past (c.loop-i.invariant.from modules are)

pub returns-clause-around : goal.returns-clause-around
returns-clause-around g c = λ modules are.
    let items = c.args.joined.now.modules.items in
    let past : length items ≤ c.loop-i.i = search rules in
    around-joined items modules _ c.loop-i.i are past (c.loop-i.invariant.around modules are)

pub returns-clause-kinds : goal.returns-clause-kinds
returns-clause-kinds g c = c.loop-i.invariant.kinds
