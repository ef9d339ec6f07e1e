use Rattle.cil_rule_shifts.proofs.Common.{◌∙◌, ap, eqb-true, nat_eq, steps_in, subst, sym, takes}
use Rattle.cil_rule_shifts.proofs.KeyLemmas.{alike-can_move, alike-shifted, unshifted, AreAlike}
use Rattle.cil_rule_shifts.specs.Groups.{AreShifted}
use Rattle.cil_rule_shifts.proofs.group.Group.shift_source.Given as given
use Rattle.cil_rule_shifts.proofs.group.Group.shift_source.Goals as goal
use Rattle.cil_rule_shifts.proofs.group.Group.shift_source.Goals.{After-deref-2}

-- the keys are those of the source
alike : (g : given.Over) (c : After-deref-2 g) → AreAlike (nat_eq c.args.source) c.args.self.head c.deref.result.now c.deref-2.result.now c.args.self.was.now c.args.self.is.now
alike g c =
    let source = c.args.source in
    let head = c.args.self.head in
    let was = c.args.self.was.now in
    let is = c.args.self.is.now in
    record {
      of = rw c.deref.ensures.value c.in_ok-keys.ensures;
      had = takes was source;
      has = takes is source;
      were = λ s t same. ap (λ n. takes was n t) (sym (eqb-true source s same));
      are = λ s t same. ap (λ n. takes is n t) (sym (eqb-true source s same));
      moves = rw c.deref-2.ensures.value c.in_ok-moved.ensures;
    }

pub shift_keys-count-requires-clause-keys : goal.shift_keys-count-requires-clause-keys
shift_keys-count-requires-clause-keys g c = alike-can_move _ c.args.self c.take_keys-empty.new.self _ _ (alike g c) (rw c.take_keys-empty.ensures.same c.requires.counted)

pub shift_keys-count-requires-clause-settled : goal.shift_keys-count-requires-clause-settled
shift_keys-count-requires-clause-settled g c good = ap steps_in c.take_keys-empty.ensures.same ∙ c.requires.settled good

pub returns : goal.returns
returns g c =
    let step = c.shift_keys-count.ensures in
    rw c.keep_keys.ensures.same
    (subst (λ lines. AreShifted (nat_eq c.args.source) c.args.self lines c.shift_keys-count.new.lines c.shift_keys-count.result) c.take_keys-empty.ensures.same
    (alike-shifted _ c.args.self c.take_keys-empty.new.self _ _ (alike g (goal.at.returns g c).After-deref-2) c.shift_keys-count.new.lines c.shift_keys-count.result step.settled step.now step.bounded step.before step.moved))

pub returns-in_err-moved : goal.returns-in_err-moved
returns-in_err-moved g c = unshifted (nat_eq c.args.source) c.args.self c.args.lines.now _ c.from_residual.ensures.0 c.requires.settled

pub returns-in_err-keys : goal.returns-in_err-keys
returns-in_err-keys g c = rw c.take_keys-empty.ensures.same (unshifted (nat_eq c.args.source) c.args.self c.args.lines.now _ c.from_residual-in_err-keys.ensures.0 c.requires.settled)
