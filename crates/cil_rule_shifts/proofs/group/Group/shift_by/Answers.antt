use Rattle.cil_rule_shifts.proofs.Common.{◌∙◌, ap, is_among, steps_in, subst, takes}
use Rattle.cil_rule_shifts.proofs.KeyLemmas.{alike-can_move, alike-shifted, unshifted, AreAlike}
use Rattle.cil_rule_shifts.specs.Groups.{AreShifted}
use Rattle.cil_rule_shifts.proofs.group.Group.shift_by.Given as given
use Rattle.cil_rule_shifts.proofs.group.Group.shift_by.Goals as goal
use Rattle.cil_rule_shifts.proofs.group.Group.shift_by.Goals.{After-deref}

-- the keys are those of all sources
alike : (g : given.Over) (c : After-deref g) → AreAlike (is_among c.args.self.sources) c.args.self.head c.deref.result.now c.args.moved.now c.args.self.was.now c.args.self.is.now
alike g c =
    let was = c.args.self.was.now in
    let is = c.args.self.is.now in
    record {
      of = rw c.deref.ensures.value c.in_ok-keys.ensures;
      had = takes was 0;
      has = takes is 0;
      were = λ s t _. c.requires.alike s t;
      are = λ s t _. c.requires.alike_now s t;
      moves = c.requires.moves;
    }

pub shift_keys-count-requires-clause-keys : goal.shift_keys-count-requires-clause-keys
shift_keys-count-requires-clause-keys g c = alike-can_move _ c.args.self c.take_keys-empty.new.self _ _ (alike g c) (rw c.take_keys-empty.ensures.same c.requires.group.counted)

pub shift_keys-count-requires-clause-settled : goal.shift_keys-count-requires-clause-settled
shift_keys-count-requires-clause-settled g c good = ap steps_in c.take_keys-empty.ensures.same ∙ c.requires.group.settled good

pub returns : goal.returns
returns g c =
    let step = c.shift_keys-count.ensures in
    rw c.keep_keys.ensures.same
    (subst (λ lines. AreShifted (is_among c.args.self.sources) c.args.self lines c.shift_keys-count.new.lines c.shift_keys-count.result) c.take_keys-empty.ensures.same
    (alike-shifted _ c.args.self c.take_keys-empty.new.self _ _ (alike g (goal.at.returns g c).After-deref) c.shift_keys-count.new.lines c.shift_keys-count.result step.settled step.now step.bounded step.before step.moved))

pub returns-in_err-keys : goal.returns-in_err-keys
returns-in_err-keys g c = rw c.take_keys-empty.ensures.same (unshifted (is_among c.args.self.sources) c.args.self c.args.lines.now _ c.from_residual.ensures.0 c.requires.group.settled)
