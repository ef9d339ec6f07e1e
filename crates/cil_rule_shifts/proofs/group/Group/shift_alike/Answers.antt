use Rattle.cil_rule_shifts.proofs.Common.{◌≡◌, ◌∙◌, ℕ, eqb-true, length, sym, vec_len, is_among, takes}
use Rattle.cil_rule_shifts.proofs.KeyLemmas.{same-shifted, unshifted}
use Rattle.cil_rule_shifts.proofs.MoveLemmas.{same-moved}
use Rattle.cil_rule_shifts.proofs.group.Group.shift_alike.Given as given
use Rattle.cil_rule_shifts.proofs.group.Group.shift_alike.Goals as goal
use Rattle.cil_rule_shifts.proofs.group.Group.shift_alike.Goals.{After-drop-moved}

pub returns-in_err-moved : goal.returns-in_err-moved
returns-in_err-moved g c = unshifted (is_among c.args.self.sources) c.args.self c.args.lines.now _ c.from_residual.ensures.0 c.requires.group.settled

-- where nothing moves, the targets are the same
same : (g : given.Over) (c : After-drop-moved g) → (s t : ℕ) → takes c.args.self.was.now s t ≡ takes c.args.self.is.now s t
same g c s t =
    let none : length c.in_ok-moved.moved.items ≡ 0 = sym c.in_ok-moved.moved.ok.0 ∙ eqb-true (vec_len c.in_ok-moved.moved) 0 (sym c.is_empty.ensures ∙ c.if-is_empty.true) in
    c.requires.alike s t ∙ same-moved (takes c.args.self.was.now 0) (takes c.args.self.is.now 0) c.in_ok-moved.moved.items c.in_ok-moved.ensures none t ∙ sym (c.requires.alike_now s t)

pub returns-then-is_empty : goal.returns-then-is_empty
returns-then-is_empty g c = same-shifted (is_among c.args.self.sources) c.args.self c.args.lines.now c.requires.group.settled (same g c)

pub shift_by-requires-clause-moves : goal.shift_by-requires-clause-moves
shift_by-requires-clause-moves g c = rw c.from_ref.ensures.value c.in-Some.ensures

pub shift_by-requires-2-clause-moves : goal.shift_by-requires-2-clause-moves
shift_by-requires-2-clause-moves g c = rw c.deref.ensures.value c.in_ok-moved.ensures
