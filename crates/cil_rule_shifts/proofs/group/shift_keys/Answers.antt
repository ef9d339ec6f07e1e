use Rattle.std.proofs.Common.{◌≡◌, ◌∙◌, [], length, refl, sym, arith, eqb-true}
use Rattle.std.proofs.lemmas.List.{nil_from_length}
use Rattle.cil_rule_shifts.proofs.group.shift_keys.Given as given
use Rattle.cil_rule_shifts.proofs.group.shift_keys.Goals as goal
use Rattle.cil_rule_shifts.proofs.group.shift_keys.Goals.{Then-is_empty}

-- nothing moves
none : (g : given.Over) (c : Then-is_empty g) → c.args.moved.now ≡ []
none g c = nil_from_length c.args.moved.now (eqb-true (length c.args.moved.now) 0 (sym c.is_empty.ensures ∙ c.if-is_empty.true))

pub returns-then-is_empty-clause-now : goal.returns-then-is_empty-clause-now
returns-then-is_empty-clause-now g c = rw (none g c) (λ k t. refl)

pub returns-then-is_empty-clause-bounded : goal.returns-then-is_empty-clause-bounded
returns-then-is_empty-clause-bounded g c = λ k t. omega arith

pub returns-then-is_empty-clause-moved : goal.returns-then-is_empty-clause-moved
returns-then-is_empty-clause-moved g c = rw (none g c) (omega arith)
