use Rattle.cil_member_updates.proofs.Common.{arith}
use Rattle.cil_member_updates.proofs.BitLemmas.{first-clear, first-set, first-within, none-behind}
use Rattle.cil_member_updates.proofs.masks.next_bit.Goals as goal

pub returns-then-behind-eq0-clause-clear : goal.returns-then-behind-eq0-clause-clear
returns-then-behind-eq0-clause-clear c = λ k low high. none-behind c.args.bits c.args.from c.if-behind-eq0.true k low

pub returns-clause-within : goal.returns-clause-within
returns-clause-within c = let low = first-within c.args.bits c.args.from (omega arith) c.if-behind-eq0.false in omega (arith, low)

pub returns-clause-clear : goal.returns-clause-clear
returns-clause-clear c = λ k low high. first-clear c.args.bits c.args.from (omega arith) c.if-behind-eq0.false k low high

pub returns-clause-set : goal.returns-clause-set
returns-clause-set c = λ low. first-set c.args.bits c.args.from (omega arith) c.if-behind-eq0.false
