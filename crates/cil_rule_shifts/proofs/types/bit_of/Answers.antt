use Rattle.std.proofs.Common.{◌%◌, ◌<◌, arith, subst, sym, nat_eq}
use Rattle.std.proofs.lemmas.Nat.{one_shl}
use Rattle.cil_rule_shifts.specs.Reach.{IsMask}
use Rattle.cil_rule_shifts.proofs.ReachLemmas.{bit-here, bit-there}
use Rattle.cil_rule_shifts.proofs.types.bit_of.Goals as goal

pub returns-then-number-word : goal.returns-then-number-word
returns-then-number-word c =
    let within : c.args.number % 64 < 64 = omega arith in
    subst (IsMask (nat_eq c.args.number) c.args.word) (sym (one_shl (c.args.number % 64) 64 within)) (bit-here c.args.number c.args.word c.if-number-word.true)

pub returns-else-number-word : goal.returns-else-number-word
returns-else-number-word c = bit-there c.args.number c.args.word c.if-number-word.false
