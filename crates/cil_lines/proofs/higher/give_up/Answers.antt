use Rattle.std.proofs.Common.{◌∙◌, ◌<◌, length, arith}
use Rattle.cil_lines.proofs.GiveUpLemmas.{no_bits_in}
use Rattle.cil_lines.proofs.LineLemmas.{value-set_same}
use Rattle.cil_lines.proofs.PlaceLemmas.{limit-set}
use Rattle.cil_lines.proofs.higher.give_up.Goals as goal

pub give_up-requires : goal.give_up-requires
give_up-requires g c =
    let ds = c.loop-i.digits in
    let within : c.loop-i.i < length ds = let same = c.loop-i.auto.digits in let test = c.loop-i-test.true in omega (arith, same, test) in
    no_bits_in ds c.loop-i.i c.args.word c.index-digits-i.result within (λ b. c.loop-i.invariant.now c.args.word b ∙ c.requires b)

pub loop-i-preserved : goal.loop-i-preserved
loop-i-preserved g c =
    let ds = c.loop-i.digits in
    let i = c.loop-i.i in
    let d = c.index-digits-i.result in
    let e = c.give_up.new.self in
    let was = c.loop-i.invariant in
    let within : i < length ds = let same = c.loop-i.auto.digits in let test = c.loop-i-test.true in omega (arith, same, test) in
    record {
      now = λ w b. value-set_same ds i w b d e within (c.give_up.ensures.bits w) ∙ was.now w b;
      limits = λ w other. let more = limit-set ds i w d e within (c.give_up.ensures.kept w other) in omega (arith, was.limits w other, more);
    }

pub returns-clause-now : goal.returns-clause-now
returns-clause-now g c = c.loop-i.invariant.now

pub returns-clause-limits : goal.returns-clause-limits
returns-clause-limits g c = c.loop-i.invariant.limits
