use Rattle.cil_parse.proofs.Common.{arith}
use Rattle.cil_parse.proofs.PlainLemmas.{front-none, front-next, front-stops}
use Rattle.cil_parse.proofs.builder.Builder.names_in_front.Goals as goal

pub loop-i-init : goal.loop-i-init
loop-i-init g c = front-none c.args.self.now c.args.elements.now

pub loop-i-preserved : goal.loop-i-preserved
loop-i-preserved g c =
    front-next c.args.self.now c.loop-i.self c.word.new.self c.args.elements.now c.loop-i.i c.index-elements-i.result c.in-Name.word c.loop-i-test.true c.index-elements-i.is c.in-Name.is c.loop-i.invariant c.in_ok-word-in-Name.ensures

pub returns-in_default : goal.returns-in_default
returns-in_default g c = record {
  names = c.loop-i.invariant;
  within = omega (arith, c.loop-i-test.true);
  stops = λ less. front-stops c.args.self.now c.loop-i.self c.args.elements.now c.loop-i.i c.index-elements-i.result c.loop-i-test.true c.index-elements-i.is c.in_default.not-Name c.loop-i.invariant;
}
