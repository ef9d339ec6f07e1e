use Rattle.cil_keyed_lines.proofs.EndedLemmas.{taken_both, taken_none}
use Rattle.cil_keyed_lines.proofs.Common.{◌∙◌, arith, refl}
use Rattle.cil_keyed_lines.proofs.ended.fill_place.Goals as goal

pub loop-names-init : goal.loop-names-init
loop-names-init g c = record {
  paired = c.requires.paired;
  taken = taken_none c.args.keys.now.keys c.args.names.now;
  len = omega arith;
  others = λ p _ _. refl;
}

pub loop-names-preserved : goal.loop-names-preserved
loop-names-preserved g c =
    let is = c.loop-names.invariant in
    let out = c.take_out.ensures in
    record {
      paired = out.paired;
      taken = taken_both c.args.keys.now.keys c.loop-names.keys.keys c.take_out.new.keys.keys c.args.names.now c.loop-names.names c.take_out.new.names is.taken out.taken;
      len = omega (arith, out.len, is.len);
      others = λ p apart less. out.others p apart less ∙ is.others p apart (omega (arith, less, out.len));
    }
