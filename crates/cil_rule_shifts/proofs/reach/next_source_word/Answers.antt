use Rattle.std.proofs.Common.{◌<◌, ◌^◌}
use Rattle.cil_rule_shifts.specs.Groups.{has_either, is_among}
use Rattle.cil_rule_shifts.proofs.ReachLemmas.{passed-word}
use Rattle.cil_rule_shifts.proofs.reach.next_source_word.Goals as goal

pub returns-then-mask-ne0 : goal.returns-then-mask-ne0
returns-then-mask-ne0 g c =
    passed-word (is_among c.args.sources) (has_either c.args.sources) c.args.from c.loop-word.at c.in-Some.word c.mask.result c.loop-word.invariant.0 c.loop-word.invariant.1 c.in-Some.ensures
    c.mask.ensures (let fits : c.mask.result < 2 ^ 64 = c.mask.type_inv in fits) c.if-mask-ne0.true
