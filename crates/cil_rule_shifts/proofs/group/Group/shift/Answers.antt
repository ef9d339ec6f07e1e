use Rattle.cil_rule_shifts.proofs.Common.{is_among}
use Rattle.cil_rule_shifts.proofs.KeyLemmas.{idle-shifted}
use Rattle.cil_rule_shifts.proofs.group.Group.shift.Goals as goal

pub returns-else-has_sources : goal.returns-else-has_sources
returns-else-has_sources g c = idle-shifted (is_among c.args.self.sources) c.args.self c.args.lines.now c.requires.settled (c.has_sources.ensures c.if-has_sources.false)
