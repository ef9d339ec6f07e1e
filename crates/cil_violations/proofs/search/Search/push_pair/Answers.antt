use Rattle.std.proofs.Common.{◌∙◌}
use Rattle.cil_violations.proofs.HeldLemmas.{short}
use Rattle.cil_violations.proofs.PairLemmas.{element-known, same-targets}
use Rattle.cil_violations.proofs.search.Search.push_pair.Goals as goal

pub shared-requires-clause-short : goal.shared-requires-clause-short
shared-requires-clause-short g c = short c.args.self.now.resolved.now c.args.self.now.members c.requires.search.members

pub shared-requires-clause-first : goal.shared-requires-clause-first
shared-requires-clause-first g c = element-known c.args.self.now c.requires.search c.args.pair.never
    c.rule-first.result.now c.rule-first.ensures c.in-Element-Element.first c.in-Element-Element.is-0

pub shared-requires-clause-second : goal.shared-requires-clause-second
shared-requires-clause-second g c = element-known c.args.self.now c.requires.search c.args.pair.allowed
    c.rule-second.result.now c.rule-second.ensures c.in-Element-Element.second c.in-Element-Element.is-1

pub push_with_targets-requires-clause-targets : goal.push_with_targets-requires-clause-targets
push_with_targets-requires-clause-targets g c =
    λ source.
    c.deref.ensures.value ∙ c.in_ok-targets-in-Element-Element.ensures
    ∙ same-targets c.args.self.now c.requires.search c.args.pair.never c.args.pair.allowed c.rule-first.result.now
    c.rule-second.result.now c.rule-first.ensures c.rule-second.ensures c.in-Element-Element.first
    c.in-Element-Element.second
    c.in-Element-Element.is-0 c.in-Element-Element.is-1 source
