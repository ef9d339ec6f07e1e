use Rattle.std.proofs.Common.{◌≡◌, IfOk, subst}
use Rattle.cil_violations.proofs.HeldLemmas.{short}
use Rattle.cil_violations.proofs.PairLemmas.{source-hits, source-known}
use Rattle.cil_violations.proofs.search.Search.sources.Goals as goal

pub shared-requires-clause-short : goal.shared-requires-clause-short
shared-requires-clause-short g c = short c.args.self.now.resolved.now c.args.self.now.members c.requires.search.members

pub shared-requires-clause-first : goal.shared-requires-clause-first
shared-requires-clause-first g c = source-known c.args.self.now c.requires.search c.args.never c.rule.result.now
    c.rule.ensures

pub shared-requires-clause-second : goal.shared-requires-clause-second
shared-requires-clause-second g c = source-known c.args.self.now c.requires.search c.args.allowed
    c.rule-2.result.now c.rule-2.ensures

pub returns : goal.returns
returns g c =
    subst (λ l. IfOk c.shared.result (λ list. list.items ≡ l))
    (source-hits c.args.self.now c.requires.search c.args.never c.args.allowed c.rule.result.now c.rule-2.result.now
    c.rule.ensures c.rule-2.ensures) c.shared.ensures
