use Rattle.cil_violations.proofs.Common.{◌≡◌, ◌∙◌, IfOk, length, sym, ap, subst, true, are_both_held, is_known, symbols_in, hits}
use Rattle.cil_violations.specs.Aims.{aim_of}
use Rattle.cil_violations.proofs.HeldLemmas.{short}
use Rattle.cil_violations.proofs.PairLemmas.{aim-known, target-hits}
use Rattle.cil_violations.proofs.search.Search.targets.Goals as goal

pub shared-requires-clause-short : goal.shared-requires-clause-short
shared-requires-clause-short g c = short c.args.self.now.resolved.now c.args.self.now.members c.requires.search.members

pub shared-requires-clause-first : goal.shared-requires-clause-first
shared-requires-clause-first g c =
    subst (λ element. is_known c.args.self.now.members element ≡ true)
    (sym (c.aim-first.ensures ∙ ap (aim_of c.rule.result.now.target) c.in_ok-itself.ensures.same))
    (aim-known c.args.self.now c.requires.search c.args.never c.rule.result.now c.rule.ensures c.args.source
    c.requires.source)

pub shared-requires-clause-second : goal.shared-requires-clause-second
shared-requires-clause-second g c =
    subst (λ element. is_known c.args.self.now.members element ≡ true)
    (sym (c.aim-second.ensures ∙ ap (aim_of c.rule-2.result.now.target) c.in_ok-itself.ensures.same))
    (aim-known c.args.self.now c.requires.search c.args.allowed c.rule-2.result.now c.rule-2.ensures c.args.source
    c.requires.source)

pub returns : goal.returns
returns g c =
    let m = c.args.self.now.members in
    let first = c.aim-first.ensures ∙ ap (aim_of c.rule.result.now.target) c.in_ok-itself.ensures.same in
    let second = c.aim-second.ensures ∙ ap (aim_of c.rule-2.result.now.target) c.in_ok-itself.ensures.same in
    subst (λ l. IfOk c.shared.result (λ list. list.items ≡ l))
    ((λ i. hits (are_both_held m (first i) (second i)) 0 (length (symbols_in m)))
    ∙ target-hits c.args.self.now c.requires.search c.args.never c.args.allowed c.rule.result.now
    c.rule-2.result.now c.rule.ensures c.rule-2.ensures c.args.source) c.shared.ensures
