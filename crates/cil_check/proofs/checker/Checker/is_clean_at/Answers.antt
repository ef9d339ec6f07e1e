use Rattle.cil_check.proofs.Common.{get_or, take, faulty_words, policy_kind_of, Twice}
use Rattle.cil_check.proofs.AskedLemmas.{reads-nothing}
use Rattle.cil_check.proofs.CheckLemmas.{checked}
use Rattle.cil_check.proofs.CleanLemmas.{clean-more, clean-at}
use Rattle.cil_check.proofs.checker.Checker.is_clean_at.Goals as goal

pub loop-kind-preserved : goal.loop-kind-preserved
loop-kind-preserved g c = λ policy s noted seen numbered at.
    let n = c.loop-kind.kind-index in
    let place = c.args.place in
    clean-more policy place s n (reads-nothing c.args.seen.now (faulty_words (policy_kind_of (get_or checked n Twice)) policy (take place policy) s) (c.in-None.ensures policy s noted seen numbered at))
    (c.loop-kind.invariant policy s noted seen numbered at)

pub returns : goal.returns
returns g c = λ is policy s noted seen numbered at. clean-at policy c.args.place s c.loop-kind.kind-index c.loop-kind-test.false (c.loop-kind.invariant policy s noted seen numbered at)
