use Rattle.std.proofs.Common.{◌∙◌, ◌<◌, get_or, length, arith, subst, sym}
use Rattle.cil_violations.specs.Rows.{names_in, tests_of}
use Rattle.cil_violations.proofs.HitLemmas.{hits-below}
use Rattle.cil_violations.proofs.PairLemmas.{source-more}
use Rattle.cil_violations.proofs.search.Search.push_by_source.Goals as goal

pub targets-requires-clause-source : goal.targets-requires-clause-source
targets-requires-clause-source g c =
    let s = c.args.self.now in
    let is = c.deref-source-items.ensures.value ∙ c.in_ok-sources.ensures in
    let test = (tests_of s).source c.args.pair.never c.args.pair.allowed in
    let low = hits-below test (names_in s) 0 c.loop-source.source-index
    (subst (λ l. c.loop-source.source-index < length l) is c.loop-source-test.true) in
    subst (λ l. get_or l c.loop-source.source-index 0 < names_in s) (sym is) (omega (arith, low))

pub loop-source-preserved : goal.loop-source-preserved
loop-source-preserved g c =
    source-more c.args.self.now c.args.pair c.requires.pair c.args.rows.now.items c.loop-source.rows.items c.push_rows.new.rows.items c.deref-source-items.result.now c.deref.result.now c.loop-source.source-index
    (c.deref-source-items.ensures.value ∙ c.in_ok-sources.ensures) c.loop-source-test.true (c.deref.ensures.value ∙ c.in_ok-targets.ensures) c.loop-source.invariant c.in_ok-push_rows.ensures
