use Rattle.std.proofs.Common.{◌≡◌, ◌∙◌, ◌++◌, [], append-nil, get_or, ap, arith, sym}
use Rattle.std.proofs.lemmas.Grind.{common_steps}
use Rattle.cil_violations.specs.Rows.{names_in, tests_of}
use Rattle.cil_violations.proofs.PairLemmas.{no-targets, source-more}
use Rattle.cil_violations.proofs.search.Search.push_with_targets.Goals as goal

pub returns-then-is_empty : goal.returns-then-is_empty
returns-then-is_empty g c =
    let s = c.args.self.now in
    let none : c.args.targets.now ≡ [] = grind (arith, common_steps) in
    sym (ap (λ l. c.args.rows.now.items ++ l)
    (no-targets (tests_of s) (names_in s) c.args.pair.never c.args.pair.allowed
    (λ source. sym none ∙ c.requires.targets source)) ∙ append-nil c.args.rows.now.items)

pub loop-source-preserved : goal.loop-source-preserved
loop-source-preserved g c =
    source-more c.args.self.now c.args.pair c.requires.pair c.args.rows.now.items c.loop-source.rows.items c.push_rows.new.rows.items c.deref-source-items.result.now c.args.targets.now c.loop-source.source-index
    (c.deref-source-items.ensures.value ∙ c.in_ok-sources.ensures) c.loop-source-test.true (c.requires.targets (get_or c.deref-source-items.result.now c.loop-source.source-index 0)) c.loop-source.invariant c.in_ok-push_rows.ensures
