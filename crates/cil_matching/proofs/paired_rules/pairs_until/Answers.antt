use Rattle.cil_matching.proofs.Common.{◌∙◌, ◌+◌, Some, sym, ap, arith, get_or, slice_get, slice_get-get_or, IsSameRule, meaning_in}
use Rattle.cil_resolve.specs.Numbers.{rule_of}
use Rattle.cil_resolve.specs.declared.numbered.NumberedRule.{NumberedRule}
use Rattle.cil_matching.proofs.MatchedLemmas.{to-mapped}
use Rattle.cil_matching.proofs.PairedLemmas.{pair-same, same-more}
use Rattle.cil_matching.proofs.PlaceLemmas.{read-no-list, read-rule}
use Rattle.cil_matching.proofs.paired_rules.pairs_until.Goals as goal

pub is_pair-requires-clause-rule : goal.is_pair-requires-clause-rule
is_pair-requires-clause-rule g c =
    read-no-list c.args.old.now c.loop-k.k c.index-rules-k.result
    (ap (λ l. slice_get l c.loop-k.k) (sym c.rules-rules.ensures.rules) ∙ slice_get-get_or c.rules-rules.result.now c.loop-k.k c.index-rules-k.result (omega arith) ∙ ap Some (sym c.index-rules-k.is))

pub is_pair-requires-clause-other : goal.is_pair-requires-clause-other
is_pair-requires-clause-other g c =
    read-no-list c.args.new.now c.loop-k.to c.index-others-to.result
    (ap (λ l. slice_get l c.loop-k.to) (sym c.rules-others.ensures.rules) ∙ slice_get-get_or c.rules-others.result.now c.loop-k.to c.index-others-to.result (omega arith) ∙ ap Some (sym c.index-others-to.is))

pub loop-k-init : goal.loop-k-init
loop-k-init g c = record {
  across = omega arith;
  same = λ m n low high is. absurd (omega (arith, low, high));
}

pub loop-k-preserved : goal.loop-k-preserved
loop-k-preserved g c =
    let old = c.args.old.now in
    let new = c.args.new.now in
    let x = c.index-rules-i.result in
    let y = c.index-others-j.result in
    let a = c.index-rules-k.result in
    let b = c.index-others-to.result in
    let here = read-rule old c.args.i x c.rules-rules.result.now c.requires.within c.rules-rules.ensures.rules c.index-rules-i.is in
    let there = read-rule new c.args.j y c.rules-others.result.now c.requires.found.within c.rules-others.ensures.rules c.index-others-j.is in
    let alike =
    c.requires.found.alike (rule_of old.modules.items old.names.items x) (rule_of new.modules.items new.names.items y) (to-mapped (rule_of old.modules.items old.names.items) old.rules.items c.args.i x here)
    (to-mapped (rule_of new.modules.items new.names.items) new.rules.items c.args.j y there) in
    let mine = ap (λ l. slice_get l c.loop-k.k) (sym c.rules-rules.ensures.rules) ∙ slice_get-get_or c.rules-rules.result.now c.loop-k.k a (omega arith) ∙ ap Some (sym c.index-rules-k.is) in
    let its = ap (λ l. slice_get l c.loop-k.to) (sym c.rules-others.ensures.rules) ∙ slice_get-get_or c.rules-others.result.now c.loop-k.to b (omega arith) ∙ ap Some (sym c.index-others-to.is) in
    record {
      across = let across = c.loop-k.invariant.across in omega (arith, across);
      same =
          same-more IsSameRule (meaning_in old).rules (meaning_in new).rules (c.args.i + 1) (c.args.j + 1) c.loop-k.k c.loop-k.to c.loop-k.invariant.across
          (pair-same old new c.args.numbers.now c.requires.numbers (record { old = (get_or c.rules-rules.result.now c.args.i x).module; new = (get_or c.rules-others.result.now c.args.j y).module }) x y a b
          (ap (λ (r : NumberedRule g.row.A.Denot). r.module) (sym c.index-rules-i.is)) (ap (λ (r : NumberedRule g.row.A.Denot). r.module) (sym c.index-others-j.is)) alike c.loop-k.k c.loop-k.to mine its (c.is_pair.ensures c.if-not-is_pair.false))
          c.loop-k.invariant.same;
    }

pub returns : goal.returns
returns g c = λ m n low high is. let past = c.loop-k-test.false in c.loop-k.invariant.same m n low (omega (arith, past, high)) is
