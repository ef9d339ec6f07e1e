use Rattle.cil_matching.proofs.Common.{◌∙◌, sym, subst, arith, rule_total, rule_cmp, meaning_in, IsMissedAt}
use Rattle.cil_matching.proofs.MatchedLemmas.{there-is}
use Rattle.cil_matching.proofs.MergedLemmas.{before-more, missed-at, missed-all}
use Rattle.cil_matching.proofs.rule_places.find_rule.Goals as goal

pub returns-in-Greater-clause-err : goal.returns-in-Greater-clause-err
returns-in-Greater-clause-err g c =
    let many = c.rules_len-j-end.ensures in
    let low = c.loop-j-test.true in
    let (r, here) = there-is (meaning_in c.args.old.now).rules c.args.i c.requires.within in
    let (s, there) = there-is (meaning_in c.args.new.now).rules c.loop-j.j (omega (arith, many, low)) in
    missed-at rule_cmp rule_total _ _ c.args.i c.loop-j.j r s c.args.new.now.rules_ordered here there (sym (c.order_of.ensures.order r s here there) ∙ c.in-Greater.is) c.loop-j.invariant.before

pub loop-j-preserved : goal.loop-j-preserved
loop-j-preserved g c =
    let many = c.rules_len-j-end.ensures in
    let low = c.loop-j-test.true in
    let (r, here) = there-is (meaning_in c.args.old.now).rules c.args.i c.requires.within in
    let (s, there) = there-is (meaning_in c.args.new.now).rules c.loop-j.j (omega (arith, many, low)) in
    record {
      known_are = c.order_of.ensures.known;
      before = before-more rule_cmp rule_total _ _ c.args.i c.loop-j.j r s here there (sym (c.order_of.ensures.order r s here there) ∙ c.in-Less.is) c.loop-j.invariant.before;
    }

pub returns-clause-err : goal.returns-clause-err
returns-clause-err g c =
    let olds = (meaning_in c.args.old.now).rules in
    let news = (meaning_in c.args.new.now).rules in
    let many = c.rules_len-j-end.ensures in
    let past = c.loop-j-test.false in
    subst (IsMissedAt rule_cmp olds news c.args.i) (sym c.rules_len.ensures) (missed-all rule_cmp rule_total olds news c.args.i c.loop-j.j (omega (arith, many, past)) c.loop-j.invariant.before)
