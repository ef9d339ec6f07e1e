use Rattle.std.proofs.Common.{IfSome}
use Rattle.cil_matching.proofs.Common.{◌≡◌, ◌∙◌, ◌+◌, None, Some, length, sym, ap, subst, arith, rule_total, IsSameRule, rule_cmp, meaning_in, AreSameAt, ArePlaces, AreBefore, IsFoundAt, IsMissedAt}
use Rattle.cil_matching.specs.Compared.{AreCompared}
use Rattle.cil_matching.specs.Paired.{AreSameUntil}
use Rattle.cil_matching.proofs.MatchedLemmas.{places-next}
use Rattle.cil_matching.proofs.MergedLemmas.{before-next, before-past}
use Rattle.cil_matching.proofs.PairedLemmas.{same-next, same-room}
use Rattle.cil_matching.proofs.PlaceLemmas.{rule-missed, rule-stands, same-found}
use Rattle.cil_matching.proofs.rule_places.rule_places.Goals.{then-i-until+in_ok-put, else-i-until+in-Ok+in_ok-put-in-Ok, else-i-until+in-Err+in_ok-put-in-Err}
use Rattle.cil_matching.proofs.rule_places.rule_places.Goals as goal

pub loop-i-init : goal.loop-i-init
loop-i-init g c = record {
  known_are = tt;
  places_are = record { long = ap length c.in_ok-places.ensures.items; exact = λ i j low. absurd (omega (arith, low)) };
  before = λ k x y low here there. absurd (omega (arith, low));
  same = λ k l low high is. absurd (omega (arith, high));
  room = λ low. absurd (omega (arith, low));
}

pub loop-i-preserved : goal.loop-i-preserved
loop-i-preserved g c =
    let old = c.args.old.now in
    let new = c.args.new.now in
    let olds = (meaning_in old).rules in
    let news = (meaning_in new).rules in
    let i = c.loop-i.i in
    elim c.if-i-until.branch [
      | then-i-until+in_ok-put w ↦
          let stands : AreSameAt IsSameRule olds news i c.loop-i.from = c.loop-i.invariant.same i c.loop-i.from (omega arith) w.if-i-until.true (omega arith) in
          let grown : c.if-i-until.places.items ≡ w.put.new.places.items = λ k. (w.places-is k).items in
          let same = same-next IsSameRule olds news i c.loop-i.from c.loop-i.until c.if-i-until.from c.if-i-until.until w.from-is w.until-is c.loop-i.invariant.same in
          record {
            known_are = subst (λ o. IfSome o (AreCompared old new)) (sym w.known-is) c.loop-i.invariant.known_are;
            places_are =
                places-next IsSameRule olds news i c.loop-i.places.items c.if-i-until.places.items (Some c.loop-i.from) (rule-stands olds news i c.loop-i.from new.rules_ordered c.loop-i.invariant.before stands)
                (grown ∙ w.in_ok-put.ensures) c.loop-i.invariant.places_are;
            before =
                subst (AreBefore rule_cmp olds news (i + 1)) (sym w.from-is)
                (before-past rule_cmp rule_total olds news i c.loop-i.from old.rules_ordered (same-found olds news i c.loop-i.from new.rules_ordered c.loop-i.invariant.before stands));
            same = same;
            room = same-room IsSameRule olds news (i + 1) c.if-i-until.from c.if-i-until.until same;
          }
      | else-i-until+in-Ok+in_ok-put-in-Ok w ↦
          let found : IsFoundAt rule_cmp olds news i w.in-Ok.j = w.in-Ok.ensures.ok in
          let grown : c.if-i-until.places.items ≡ w.put-in-Ok.new.places.items = λ k. (w.places-is k).items in
          let from : c.if-i-until.from ≡ w.in-Ok.j + 1 = w.from-is in
          let until : c.if-i-until.until ≡ w.pairs_until-until.result = w.until-is in
          let same : AreSameUntil IsSameRule olds news (i + 1) c.if-i-until.from c.if-i-until.until =
          λ k l low high is. w.pairs_until-until.ensures k l low (omega (arith, high, until)) (omega (arith, is, from)) in
          record {
            known_are = subst (λ o. IfSome o (AreCompared old new)) (sym w.known-is) w.find_rule.ensures.known;
            places_are =
                places-next IsSameRule olds news i c.loop-i.places.items c.if-i-until.places.items w.same.result w.same.ensures (grown ∙ w.in_ok-put-in-Ok.ensures) c.loop-i.invariant.places_are;
            before = subst (AreBefore rule_cmp olds news (i + 1)) (sym from) (before-past rule_cmp rule_total olds news i w.in-Ok.j old.rules_ordered found);
            same = same;
            room = same-room IsSameRule olds news (i + 1) c.if-i-until.from c.if-i-until.until same;
          }
      | else-i-until+in-Err+in_ok-put-in-Err w ↦
          let missed : IsMissedAt rule_cmp olds news i w.in-Err.j = w.in-Err.ensures.err in
          let grown : c.if-i-until.places.items ≡ w.put-in-Err.new.places.items = λ k. (w.places-is k).items in
          let until : c.if-i-until.until ≡ c.loop-i.until = w.until-is in
          let past = w.if-i-until.false in
          let same : AreSameUntil IsSameRule olds news (i + 1) c.if-i-until.from c.if-i-until.until =
          λ k l low high is. absurd (omega (arith, low, high, until, past)) in
          record {
            known_are = subst (λ o. IfSome o (AreCompared old new)) (sym w.known-is) w.find_rule.ensures.known;
            places_are =
                places-next IsSameRule olds news i c.loop-i.places.items c.if-i-until.places.items None (rule-missed olds news i w.in-Err.j missed) (grown ∙ w.in_ok-put-in-Err.ensures)
                c.loop-i.invariant.places_are;
            before = subst (AreBefore rule_cmp olds news (i + 1)) (sym w.from-is) (before-next rule_cmp rule_total olds news i w.in-Err.j old.rules_ordered missed.before);
            same = same;
            room = same-room IsSameRule olds news (i + 1) c.if-i-until.from c.if-i-until.until same;
          }
    ]

pub returns : goal.returns
returns g c =
    let many = c.rules_len-i-end.ensures in
    let past = c.loop-i-test.false in
    let end = c.loop-i.auto.i-end in
    subst (λ n. ArePlaces IsSameRule (meaning_in c.args.old.now).rules (meaning_in c.args.new.now).rules n c.loop-i.places.items) (omega (arith, many, past, end)) c.loop-i.invariant.places_are
