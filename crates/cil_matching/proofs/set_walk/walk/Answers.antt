use Rattle.std.proofs.Common.{IfSome}
use Rattle.cil_matching.proofs.Common.{◌≡◌, ◌∙◌, ◌+◌, Some, sym, subst, arith, same_Some, IsSameSet, sets_in, AreSameAt, AreRight}
use Rattle.cil_matching.specs.Compared.{AreCompared}
use Rattle.cil_matching.specs.Paired.{AreSameUntil}
use Rattle.cil_matching.proofs.MatchedLemmas.{right-none, right-next}
use Rattle.cil_matching.proofs.PairedLemmas.{same-next, same-room}
use Rattle.cil_matching.proofs.SetLemmas.{ok-alike}
use Rattle.cil_matching.proofs.set_walk.walk.Goals.{then-i-until+in_ok-put, else-i-until+in_ok-put-2+in-Ok, else-i-until+in_ok-put-2+in-Err}
use Rattle.cil_matching.proofs.set_walk.walk.Goals as goal

pub loop-i-init : goal.loop-i-init
loop-i-init g c = record {
  known_are = tt;
  places_are = right-none IsSameSet (sets_in c.args.old.now) (sets_in c.args.new.now) c.in_ok-places.places.items c.in_ok-places.ensures.items;
  same = λ k l low high is. absurd (omega (arith, high));
  few = λ low. absurd (omega (arith, low));
  room = λ low. absurd (omega (arith, low));
}

pub same-requires-clause-alike : goal.same-requires-clause-alike
same-requires-clause-alike g c =
    ok-alike c.args.old.now c.args.new.now c.loop-i.i c.find_from-found.result c.ok.result c.ok.ensures.value c.find_from-found.ensures.ok

pub loop-i-preserved : goal.loop-i-preserved
loop-i-preserved g c =
    let old = c.args.old.now in
    let new = c.args.new.now in
    let olds = sets_in old in
    let news = sets_in new in
    let i = c.loop-i.i in
    elim c.if-i-until.branch [
      | then-i-until+in_ok-put w ↦
          let stands : AreSameAt IsSameSet olds news i c.loop-i.next = c.loop-i.invariant.same i c.loop-i.next (omega arith) w.if-i-until.true (omega arith) in
          let grown : c.if-i-until.places.items ≡ w.put.new.places.items = λ k. (w.places-is k).items in
          let same = same-next IsSameSet olds news i c.loop-i.next c.loop-i.until c.if-i-until.next c.if-i-until.until w.next-is w.until-is c.loop-i.invariant.same in
          let few = c.loop-i.invariant.few w.if-i-until.true in
          record {
            known_are = subst (λ o. IfSome o (AreCompared old new)) (sym w.known-is) c.loop-i.invariant.known_are;
            places_are =
                right-next IsSameSet olds news i c.loop-i.places.items c.if-i-until.places.items (Some c.loop-i.next) (λ j is. subst (AreSameAt IsSameSet olds news i) (same_Some c.loop-i.next j is) stands)
                (grown ∙ w.in_ok-put.ensures) c.loop-i.invariant.places_are;
            same = same;
            few = λ low. few;
            room = λ low. let room = same-room IsSameSet olds news (i + 1) c.if-i-until.next c.if-i-until.until same low in omega (arith, room, few);
          }
      | else-i-until+in_ok-put-2+in-Ok w ↦
          let grown : c.if-i-until.places.items ≡ w.put-else-i-until.new.places.items = λ k. (w.places-is k).items in
          let next : c.if-i-until.next ≡ w.in-Ok.j + 1 = w.next-is in
          let until : c.if-i-until.until ≡ w.pairs_until-until.result = w.until-is in
          let same : AreSameUntil IsSameSet olds news (i + 1) c.if-i-until.next c.if-i-until.until =
          λ k l low high is. w.pairs_until-until.ensures.same k l low (omega (arith, high, until)) (omega (arith, is, next)) in
          let few = w.pairs_until-until.ensures.few in
          record {
            known_are = subst (λ o. IfSome o (AreCompared old new)) (sym w.known-is) w.find_from-found.ensures.known;
            places_are =
                right-next IsSameSet olds news i c.loop-i.places.items c.if-i-until.places.items w.same.result w.same.ensures.right (grown ∙ w.in_ok-put-2.ensures) c.loop-i.invariant.places_are;
            same = same;
            few = λ low. few;
            room = λ low. let room = same-room IsSameSet olds news (i + 1) c.if-i-until.next c.if-i-until.until same low in omega (arith, room, few);
          }
      | else-i-until+in_ok-put-2+in-Err w ↦
          let grown : c.if-i-until.places.items ≡ w.put-else-i-until.new.places.items = λ k. (w.places-is k).items in
          let until : c.if-i-until.until ≡ c.loop-i.until = w.until-is in
          let past = w.if-i-until.false in
          record {
            known_are = subst (λ o. IfSome o (AreCompared old new)) (sym w.known-is) w.find_from-found.ensures.known;
            places_are =
                right-next IsSameSet olds news i c.loop-i.places.items c.if-i-until.places.items w.same.result w.same.ensures.right (grown ∙ w.in_ok-put-2.ensures) c.loop-i.invariant.places_are;
            same = λ k l low high is. absurd (omega (arith, low, high, until, past));
            few = λ low. absurd (omega (arith, low, until, past));
            room = λ low. absurd (omega (arith, low, until, past));
          }
    ]

pub returns : goal.returns
returns g c =
    let many = c.sets_len-i-end.ensures in
    let past = c.loop-i-test.false in
    let end = c.loop-i.auto.i-end in
    subst (λ n. AreRight IsSameSet (sets_in c.args.old.now) (sets_in c.args.new.now) n c.loop-i.places.items) (omega (arith, many, past, end)) c.loop-i.invariant.places_are
