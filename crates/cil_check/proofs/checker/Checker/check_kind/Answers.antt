use Rattle.cil_check.proofs.Common.{◌≤◌, length, take, arith, sym, IsFaultOf, faulty_words, IsLeast, policy_kind_of, fault_at}
use Rattle.std.proofs.Common.{slice_get}
use Rattle.cil_check.proofs.CheckLemmas.{first-some, found-is}
use Rattle.cil_check.proofs.LeastLemmas.{none-faulty-first, none-faulty-next, none-faulty-end, least-at}
use Rattle.cil_check.proofs.SeenLemmas.{there-at}
use Rattle.cil_check.proofs.AskedLemmas.{reads-word, reads-nothing}
use Rattle.cil_check.proofs.checker.Checker.check_kind.Goals as goal

pub loop-i-init : goal.loop-i-init
loop-i-init g c = λ policy noted. none-faulty-first (policy_kind_of c.args.kind) policy

pub seen-seen-requires : goal.seen-seen-requires
seen-seen-requires g c =
    let count = c.len-i-end.ensures c.requires.ready.0 c.requires.ready.1.is in
    record { is = (c.requires.ready.0, c.requires.ready.1.is, omega (arith, count)) }

pub faulty_word-requires : goal.faulty_word-requires
faulty_word-requires g c =
    let (policy, noted) = c.requires.ready in
    let (s, at) = there-at policy c.loop-i.i (omega (arith, c.len-i-end.ensures policy noted.is)) in
    record { ready = (policy, s, noted, c.seen-seen.ensures.seen policy s noted.is at, at); kind = c.requires.kind; straight = c.requires.straight }

pub fault-requires : goal.fault-requires
fault-requires g c =
    let (policy, noted) = c.requires.ready in
    let (s, at) = there-at policy c.loop-i.i (omega (arith, c.len-i-end.ensures policy noted.is)) in
    let seen = c.seen-seen.ensures.seen policy s noted.is at in
    let found = reads-word c.seen-seen.result c.in-Some.word _ (c.in-Some.ensures policy s noted seen (c.seen-seen.ensures.worded policy noted.is) at) in
    (found.0, found.2)

pub returns-in-Some : goal.returns-in-Some
returns-in-Some g c = record {
  ok = tt;
  err = λ policy noted.
      let kind = policy_kind_of c.args.kind in
      let (s, at) = there-at policy c.loop-i.i (omega (arith, c.len-i-end.ensures policy noted.is)) in
      let seen = c.seen-seen.ensures.seen policy s noted.is at in
      let found = reads-word c.seen-seen.result c.in-Some.word (slice_get (faulty_words kind policy (take c.loop-i.i policy) s) 0) (c.in-Some.ensures policy s noted seen (c.seen-seen.ensures.worded policy noted.is) at) in
      let first = first-some (faulty_words kind policy (take c.loop-i.i policy) s) found.0 (sym found.1) in
      found-is c.fault.result (IsLeast (IsFaultOf kind policy)) (fault_at kind s found.0) (c.fault.ensures policy s found.0 seen found.2)
      (least-at kind policy c.loop-i.i s found.0 first.0 noted.is.ordered at (c.loop-i.invariant policy noted) first.1);
}

pub loop-i-preserved : goal.loop-i-preserved
loop-i-preserved g c = λ policy noted.
    let kind = policy_kind_of c.args.kind in
    let (s, at) = there-at policy c.loop-i.i (omega (arith, c.len-i-end.ensures policy noted.is)) in
    let seen = c.seen-seen.ensures.seen policy s noted.is at in
    none-faulty-next kind policy c.loop-i.i s at (reads-nothing c.seen-seen.result (faulty_words kind policy (take c.loop-i.i policy) s) (c.in_default.ensures policy s noted seen (c.seen-seen.ensures.worded policy noted.is) at)) (c.loop-i.invariant policy noted)

pub returns : goal.returns
returns g c = record {
  ok = λ policy noted.
      let count = c.len-i-end.ensures policy noted.is in
      let past : length policy ≤ c.loop-i.i = omega (arith, count) in
      none-faulty-end (policy_kind_of c.args.kind) policy (λ j less s at. c.loop-i.invariant policy noted j (omega (arith, less, past)) s at);
  err = tt;
}
