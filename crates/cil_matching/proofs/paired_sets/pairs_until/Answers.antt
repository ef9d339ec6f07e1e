use Rattle.cil_matching.proofs.Common.{◌+◌, refl, arith, IsSameSet, sets_in}
use Rattle.cil_matching.proofs.PairedLemmas.{same-more, set-pair-same}
use Rattle.cil_matching.proofs.paired_sets.pairs_until.Goals as goal

pub loop-k-init : goal.loop-k-init
loop-k-init g c = record {
  behind = omega arith;
  across = omega arith;
  same = λ m n low high is. absurd (omega (arith, low, high));
}

pub loop-k-preserved : goal.loop-k-preserved
loop-k-preserved g c =
    let x = c.numbered_at.result.now in
    let y = c.numbered_at-2.result.now in
    let a = c.numbered_at-in-loop-k.result.now in
    let b = c.numbered_at-in-loop-k-2.result.now in
    record {
      behind = let behind = c.loop-k.invariant.behind in omega (arith, behind);
      across = let across = c.loop-k.invariant.across in omega (arith, across);
      same =
          same-more IsSameSet (sets_in c.args.old.now) (sets_in c.args.new.now) (c.args.i + 1) (c.args.j + 1) c.loop-k.k c.loop-k.to c.loop-k.invariant.across
          (set-pair-same c.args.old.now c.args.new.now c.args.numbers.now c.requires.numbers (record { old = x.module; new = y.module }) c.args.i c.args.j x y refl refl c.numbered_at.ensures.stands c.numbered_at-2.ensures.stands
          c.requires.alike c.loop-k.k c.loop-k.to a b c.numbered_at-in-loop-k.ensures.stands c.numbered_at-in-loop-k-2.ensures.stands c.numbered_at-in-loop-k.ensures.within c.numbered_at-in-loop-k-2.ensures.within
          (c.is_pair.ensures c.if-not-is_pair.false))
          c.loop-k.invariant.same;
    }

pub returns-clause-same : goal.returns-clause-same
returns-clause-same g c = λ m n low high is. let past = c.loop-k-test.false in c.loop-k.invariant.same m n low (omega (arith, past, high)) is
