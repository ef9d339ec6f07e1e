use Rattle.cil_resolve.proofs.Common.{sym, subst, AreMarked, HaveMarks}
use Rattle.cil_resolve.proofs.JudgedLemmas.{marks-of}
use Rattle.cil_resolve.proofs.judged.Judged.of_policy.Goals as goal

pub returns : goal.returns
returns g c = λ all is.
    let shown = c.in_ok-kept.ensures.kept all is.bound is.nested is.apart in
    record {
      kept = shown.set;
      are_kept = shown.are_kept;
      apart = is.apart;
      once = is.bound.once;
      bound = c.in_ok-policy.ensures all shown.set is.bound is.apart (subst (λ marks. AreMarked shown.set marks c.args.policy.rows.items all) (sym c.deref-2.ensures.value) shown.marked);
      dropped_are = c.in_ok-dropped.ensures all shown.set is.bound (subst (λ marks. HaveMarks shown.set marks all) (sym c.deref.ensures.value) (marks-of shown.set c.in_ok-kept.kept.items all shown.own));
    }
