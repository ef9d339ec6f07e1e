use Rattle.cil_optionals.proofs.Common.{◌≤◌, length, refl, sym, ◌∙◌, subst, arith, rows-length, permissions_in, HavePermissions}
use Rattle.cil_optionals.proofs.OthersLemmas.{others-none, others-all}
use Rattle.cil_optionals.proofs.others.others_by.Goals as goal

pub loop-i-init : goal.loop-i-init
loop-i-init g c = record {
  others = λ all ready permissions. others-none all c.args.policy.now.rows.items _ c.new-needs.ensures.items;
  listed = refl;
  joined = refl;
}

pub loop-i-preserved : goal.loop-i-preserved
loop-i-preserved g c = record {
  others = λ all ready permissions.
      c.in_ok-need_at.ensures.others all ready (subst (λ l. HavePermissions all (permissions_in l.now)) (sym c.loop-i.invariant.listed) permissions) (c.loop-i.invariant.others all ready permissions);
  listed = c.in_ok-need_at.ensures.listed ∙ c.loop-i.invariant.listed;
  joined = c.in_ok-need_at.ensures.joined ∙ c.loop-i.invariant.joined;
}

pub returns : goal.returns
returns g c = λ all ready permissions.
    let p = c.args.policy.now in
    let long = rows-length p.names p.lookup.namespaces p.rows.items all ready.bound.stands.rows_are in
    let past : length all ≤ c.loop-i.i = omega arith in
    others-all all p.rows.items c.loop-i.i c.loop-i.needs.items past (c.loop-i.invariant.others all ready permissions)
