use Rattle.cil_resolve.proofs.Common.{◌≤◌, ◌++◌, ◌∙◌, [], length, flat_map, take, sym, ap, arith, IfOk-weaker, take_all, rows-length, there-at, dropped_if, dropped_unless, mark_of, modules_of}
use Rattle.cil_resolve.proofs.DroppedLemmas.{found-by, found-none, marked-dropped}
use Rattle.cil_resolve.proofs.StatementLemmas.{flat-one}
use Rattle.cil_resolve.proofs.dropped.dropped_optionals.Goals as goal

pub loop-i-init : goal.loop-i-init
loop-i-init g c =
    let none = found-none (modules_of c.args.joined.now) (record { optionals = c.new.result; names = c.new-2.result }) c.new.ensures.items c.new-2.ensures.items in
    record { some = ([], none); all = λ policy set bound marks. none }

pub loop-i-preserved : goal.loop-i-preserved
loop-i-preserved g c =
    let p = c.args.policy.now in
    let modules = modules_of c.args.joined.now in
    let i = c.loop-i.i in
    record {
      some =
          let (policy, bound) = c.requires in
          let long = rows-length p.names p.lookup.namespaces p.rows.items policy bound.stands.rows_are in
          let (s, at) = there-at policy i (omega (arith, long)) in
          let (before, are) = c.loop-i.invariant.some in
          (before ++ dropped_unless (mark_of c.args.kept.now i) s, c.in_ok-add_dropped.ensures policy s before bound at are);
      all = λ policy set bound marks.
          let long = rows-length p.names p.lookup.namespaces p.rows.items policy bound.stands.rows_are in
          let (s, at) = there-at policy i (omega (arith, long)) in
          let before = flat_map (dropped_if set) (take i policy) in
          let more = ap (λ d. before ++ d) (marked-dropped set c.args.kept.now policy i s marks at) ∙ sym (flat-one (dropped_if set) policy i s at) in
          found-by modules _ _ _ more (c.in_ok-add_dropped.ensures policy s before bound at (c.loop-i.invariant.all policy set bound marks));
    }

pub with_names-requires : goal.with_names-requires
with_names-requires g c =
    let (declared, are) = c.loop-i.invariant.some in
    (modules_of c.args.joined.now, declared, are)

pub returns : goal.returns
returns g c =
    let p = c.args.policy.now in
    let modules = modules_of c.args.joined.now in
    IfOk-weaker c.with_names.result _ _
    (λ dropped are policy set bound marks.
    let long = rows-length p.names p.lookup.namespaces p.rows.items policy bound.stands.rows_are in
    let past : length policy ≤ c.loop-i.i = omega (arith, long) in
    are modules (flat_map (dropped_if set) (take c.loop-i.i policy)) (c.loop-i.invariant.all policy set bound marks) ∙ ap (flat_map (dropped_if set)) (take_all c.loop-i.i policy past))
    c.with_names.ensures
