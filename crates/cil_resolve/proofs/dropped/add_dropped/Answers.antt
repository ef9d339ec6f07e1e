use Rattle.cil_resolve.proofs.Common.{◌≡◌, ◌<◌, ◌++◌, ◌∙◌, [], length, length-map, rules, sym, ap, arith, rows-length, there-at, dropped_unless, mark_of, modules_of}
use Rattle.cil_parse.specs.Forms.{kind_of}
use Rattle.cil_bind.specs.Scope.{is_optional_kind}
use Rattle.cil_bind.proofs.BindingLemmas.{kind-at}
use Rattle.cil_bind.proofs.ScopeLemmas.{kind-optional}
use Rattle.cil_resolve.proofs.DroppedLemmas.{found-by, found-same, row-here, row-optional, one-dropped, kept-none, other-none}
use Rattle.cil_resolve.proofs.dropped.add_dropped.Goals as goal
use Rattle.cil_resolve.proofs.dropped.add_dropped.Goals.{else-row-via-then-row+else-not-is_marked, else-row-via-else-row}

pub index-requires : goal.index-requires
index-requires g c =
    let (policy, bound) = c.requires.is in
    let p = c.args.policy.now in
    let long = rows-length p.names p.lookup.namespaces p.rows.items policy bound.stands.rows_are in
    let kinds = ap length bound.kinds ∙ length-map policy (λ s. kind_of s.form) in
    let within = c.requires.within in
    let low : c.args.i < length p.kinds.items = omega arith in
    search rules

pub returns-then-not-is_optional : goal.returns-then-not-is_optional
returns-then-not-is_optional g c = λ policy s before bound at are.
    let mark = mark_of c.args.kept.now c.args.i in
    let kind = c.index.ensures ∙ kind-at policy c.args.policy.now.kinds.items c.args.i s _ bound.kinds at in
    let other = sym (kind-optional s.form) ∙ ap is_optional_kind (sym kind) ∙ sym c.is_optional.ensures ∙ c.if-not-is_optional.true in
    found-same (modules_of c.args.joined.now) c.args.found.now before (dropped_unless mark s) (other-none mark s other) are

pub add_optional-requires-clause-is : goal.add_optional-requires-clause-is
add_optional-requires-clause-is g c =
    let (policy, bound) = c.requires.is in
    let p = c.args.policy.now in
    let row = c.index-row.result.now in
    let long = rows-length p.names p.lookup.namespaces p.rows.items policy bound.stands.rows_are in
    let low = c.requires.within in
    let (s, at) = there-at policy c.args.i (omega (arith, long, low)) in
    let here = row-here p.rows.items c.args.i row low c.index-row.ensures in
    (policy, (c.args.i, s, bound, here, at, sym (row-optional p c.args.joined.now.modules.items policy c.args.i row s bound here at) ∙ c.if-row.true))

pub returns-in_ok-add_optional : goal.returns-in_ok-add_optional
returns-in_ok-add_optional g c = λ policy s before bound at are.
    let p = c.args.policy.now in
    let row = c.index-row.result.now in
    let here = row-here p.rows.items c.args.i row c.requires.within c.index-row.ensures in
    let is = sym (row-optional p c.args.joined.now.modules.items policy c.args.i row s bound here at) ∙ c.if-row.true in
    let dropped = one-dropped (mark_of c.args.kept.now c.args.i) s is (sym c.is_marked.ensures ∙ c.if-not-is_marked.true) in
    found-by (modules_of c.args.joined.now) _ _ _ (ap (λ d. before ++ d) (sym dropped)) (c.in_ok-add_optional.ensures policy c.args.i s before bound here at is are)

pub returns-else-row : goal.returns-else-row
returns-else-row g c = λ policy s before bound at are.
    let p = c.args.policy.now in
    let row = c.index-row.result.now in
    let here = row-here p.rows.items c.args.i row c.requires.within c.index-row.ensures in
    let same = row-optional p c.args.joined.now.modules.items policy c.args.i row s bound here at in
    let mark = mark_of c.args.kept.now c.args.i in
    let none : dropped_unless mark s ≡ [] =
    elim c.else-row.branch [
      | else-row-via-then-row+else-not-is_marked w ↦ kept-none mark s (sym same ∙ w.if-row.true) (sym w.is_marked.ensures ∙ w.if-not-is_marked.false)
      | else-row-via-else-row w ↦ other-none mark s (sym same ∙ w.if-row.false)
    ] in
    found-same (modules_of c.args.joined.now) c.args.found.now before (dropped_unless mark s) none are
