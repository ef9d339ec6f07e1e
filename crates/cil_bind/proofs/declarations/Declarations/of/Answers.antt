use Rattle.cil_bind.proofs.Common.{◌≡◌, ◌+◌, length, get_or, sym, ap, subst, arith, add-one, length-map, HaveDeclared, IsOnce, kinds_told}
use Rattle.cil_bind.proofs.DeclareLemmas.{taken-next, taken-twice, none-taken, all-taken}
use Rattle.cil_bind.proofs.AboutNamesLemmas.{after_places, IsDeclaredTo, declared-over, place-there, to-place, to-end}
use Rattle.cil_bind.proofs.declarations.Declarations.of.Goals as goal

pub loop-k-init : goal.loop-k-init
loop-k-init g c = λ names spaces policy nums are. none-taken names spaces policy _ c.in_ok-with_capacity.ensures.empty

pub declare-requires-clause-within : goal.declare-requires-clause-within
declare-requires-clause-within g c =
    let rows = c.args.rows.now in
    let less = place-there (kinds_told rows) c.args.places.now c.loop-k.k c.requires.places c.loop-k-test.true in
    let long = length-map rows (λ row. row.kind) in
    omega (arith, less, long)

pub loop-k-preserved : goal.loop-k-preserved
loop-k-preserved g c = λ names spaces policy nums are.
    let rows = c.args.rows.now in
    let places = c.args.places.now in
    let k = c.loop-k.k in
    let i = get_or places k 0 in
    let before = c.loop-k.declarations.first.entries in
    let entries = c.declare.new.self.first.entries in
    let so_far = to-place (IsDeclaredTo names spaces before policy) (kinds_told rows) places c.requires.places (declared-over names spaces rows policy before are) k c.loop-k-test.true (c.loop-k.invariant names spaces policy nums are) in
    let less = place-there (kinds_told rows) places k c.requires.places c.loop-k-test.true in
    let long = length-map rows (λ row. row.kind) in
    let next : i + 1 ≡ after_places 0 places (k + 1) = ap (after_places 0 places) (sym (add-one k)) in
    subst (IsDeclaredTo names spaces entries policy) next
    (taken-next names spaces rows policy i entries c.in_ok-declare.field-0 are (omega (arith, less, long)) so_far.1
    (c.in_ok-declare.ensures names spaces policy nums are so_far.0 so_far.1) c.if-branch.false)

pub returns-then-branch : goal.returns-then-branch
returns-then-branch g c = λ names spaces policy nums are.
    let rows = c.args.rows.now in
    let places = c.args.places.now in
    let k = c.loop-k.k in
    let before = c.loop-k.declarations.first.entries in
    let so_far = to-place (IsDeclaredTo names spaces before policy) (kinds_told rows) places c.requires.places (declared-over names spaces rows policy before are) k c.loop-k-test.true (c.loop-k.invariant names spaces policy nums are) in
    let less = place-there (kinds_told rows) places k c.requires.places c.loop-k-test.true in
    let long = length-map rows (λ row. row.kind) in (
      so_far.1,
      taken-twice names spaces rows policy (get_or places k 0) c.declare.new.self.first.entries c.in_ok-declare.field-0 are (omega (arith, less, long))
          (c.in_ok-declare.ensures names spaces policy nums are so_far.0 so_far.1) c.if-branch.true,
    )

pub returns : goal.returns
returns g c = λ names spaces policy nums are.
    let rows = c.args.rows.now in
    let places = c.args.places.now in
    let entries = c.loop-k.declarations.first.entries in
    let end : c.loop-k.k ≡ length places = omega arith in
    let all = to-end (IsDeclaredTo names spaces entries policy) (kinds_told rows) places c.requires.places (declared-over names spaces rows policy entries are) c.loop-k.k end (c.loop-k.invariant names spaces policy nums are) in
    let long = length-map rows (λ row. row.kind) in
    let whole = all-taken names spaces rows policy (length (kinds_told rows)) are (omega (arith, long)) in
    (subst (HaveDeclared names spaces entries) whole all.0, subst IsOnce whole all.1)
