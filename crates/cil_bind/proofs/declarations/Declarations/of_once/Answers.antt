use Rattle.cil_bind.proofs.Common.{◌≡◌, ◌+◌, length, take, get_or, sym, ap, subst, arith, add-one, length-map, HaveDeclared, kinds_told}
use Rattle.cil_bind.proofs.DeclareLemmas.{once-front, taken-once, none-taken, all-taken}
use Rattle.cil_bind.proofs.AboutNamesLemmas.{after_places, IsDeclaredTo, declared-over, place-there, to-place, to-end}
use Rattle.cil_bind.proofs.declarations.Declarations.of_once.Goals as goal

pub loop-k-init : goal.loop-k-init
loop-k-init g c = λ names spaces policy nums are once. (none-taken names spaces policy _ c.in_ok-with_capacity.ensures.empty).0

pub declare-requires-clause-within : goal.declare-requires-clause-within
declare-requires-clause-within g c =
    let rows = c.args.rows.now in
    let less = place-there (kinds_told rows) c.args.places.now c.loop-k.k c.requires.places c.loop-k-test.true in
    let long = length-map rows (λ row. row.kind) in
    omega (arith, less, long)

pub loop-k-preserved : goal.loop-k-preserved
loop-k-preserved g c = λ names spaces policy nums are once.
    let rows = c.args.rows.now in
    let places = c.args.places.now in
    let k = c.loop-k.k in
    let i = get_or places k 0 in
    let before = c.loop-k.declarations.first.entries in
    let entries = c.declare.new.self.first.entries in
    let had : IsDeclaredTo names spaces before policy (after_places 0 places k) = (c.loop-k.invariant names spaces policy nums are once, once-front policy (after_places 0 places k) once) in
    let so_far = to-place (IsDeclaredTo names spaces before policy) (kinds_told rows) places c.requires.places (declared-over names spaces rows policy before are) k c.loop-k-test.true had in
    let less = place-there (kinds_told rows) places k c.requires.places c.loop-k-test.true in
    let long = length-map rows (λ row. row.kind) in
    let next : i + 1 ≡ after_places 0 places (k + 1) = ap (after_places 0 places) (sym (add-one k)) in
    subst (λ m. HaveDeclared names spaces entries (take m policy)) next
    (taken-once names spaces rows policy i entries c.in_ok-declare.field-0 are (omega (arith, less, long)) once
    (c.in_ok-declare.ensures names spaces policy nums are so_far.0 so_far.1))

pub returns : goal.returns
returns g c = λ names spaces policy nums are once.
    let rows = c.args.rows.now in
    let places = c.args.places.now in
    let entries = c.loop-k.declarations.first.entries in
    let end : c.loop-k.k ≡ length places = omega arith in
    let had : IsDeclaredTo names spaces entries policy (after_places 0 places c.loop-k.k) = (c.loop-k.invariant names spaces policy nums are once, once-front policy (after_places 0 places c.loop-k.k) once) in
    let all = to-end (IsDeclaredTo names spaces entries policy) (kinds_told rows) places c.requires.places (declared-over names spaces rows policy entries are) c.loop-k.k end had in
    let long = length-map rows (λ row. row.kind) in
    subst (HaveDeclared names spaces entries) (all-taken names spaces rows policy (length (kinds_told rows)) are (omega (arith, long))) all.0
