use Rattle.cil_resolve.proofs.Common.{◌≡◌, ◌<◌, ◌+◌, Some, set, length, sym, ap, subst, arith, refl, take, take_all, slice_get_read, slice_get_within, AreGathered}
use Rattle.std.proofs.Common.{slice_get}
use Rattle.cil_resolve.proofs.GatheredLemmas.{gathered-more}
use Rattle.cil_bind.proofs.PositionLemmas.{take-last}
use Rattle.cil_resolve.proofs.StatementLemmas.{contained}
use Rattle.cil_resolve.proofs.gathering.gathered.Goals as goal
use Rattle.cil_resolve.proofs.gathering.gathered.Goals.{in-Some+in_ok-add, in_default}

pub loop-statement-init : goal.loop-statement-init
loop-statement-init g c = c.in_ok-lists.ensures

pub place_of-requires : goal.place_of-requires
place_of-requires g c = c.requires.rising

pub index_mut-requires : goal.index_mut-requires
index_mut-requires g c =
    let within = slice_get_within c.args.numbers.now c.in-Some.place c.statement-item.result.set c.in-Some.ensures.some in
    let long = c.loop-statement.invariant.long in
    omega (arith, within, long)

pub loop-statement-preserved : goal.loop-statement-preserved
loop-statement-preserved g c =
    let statements = c.args.statements.now in
    let numbers = c.args.numbers.now in
    let lists = c.loop-statement.lists.items in
    let i = c.loop-statement.statement-index in
    let t = c.statement-item.result in
    let at : slice_get statements i ≡ Some t = slice_get_read statements (length statements) i t refl c.loop-statement-test.true c.statement-item.is in
    elim c.match-place_of.branch [
      | in-Some+in_ok-add w ↦
          let place = w.in-Some.place in
          let v = w.index_mut.result.now in
          let found = w.in-Some.ensures.some in
          let low : place < length lists = (let within = slice_get_within numbers place t.set found in let long = c.loop-statement.invariant.long in omega (arith, within, long)) in
          let here : slice_get lists place ≡ Some v = slice_get_read lists (length lists) place v refl low w.index_mut.ensures.value in
          subst (λ l. AreGathered (take (i + 1) statements) numbers l) (ap (λ l. l.items) (sym w.lists-is))
          (subst (λ some. AreGathered some numbers (set lists place w.add.new.list)) (sym (take-last statements i t at))
          (gathered-more (take i statements) t numbers lists place v w.add.new.list c.requires.rising found here w.in_ok-add.ensures c.loop-statement.invariant))
      | in_default w ↦ absurd (w.in_default.ensures.none (c.requires.all t (contained statements i t at)))
    ]

pub returns : goal.returns
returns g c =
    subst (λ some. AreGathered some c.args.numbers.now c.loop-statement.lists.items) (take_all c.loop-statement.statement-index c.args.statements.now c.loop-statement-test.false)
    c.loop-statement.invariant
