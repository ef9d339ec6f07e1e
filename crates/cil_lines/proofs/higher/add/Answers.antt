use Rattle.cil_lines.proofs.Common.{◌≡◌, ◌≤◌, ◌+◌, suc, ◌∙◌, ap, sym, subst, length, get_or, set, drop, ◌<◌, bit_and, bit_xor, arith, bit_at-zero, bits_of, drop_of_length-le, HasRoom}
use Rattle.cil_lines.proofs.LineLemmas.{add_step, value-set_same, drop-set, room-next}
use Rattle.cil_lines.proofs.PlaceLemmas.{limit-set}
use Rattle.cil_lines.proofs.higher.add.Goals as goal

pub loop-i-preserved : goal.loop-i-preserved
loop-i-preserved g c =
    let ds = c.loop-i.digits in
    let i = c.loop-i.i in
    let d = c.index-digits-i.result in
    let was = c.loop-i.invariant in
    let within : i < length ds = let same = c.loop-i.auto.digits in let test = c.loop-i-test.true in omega (arith, same, test) in
    let next : i + 1 ≡ suc i = omega arith in
    let room = room-next ds i c.args.word c.loop-i.carry d within c.if-carry-eq0.false was.room in
    let turned = c.put.ensures.here ∙ ap (λ x. bit_xor x c.loop-i.carry) c.bits-bits.ensures in
    rw c.bits-bits.ensures (record {
      room = subst (λ l. HasRoom l c.args.word (bit_and c.loop-i.carry (bits_of (get_or ds i d) c.args.word))) (sym (ap (λ k. drop k (set ds i c.put.new.self)) next ∙ drop-set ds i c.put.new.self)) room.1;
      sum = λ b. add_step ds i c.args.word c.loop-i.carry b _ d c.put.new.self within turned (was.sum b);
      others = λ w b other. value-set_same ds i w b d c.put.new.self within (c.put.ensures.others w other) ∙ was.others w b other;
      limits = λ w. omega (arith, was.limits w, limit-set ds i w d c.put.new.self within (c.put.ensures.kept w));
    })

pub returns-then-carry-eq0-clause-sum : goal.returns-then-carry-eq0-clause-sum
returns-then-carry-eq0-clause-sum g c b =
    let was = rw (c.if-carry-eq0.true, bit_at-zero b) at (c.loop-i.invariant.sum b) in
    omega (arith, was)

pub returns-then-carry-eq0-clause-others : goal.returns-then-carry-eq0-clause-others
returns-then-carry-eq0-clause-others g c = c.loop-i.invariant.others

pub returns-clause-sum : goal.returns-clause-sum
returns-clause-sum g c b =
    let ds = c.loop-i.digits in
    let past : length ds ≤ c.loop-i.i = let same = c.loop-i.auto.digits in let test = c.loop-i-test.false in omega (arith, same, test) in
    let none : c.loop-i.carry ≡ 0 = subst (λ l. HasRoom l c.args.word c.loop-i.carry) (drop_of_length-le ds past) c.loop-i.invariant.room in
    let was = rw (none, bit_at-zero b) at (c.loop-i.invariant.sum b) in
    omega (arith, was)

pub returns-clause-others : goal.returns-clause-others
returns-clause-others g c = c.loop-i.invariant.others
