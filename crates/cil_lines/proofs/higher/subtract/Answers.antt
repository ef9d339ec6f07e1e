use Rattle.cil_lines.proofs.Common.{◌≡◌, ◌≤◌, ◌<◌, ◌+◌, ◌^◌, suc, ◌∙◌, ap, sym, subst, length, get_or, set, drop, bit_and, bit_xor, arith, rules, drop_of_length-le, bit_at-zero, bit_at, bits_of, limit, value}
use Rattle.cil_lines.proofs.LineLemmas.{value-set_same, drop-set}
use Rattle.cil_lines.proofs.PlaceLemmas.{limit-set}
use Rattle.cil_lines.proofs.StepLemmas.{subtract_step, borrow-place, borrow-below, borrow-above}
use Rattle.cil_lines.proofs.higher.subtract.Goals as goal

pub put-requires : goal.put-requires
put-requires g c =
    let ds = c.loop-i.digits in
    let within : c.loop-i.i < length ds = let same = c.loop-i.auto.digits in let test = c.loop-i-test.true in omega (arith, same, test) in
    let fits : c.loop-i.borrow < 2 ^ 64 = search rules in
    borrow-place ds c.loop-i.i c.args.word c.index-digits-i.result within c.loop-i.borrow fits c.if-borrow-eq0.false c.loop-i.invariant.above c.loop-i.invariant.below

pub loop-i-preserved : goal.loop-i-preserved
loop-i-preserved g c =
    let ds = c.loop-i.digits in
    let i = c.loop-i.i in
    let w = c.args.word in
    let d = c.index-digits-i.result in
    let e = c.put.new.self in
    let was = c.loop-i.invariant in
    let within : i < length ds = let same = c.loop-i.auto.digits in let test = c.loop-i-test.true in omega (arith, same, test) in
    let next : i + 1 ≡ suc i = omega arith in
    let fits : c.loop-i.borrow < 2 ^ 64 = search rules in
    let place = borrow-place ds i w d within c.loop-i.borrow fits c.if-borrow-eq0.false was.above was.below in
    let left = sym (ap (λ k. drop k (set ds i e)) next ∙ drop-set ds i e) in
    let turned = c.put.ensures.here ∙ ap (λ x. bit_xor x c.loop-i.borrow) c.bits.ensures in
    rw c.bits.ensures (record {
      above = λ b. subst (λ l. bit_at (bit_and c.loop-i.borrow (bit_xor (bits_of (get_or ds i d) w) c.loop-i.borrow)) b ≤ value l w b) left (borrow-above ds i w d within c.loop-i.borrow b (was.above b));
      below = λ b. subst (λ l. value l w b < limit l w) left (borrow-below ds i w d within place b (was.below b));
      difference = λ b. subtract_step ds i w c.loop-i.borrow b _ _ d e within turned (was.difference b);
      others = λ v b other. value-set_same ds i v b d e within (c.put.ensures.others v other) ∙ was.others v b other;
      limits = λ v. omega (arith, was.limits v, limit-set ds i v d e within (c.put.ensures.kept v));
    })

pub returns-then-borrow-eq0-clause-difference : goal.returns-then-borrow-eq0-clause-difference
returns-then-borrow-eq0-clause-difference g c b =
    let was = c.loop-i.invariant.difference b in
    let none = rw (c.if-borrow-eq0.true, bit_at-zero b) at was in
    omega (arith, none)

pub returns-clause-difference : goal.returns-clause-difference
returns-clause-difference g c b =
    let ds = c.loop-i.digits in
    let past : length ds ≤ c.loop-i.i = let same = c.loop-i.auto.digits in let test = c.loop-i-test.false in omega (arith, same, test) in
    let end = drop_of_length-le ds past in
    let above = rw end at (c.loop-i.invariant.above b) in
    let none : bit_at c.loop-i.borrow b ≡ 0 = omega (arith, above) in
    let was = c.loop-i.invariant.difference b in
    let left = rw none at was in
    omega (arith, left)
