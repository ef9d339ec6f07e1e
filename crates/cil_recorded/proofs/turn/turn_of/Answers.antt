use Rattle.std.proofs.Common.{◌≡◌, ◌*◌, ap, if◌then◌else◌, arith}
use Rattle.cil_recorded.proofs.LogLemmas.{hit_nothing}
use Rattle.cil_recorded.specs.Log.{hit_at, turned_by}
use Rattle.cil_recorded.proofs.turn.turn_of.Goals as goal

pub returns-then-step : goal.returns-then-step
returns-then-step c l t =
    let s = c.args.step.now in
    let is : turned_by s l t ≡ hit_at s.line s.word s.turned l t = ap (λ up. if up then hit_at s.line s.word s.turned l t else 3 * hit_at s.line s.word s.turned l t) c.if-step.true in
    rw (c.in_ok-in_32_bits.ensures.same, c.in_ok-in_32_bits-2.ensures.same) (omega (arith, is, hit_nothing s.line s.word l t))
