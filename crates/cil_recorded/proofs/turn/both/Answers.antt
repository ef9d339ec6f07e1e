use Rattle.std.proofs.Common.{◌≡◌, arith}
use Rattle.cil_recorded.proofs.TurnLemmas.{two_turns}
use Rattle.cil_recorded.specs.Log.{hit_at}
use Rattle.cil_recorded.proofs.turn.both.Goals as goal

pub returns-clause-sum : goal.returns-clause-sum
returns-clause-sum c l t =
    let x = c.args.first.now in
    let y = c.args.second.now in
    let low : hit_at x.line x.word y.low l t ≡ hit_at y.line y.word y.low l t = λ i. hit_at (c.requires.line i) (c.requires.word i) y.low l t in
    let high : hit_at x.line x.word y.high l t ≡ hit_at y.line y.word y.high l t = λ i. hit_at (c.requires.line i) (c.requires.word i) y.high l t in
    omega (arith, two_turns x.line x.word x.low y.low x.high y.high l t, low, high)
