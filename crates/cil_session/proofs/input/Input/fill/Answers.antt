use Rattle.cil_session.proofs.Common.{◌≡◌, ◌≤◌, ◌-◌, ◌∙◌, [], length, take, drop, ap, arith, on_err, Held}
use Rattle.cil_session.proofs.InputLemmas.{stops-at_once, empty-range}
use Rattle.cil_session.proofs.input.Input.fill.Goals as goal

pub returns-in_err-n-clause-stopped : goal.returns-in_err-n-clause-stopped
returns-in_err-n-clause-stopped g c =
    let account = g.S.Source.account in
    let was = c.self.inside in
    let none : take (was.end - was.start) (drop was.start was.bytes) ≡ [] = ap (λ (h : Held). h.bytes) c.self.view_is ∙ c.requires.empty in
    let within : was.end ≤ length was.bytes = omega arith in
    on_err c.from_residual.result
    (stops-at_once (account c.args.source.now) (account c.take.new.self) c.args.self.now _ c.in_err-n.ensures.err c.requires.empty c.requires.counted (empty-range was.bytes c.take.new.buffer was.start was.end none within)
    (ap (λ (h : Held). h.line_feeds) c.self.view_is))
