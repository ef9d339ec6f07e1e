use Rattle.cil_session.proofs.Common.{◌∙◌, ◌-◌, List, ℕ, IfOk, subst, has_ended, on_err, HasRead, IsWholeText}
use Rattle.cil_session.proofs.InputLemmas.{front-then, stops-behind_front, stops-in_front}
use Rattle.cil_session.proofs.input.Input.read_front.Goals as goal

pub returns-clause-read : goal.returns-clause-read
returns-clause-read g c =
    let account = g.S.Source.account in
    let was = c.in_ok-take_bytes.ensures.read in
    let size = rw c.if-not-branch.false at was.3 in
    let then = subst (λ n. IfOk c.skip_text.result (λ whole. (read : List ℕ) × (part : List ℕ) × HasRead (account c.take_bytes.new.source) (account c.skip_text.new.source) c.take_bytes.new.self c.skip_text.new.self read
    × IsWholeText whole (c.args.len - n) part read (has_ended (account c.skip_text.new.source)) c.skip_text.new.self.bytes)) c.min-front.ensures c.skip_text.ensures.read in
    front-then c.skip_text.result (account c.args.source.now) (account c.take_bytes.new.source) (account c.skip_text.new.source) c.args.self.now c.take_bytes.new.self c.skip_text.new.self c.args.len c.args.most was.0 c.args.text.now.items
    c.take_bytes.new.text.items (has_ended (account c.skip_text.new.source)) was.1 (size ∙ c.min-front.ensures) was.2 then

pub returns-in_err-take_bytes-clause-err : goal.returns-in_err-take_bytes-clause-err
returns-in_err-take_bytes-clause-err g c =
    let was = c.in_err-take_bytes.ensures.err in
    on_err c.from_residual.result (stops-in_front _ _ _ _ c.args.len c.args.most was.0 c.args.text.now.items _ was.1 was.2 (rw (← c.min-front.ensures) was.3))

pub returns-clause-err : goal.returns-clause-err
returns-clause-err g c =
    let was = c.in_ok-take_bytes.ensures.read in
    let size = rw c.if-not-branch.false at was.3 in
    stops-behind_front c.skip_text.result _ _ _ _ _ _ c.args.len c.args.most was.0 c.args.text.now.items _ was.1 (size ∙ c.min-front.ensures) was.2 (rw c.min-front.ensures at c.skip_text.ensures.err)
