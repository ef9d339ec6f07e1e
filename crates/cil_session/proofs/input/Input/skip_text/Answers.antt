use Rattle.cil_session.proofs.Common.{List, ℕ, Bool, Result, Ok, Err, IfOk, SourceFault, has_ended}
use Rattle.cil_session.proofs.InputLemmas.{text-then, stops-in_text}
use Rattle.cil_session.proofs.input.Input.skip_text.Goals as goal

with-part : (H : List ℕ → Type 0) (W : Bool → List ℕ → List ℕ → Type 0) (r : Result Bool SourceFault) (part : List ℕ) → IfOk r (λ whole. (read : List ℕ) × H read × W whole part read)
    → IfOk r (λ whole. (read : List ℕ) × (some : List ℕ) × H read × W whole some read)
with-part H W (Err _) part some = tt
with-part H W (Ok whole) part some = (some.0, part, some.1, some.2)

pub returns-clause-read : goal.returns-clause-read
returns-clause-read g c =
    let account = g.S.Source.account in
    let was = c.in_ok-skip_bytes.ensures.read in
    let size = rw c.if-not-branch.false at was.2 in
    with-part _ _ c.take_line_feed.result was.0
    (text-then c.take_line_feed.result (account c.args.source.now) (account c.skip_bytes.new.source) (account c.take_line_feed.new.source) c.args.self.now
    c.skip_bytes.new.self c.take_line_feed.new.self c.args.len was.0 (has_ended (g.S.Source.account c.take_line_feed.new.source)) was.1 size c.take_line_feed.ensures.yes c.take_line_feed.ensures.no)

pub returns-clause-err : goal.returns-clause-err
returns-clause-err g c =
    let account = g.S.Source.account in
    let was = c.in_ok-skip_bytes.ensures.read in
    let size = rw c.if-not-branch.false at was.2 in
    stops-in_text c.take_line_feed.result (account c.args.source.now) (account c.skip_bytes.new.source) (account c.take_line_feed.new.source) c.args.self.now c.skip_bytes.new.self c.take_line_feed.new.self c.args.len was.0 was.1 size c.take_line_feed.ensures.err
