use Rattle.cil_session.proofs.Common.{◌≤◌, ◌++◌, ℕ, length, take, ap, length-append, rules, arith, length-take-le, on_err}
use Rattle.cil_session.proofs.InputLemmas.{reads-on, reads-then_none, stops-then_none}
use Rattle.cil_session.proofs.input.Input.skip_bytes.Goals as goal

pub loop-left-preserved : goal.loop-left-preserved
loop-left-preserved g c =
    let account = g.S.Source.account in
    let was = c.loop-left.invariant.read in
    let bytes = c.has_more.new.self.bytes in
    let n : ℕ = c.min-n.result in
    let within : n ≤ length bytes = omega (arith, ap length c.held.ensures) in
    record {
      read = (
        was.0 ++ take n bytes,
        reads-on (account c.args.source.now) (account c.loop-left.source) (account c.has_more.new.source) c.args.self.now c.loop-left.self c.has_more.new.self c.advance.new.self was.0 n was.1 c.in_ok-has_more.ensures.read within
            c.advance.ensures.bytes c.advance.ensures.line_feeds,
        omega (arith, was.2, length-append was.0 (take n bytes), length-take-le n bytes within),
      );
      failures = search rules;
    }

pub returns-then-not-branch-clause-read : goal.returns-then-not-branch-clause-read
returns-then-not-branch-clause-read g c =
    let account = g.S.Source.account in
    let was = c.loop-left.invariant.read in
    let none = c.in_ok-has_more.ensures.none c.if-not-branch.true in (
      was.0,
      reads-then_none (account c.args.source.now) (account c.loop-left.source) (account c.has_more.new.source) c.args.self.now c.loop-left.self c.has_more.new.self was.0 was.1 c.in_ok-has_more.ensures.read,
      (omega (arith, was.2), none.0, none.1),
    )

pub returns-in_err-has_more-clause-err : goal.returns-in_err-has_more-clause-err
returns-in_err-has_more-clause-err g c =
    let account = g.S.Source.account in
    let was = c.loop-left.invariant.read in
    on_err c.from_residual.result (
      was.0,
      stops-then_none (account c.args.source.now) (account c.loop-left.source) (account c.has_more.new.source) c.args.self.now c.loop-left.self c.has_more.new.self was.0 was.1 c.in_err-has_more.ensures.err,
      omega (arith, was.2),
    )
