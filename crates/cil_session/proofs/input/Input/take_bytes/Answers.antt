use Rattle.cil_session.proofs.Common.{◌≡◌, ◌≤◌, ◌∙◌, ◌++◌, ◌+◌, ℕ, length, take, ap, append_assoc, append-nil, sym, [], length-append, vec_len, is_ok, if◌then◌else◌, rules, arith, length-take-le, on_err}
use Rattle.cil_session.proofs.InputLemmas.{reads-none, reads-then_none, reads-on, stops-then_none}
use Rattle.cil_session.proofs.input.Input.take_bytes.Goals as goal

pub loop-left-init : goal.loop-left-init
loop-left-init g c = record {
  read = ([], reads-none (g.S.Source.account c.args.source.now) c.args.self.now c.requires.counted, sym (append-nil c.args.text.now.items), omega arith);
  room = search rules;
  failures = search rules;
}

pub returns-then-not-branch-clause-read : goal.returns-then-not-branch-clause-read
returns-then-not-branch-clause-read g c =
    let account = g.S.Source.account in
    let was = c.loop-left.invariant.read in
    let none = c.in_ok-has_more.ensures.none c.if-not-branch.true in (
      was.0,
      reads-then_none (account c.args.source.now) (account c.loop-left.source) (account c.has_more.new.source) c.args.self.now c.loop-left.self c.has_more.new.self was.0 was.1 c.in_ok-has_more.ensures.read,
      was.2,
      (omega (arith, was.3), none.0, none.1),
    )

pub loop-left-preserved : goal.loop-left-preserved
loop-left-preserved g c =
    let account = g.S.Source.account in
    let was = c.loop-left.invariant.read in
    let bytes = c.has_more.new.self.bytes in
    let n : ℕ = c.min-n.result in
    let within : n ≤ length bytes = omega (arith, ap length c.held-piece.ensures) in
    let piece = c.held-piece.result.now in
    let old = c.loop-left.text in
    let longer : c.extend_from_slice.new.self.items ≡ old.items ++ take n piece = c.extend_from_slice.ensures.items ∙ ap (λ r. if is_ok r then old.items ++ take n piece else old.items) c.unwrap.ensures in
    let size : vec_len c.extend_from_slice.new.self ≡ vec_len old + length (take n piece) = c.extend_from_slice.ensures.len ∙ ap (λ r. if is_ok r then vec_len old + length (take n piece) else vec_len old) c.unwrap.ensures in
    record {
      read = (
        was.0 ++ take n bytes,
        reads-on (account c.args.source.now) (account c.loop-left.source) (account c.has_more.new.source) c.args.self.now c.loop-left.self c.has_more.new.self c.advance.new.self was.0 n was.1 c.in_ok-has_more.ensures.read within
            c.advance.ensures.bytes c.advance.ensures.line_feeds,
        longer ∙ ap (λ l. l ++ take n piece) was.2 ∙ append_assoc c.args.text.now.items was.0 (take n piece) ∙ ap (λ l. c.args.text.now.items ++ (was.0 ++ take n l)) c.held-piece.ensures,
        omega (arith, was.3, length-append was.0 (take n bytes), length-take-le n bytes within),
      );
      room = omega (arith, size, length-take-le n piece (omega arith), c.extend_from_slice.ensures.capacity, c.loop-left.invariant.room);
      failures = search rules;
    }

pub returns-in_err-has_more-clause-err : goal.returns-in_err-has_more-clause-err
returns-in_err-has_more-clause-err g c =
    let account = g.S.Source.account in
    let was = c.loop-left.invariant.read in
    on_err c.from_residual.result (
      was.0,
      stops-then_none (account c.args.source.now) (account c.loop-left.source) (account c.has_more.new.source) c.args.self.now c.loop-left.self c.has_more.new.self was.0 was.1 c.in_err-has_more.ensures.err,
      was.2,
      omega (arith, was.3),
    )
