use Rattle.cil_session.proofs.Common.{◌≡◌, ◌++◌, ◌∷◌, ◌∙◌, [], subst, sym, ap, refl, true≢false, length, length-append, rules, arith, HasRead, on_err}
use Rattle.cil_session.proofs.InputLemmas.{reads-both, stays-byte, stays-more, stops-then_none}
use Rattle.cil_session.proofs.input.Input.read_line.Goals as goal

pub returns-then-b-eq10-clause-read : goal.returns-then-b-eq10-clause-read
returns-then-b-eq10-clause-read g c =
    let account = g.S.Source.account in
    let byte = rw c.in-Some.is at c.in_ok-b.ensures.byte in (
      c.loop-b.line ++ c.in-Some.b ∷ [],
      reads-both (account c.args.source.now) (account c.loop-b.source) (account c.next.new.source) c.args.self.now c.loop-b.self c.next.new.self c.loop-b.line (c.in-Some.b ∷ []) c.loop-b.invariant.read byte,
      ap (λ b. c.loop-b.line ++ b ∷ []) c.if-b-eq10.true,
    )

pub returns-then-is_full-clause-read : goal.returns-then-is_full-clause-read
returns-then-is_full-clause-read g c =
    let account = g.S.Source.account in
    let byte = rw c.in-Some.is at c.in_ok-b.ensures.byte in (
      c.loop-b.line ++ c.in-Some.b ∷ [],
      reads-both (account c.args.source.now) (account c.loop-b.source) (account c.next.new.source) c.args.self.now c.loop-b.self c.next.new.self c.loop-b.line (c.in-Some.b ∷ []) c.loop-b.invariant.read byte,
      (c.in-Some.b, stays-byte c.in-Some.b c.if-b-eq10.false, refl, search rules),
    )

pub loop-b-preserved : goal.loop-b-preserved
loop-b-preserved g c =
    let account = g.S.Source.account in
    let byte = rw c.in-Some.is at c.in_ok-b.ensures.byte in
    let not_full : length c.loop-b.line ≡ 4096 → ⊥ = λ e. true≢false (sym (c.is_full.ensures.1 e) ∙ c.if-is_full.false) in
    record {
      read =
          subst (HasRead (account c.args.source.now) (account c.next.new.source) c.args.self.now c.next.new.self) (sym c.push.ensures)
          (reads-both (account c.args.source.now) (account c.loop-b.source) (account c.next.new.source) c.args.self.now c.loop-b.self c.next.new.self c.loop-b.line (c.in-Some.b ∷ []) c.loop-b.invariant.read byte);
      stays = rw c.push.ensures (stays-more c.loop-b.line c.in-Some.b c.loop-b.invariant.stays c.if-b-eq10.false);
      short = omega (arith, not_full, ap length c.push.ensures, length-append c.loop-b.line (c.in-Some.b ∷ []), c.loop-b.invariant.short);
      failures = search rules;
    }

pub returns-in_err-b-clause-err : goal.returns-in_err-b-clause-err
returns-in_err-b-clause-err g c =
    let account = g.S.Source.account in
    on_err c.from_residual.result
    (stops-then_none (account c.args.source.now) (account c.loop-b.source) (account c.next.new.source) c.args.self.now c.loop-b.self c.next.new.self c.loop-b.line c.loop-b.invariant.read c.in_err-b.ensures.err)
