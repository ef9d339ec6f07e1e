use Rattle.cil_violations.proofs.Common.{◌≡◌, ◌∙◌, ◌++◌, [], cond, codes, sym, ap, subst, OnErr, GainsFront, name_text, shared_text}
use Rattle.cil_violations.proofs.line.write_permission.Goals as goal

pub returns-then-is_among-clause-err : goal.returns-then-is_among-clause-err
returns-then-is_among-clause-err g c =
    let text : c.name.result.now ++ codes " " ≡ shared_text c.args.resolved.now c.args.others.now c.args.permission =
    ap (λ n. n ++ codes " ") c.name.ensures ∙ sym (ap (λ b. cond b (name_text c.args.resolved.now c.args.permission) []) (sym c.is_among.ensures ∙ c.if-is_among.true)) in
    subst (λ l. OnErr c.write_pieces.result (GainsFront (g.W.Sink.taken c.args.sink.now) (g.W.Sink.taken c.write_pieces.new.sink) l)) text c.write_pieces.ensures.err
