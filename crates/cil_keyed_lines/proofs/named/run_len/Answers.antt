use Rattle.cil_keyed_lines.proofs.Common.{◌≡◌, arith, named_at}
use Rattle.std.proofs.lemmas.List.Elements.{All-more}
use Rattle.cil_keyed_lines.proofs.named.run_len.Goals as goal

pub loop-len-preserved : goal.loop-len-preserved
loop-len-preserved c =
    let line = (named_at c.args.places.now 0).line in
    let here : (named_at c.args.places.now c.loop-len.len).line ≡ line = omega arith in
    record {
      some = omega arith;
      within = omega arith;
      same = All-more (λ x. x.line ≡ line) c.args.places.now c.loop-len.len (record { line = 0; place = 0 }) (omega arith) c.loop-len.invariant.same here;
    }
