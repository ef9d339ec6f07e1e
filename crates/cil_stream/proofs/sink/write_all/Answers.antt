use Rattle.std.proofs.Common.{◌≡◌, ◌-◌, ℕ, List, length, length-drop, subst, drop, take, rules, arith}
use Rattle.std.proofs.lemmas.List.{take_all}
use Rattle.cil_stream.specs.Device.{Gains}
use Rattle.cil_stream.proofs.Gaining.{gains-front}
use Rattle.cil_stream.proofs.sink.write_all.Goals as goal

pub loop-done-preserved : goal.loop-done-preserved
loop-done-preserved g c =
    let text : List ℕ = c.args.text.now in
    let rest : List ℕ = drop c.loop-done.done text in
    let whole : take (length text - c.loop-done.done) rest ≡ rest = take_all _ _ (omega (arith, length-drop c.loop-done.done text)) in
    let taken = g.W.Sink.taken in
    record {
      within = search rules;
      counted = search rules;
      so_far = gains-front (taken c.args.sink.now) (taken c.loop-done.sink) (taken c.put.new.self) text c.loop-done.done c.in_ok-done.field-0 c.loop-done.invariant.so_far
          (subst (λ (p : List ℕ). Gains (taken c.loop-done.sink) (taken c.put.new.self) (take c.in_ok-done.field-0 p)) whole c.in_ok-done.ensures.ok);
    }
