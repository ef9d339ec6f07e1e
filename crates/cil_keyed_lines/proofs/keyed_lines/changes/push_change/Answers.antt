use Rattle.cil_keyed_lines.proofs.Common.{◌+◌, ◌^◌, ◌<◌, arith, bit_and, rules, sym, w64}
use Rattle.std.specs.Int.{bit_not}
use Rattle.cil_recorded.specs.declared.recorded_lines.changes.Change.{Change}
use Rattle.cil_keyed_lines.proofs.ChangeLemmas.{below-push, below-word, hit-same, mask-push}
use Rattle.cil_keyed_lines.proofs.keyed_lines.changes.push_change.Goals as goal

pub returns-then-was-is : goal.returns-then-was-is
returns-then-was-is g c =
    let same = c.if-was-is.true in
    let was_fits : c.args.was < 2 ^ 64 = search rules in
    let is_fits : c.args.is < 2 ^ 64 = search rules in
    record {
      below = below-word c.args.changes.now.items c.args.place c.args.word (c.args.word + 1) (omega arith) c.requires;
      appeared = λ l t. let none = hit-same c.args.place c.args.word c.args.is c.args.was l t (sym same) was_fits in omega (arith, none);
      gone = λ l t. let none = hit-same c.args.place c.args.word c.args.was c.args.is l t same is_fits in omega (arith, none);
    }

pub returns : goal.returns
returns g c =
    let old = c.args.changes.now.items in
    let new = c.push.new.self.items in
    let was = c.args.was in
    let is = c.args.is in
    let change : Change = record { line = c.args.place; word = c.args.word; appeared = bit_and is (bit_not w64 was); gone = bit_and was (bit_not w64 is) } in
    let pushed = c.in_ok-push.ensures.items in
    record {
      below = below-push old new change pushed c.requires;
      appeared = λ l t. mask-push (λ d. d.appeared) old new change l t pushed;
      gone = λ l t. mask-push (λ d. d.gone) old new change l t pushed;
    }
