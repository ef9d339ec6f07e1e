use Rattle.cil_symbols.proofs.Common.{◌≡◌, ◌∙◌, ◌+◌, ◌<◌, ◌≤◌, [], Some, length, max, slice_get, take, sym, ap, subst, inl, inr, arith, append-nil, AreNumbersOf, used_in, IsUsed}
use Rattle.std.proofs.Math.Nat.{le-max_left, le-max_right, max-le}
use Rattle.cil_bind.proofs.WordLemmas.{numbers-next}
use Rattle.cil_needs.proofs.DependentLemmas.{got-push}
use Rattle.cil_symbols.proofs.InUseLemmas.{numbers-kept}
use Rattle.cil_symbols.proofs.numbering.symbols_beside.Goals as goal

pub loop-i-preserved : goal.loop-i-preserved
loop-i-preserved g c =
    let items = c.args.resolved.now.names.items in
    let i = c.loop-i.i in
    let symbols = c.loop-i.symbols in
    let after = c.number.new.symbols in
    let numbers = c.loop-i.numbers.items in
    let is = c.loop-i.invariant in
    let number = c.in_ok-symbol.ensures in
    let many = c.names_len-i-end.ensures in
    let test = c.loop-i-test.true in
    let low : i < length items = omega (arith, many, test) in
    record {
      long = number.long;
      numbers = subst (λ l. AreNumbersOf after l (take (i + 1) items)) (sym c.in_ok-push.ensures.items)
          (numbers-next after after numbers items i c.in_ok-symbol.symbol
          (numbers-kept symbols after numbers (take i items) is.numbers (λ k s at. number.kept s (is.used k s at)))
          ([], sym (append-nil after)) low (number.number ∙ ap Some c.name.ensures));
      used = λ k s at. elim (got-push numbers c.in_ok-symbol.symbol k s (subst (λ l. slice_get l k ≡ Some s) c.in_ok-push.ensures.items at)) [
        | inl before ↦ number.still s (is.used k s before)
        | inr last ↦ subst (λ n. IsUsed c.number.new.self n) last.1 number.used
      ];
      still = λ s used. number.still s (is.still s used);
      kept = λ s used. number.kept s (is.still s used) ∙ is.kept s used;
      count = let one = number.count in let some = is.count in omega (arith, one, some);
      few =
          let before = length c.args.symbols.now in
          let used = used_in c.args.in_use.now in
          let left = le-max_left before (used + (i + 1)) in
          let right = le-max_right before (used + (i + 1)) in
          let one = number.count in
          let some = is.count in
          let was = is.few in
          let next : used + i ≤ max before (used + (i + 1)) = omega (arith, right) in
          let most = max-le left next in
          let first : length symbols ≤ max before (used + (i + 1)) = omega (arith, was, most) in
          let second : used_in c.number.new.self ≤ max before (used + (i + 1)) = omega (arith, one, some, right) in
          let now = number.few in
          let both = max-le first second in
          omega (arith, now, both);
      grown = let one = number.grown in let some = is.grown in omega (arith, one, some);
    }
