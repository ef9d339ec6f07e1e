use Rattle.cil_keyed_lines.proofs.Common.{arith, one_if, ◌==◌, Named, Names}
use Rattle.std.proofs.lemmas.List.Sorted.{All-permutation, sum_by-IsPermutation}
use Rattle.cil_keyed_lines.proofs.named.put_in_order.Goals as goal

pub returns-clause-named : goal.returns-clause-named
returns-clause-named g c n are =
    let old = c.args.places.now.items in
    let new = c.sort_unstable_by_key.new.self.items in
    let same = c.sort_unstable_by_key.ensures.permutation in
    record {
      named = All-permutation (Names n) old new same are.named;
      once = λ p. omega (arith, are.once p, sum_by-IsPermutation (λ (x : Named). one_if (x.place == p)) old new same);
    }

pub returns-clause-times : goal.returns-clause-times
returns-clause-times g c p =
    sum_by-IsPermutation (λ (x : Named). one_if (x.place == p)) c.args.places.now.items c.sort_unstable_by_key.new.self.items c.sort_unstable_by_key.ensures.permutation
