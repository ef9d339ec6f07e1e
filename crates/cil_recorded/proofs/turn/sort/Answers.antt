use Rattle.std.proofs.Common.{rules}
use Rattle.std.proofs.lemmas.List.Sorted.{IsNonDecreasingBy-from_sort_by_key, sum_by-IsPermutation}
use Rattle.std.proofs.lemmas.Result.{on_ok_weaker}
use Rattle.cil_recorded.specs.Differences.{balance_of, turn_key}
use Rattle.cil_recorded.proofs.turn.sort.Goals as goal

pub returns-clause-sorted : goal.returns-clause-sorted
returns-clause-sorted g c =
    on_ok_weaker c.sort_by_key.result
    (λ sorted. IsNonDecreasingBy-from_sort_by_key turn_key c.sort_by_key.new.self sorted (λ a r q k. search rules))
    c.sort_by_key.ensures.sorted

pub returns-clause-turned : goal.returns-clause-turned
returns-clause-turned g c l t = sum_by-IsPermutation (λ s. balance_of s l t) c.args.turns.now c.sort_by_key.new.self c.sort_by_key.ensures.permutation
