use Rattle.cil_needs.proofs.Common.{All-weaker, Contains-permutation, IsPermutation-sym, meeting, dependent, IsDependent}
use Rattle.cil_needs.proofs.dependents.dependents.Goals as goal

pub returns-clause-within : goal.returns-clause-within
returns-clause-within g c = λ o i is.
    let before = c.in_ok-dependents.dependents.items in
    let after = c.sort.new.dependents.items in
    c.in_ok-dependents.ensures.within o i (Contains-permutation after before (dependent o i) (IsPermutation-sym before after c.in_ok-sort.ensures.permutation) is)

pub returns-clause-each : goal.returns-clause-each
returns-clause-each g c = λ i need at.
    let before = c.in_ok-dependents.dependents.items in
    let after = c.sort.new.dependents.items in
    All-weaker (λ o. IsDependent before o i) (λ o. IsDependent after o i) (λ o is. Contains-permutation before after (dependent o i) c.in_ok-sort.ensures.permutation is) (meeting need)
    (c.in_ok-dependents.ensures.each i need at)
