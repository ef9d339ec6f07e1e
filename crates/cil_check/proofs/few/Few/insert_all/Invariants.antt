use Rattle.std.proofs.Common.{◌≡◌, take, fold}
use Rattle.cil_check.specs.Few.{with_number}
use Rattle.cil_check.proofs.few.Few.insert_all.Given as goal

-- so many are taken up
abbrev pub invariant-loop-number : goal.invariant-loop-number
invariant-loop-number l = l.self ≡ fold with_number l.fn.self (take l.number-index l.numbers)
