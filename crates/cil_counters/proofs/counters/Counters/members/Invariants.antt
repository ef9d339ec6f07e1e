use Rattle.cil_counters.proofs.Common.{◌≡◌, meaning_in, name_in, is_member}
use Rattle.cil_violations.specs.Rows.{hits}
use Rattle.cil_counters.proofs.counters.Counters.members.Given as goal

-- those among the first numbers
abbrev pub invariant-loop-number : goal.invariant-loop-number
invariant-loop-number g l = l.list.items ≡ hits (λ n. is_member (meaning_in l.policy) l.attribute (name_in l.policy n)) 0 l.number
