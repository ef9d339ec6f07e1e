use Rattle.std.proofs.Common.{take}
use Rattle.cil_counters.specs.ChangedMembers.{pairs_of, AreNamed}
use Rattle.cil_counters.proofs.ChangedMemberLemmas.{turned_in}
use Rattle.cil_counters.proofs.changed_members.changed_members_of.Given as goal

-- the changes so far are named
abbrev pub invariant-loop-change : goal.invariant-loop-change
invariant-loop-change g l = AreNamed l.names (turned_in (take l.change-index l.change-items)) (pairs_of l.members.items)
