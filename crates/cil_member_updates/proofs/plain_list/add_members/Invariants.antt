use Rattle.cil_member_updates.proofs.Common.{counts_at}
use Rattle.cil_member_updates.proofs.PlainLemmas.{AreAdded}
use Rattle.cil_member_updates.proofs.plain_list.add_members.Given as goal

-- the members of the words so far are set
abbrev pub invariant-loop-word : goal.invariant-loop-word
invariant-loop-word g l = AreAdded (counts_at l.when l.rows l.row) l.word l.fn.words l.words
