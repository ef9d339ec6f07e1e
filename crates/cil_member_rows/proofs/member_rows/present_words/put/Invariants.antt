use Rattle.cil_member_rows.specs.Common.{count_now}
use Rattle.cil_member_rows.proofs.PresentLemmas.{ArePut}
use Rattle.cil_member_rows.proofs.member_rows.present_words.put.Given as goal

abbrev pub invariant-loop-word : goal.invariant-loop-word
invariant-loop-word g l = ArePut (count_now l.rows l.row) l.fn.some.first l.fn.words.items l.words.items l.word
