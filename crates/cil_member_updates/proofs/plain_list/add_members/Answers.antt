use Rattle.cil_member_updates.proofs.Common.{arith, counts_at}
use Rattle.cil_member_updates.proofs.PlainLemmas.{added-first, added-next}
use Rattle.cil_member_updates.proofs.plain_list.add_members.Goals as goal

pub loop-word-init : goal.loop-word-init
loop-word-init g c = added-first (counts_at c.args.when.now c.args.rows.now c.args.row) c.args.words.now

pub loop-word-preserved : goal.loop-word-preserved
loop-word-preserved g c =
    added-next (counts_at c.args.when.now c.args.rows.now c.args.row) c.loop-word.word c.members.result c.args.words.now c.loop-word.words
    (let low = c.loop-word-test.true in omega (arith, low)) c.members.ensures c.loop-word.invariant

pub returns-clause-set : goal.returns-clause-set
returns-clause-set g c t within = c.loop-word.invariant.below t (let end = c.loop-word-test.false in omega (arith, within, end))
