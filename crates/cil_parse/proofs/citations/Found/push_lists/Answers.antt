use Rattle.std.proofs.Common.{refl}
use Rattle.cil_parse.proofs.CitationLemmas.{step-list}
use Rattle.cil_parse.proofs.citations.Found.push_lists.Goals as goal

pub loop-i-preserved : goal.loop-i-preserved
loop-i-preserved g c =
    λ start. step-list c.args.rows.now c.args.words.now.0 c.loop-i.i _ _ c.get.result.now c.loop-i.self c.push_cited.new.self c.close.new.self c.requires c.loop-i-test.true refl c.get.ensures (c.loop-i.invariant start) c.in_ok-push_cited.ensures c.in_ok-close.ensures.ok
