use Rattle.cil_matching.proofs.Common.{◌∙◌, Some, sym, ap, arith, sets_in, set_spot}
use Rattle.cil_matching.proofs.MatchedLemmas.{mapped-there}
use Rattle.cil_matching.proofs.SpotLemmas.{tied-spots}
use Rattle.cil_matching.proofs.set_walk.find_from.Goals as goal

pub returns-in-Equal-clause-ok : goal.returns-in-Equal-clause-ok
returns-in-Equal-clause-ok g c p at =
    let many = c.sets_len-j-end.ensures in
    let low = c.loop-j-test.true in
    let (q, there) = mapped-there set_spot (sets_in c.args.new.now) c.loop-j.j (omega (arith, many, low)) in
    there ∙ ap Some (tied-spots q p (sym (c.order_of.ensures.order p q at there) ∙ c.in-Equal.is))
