use Rattle.cil_violations.proofs.Common.{◌≡◌, ap, arith, length, set, Some}
use Rattle.cil_violations.proofs.IndexLemmas.{chains-kept, put-chains}
use Rattle.cil_violations.proofs.index.put_link.Goals as goal

pub returns-clause-chains : goal.returns-clause-chains
returns-clause-chains g c =
    let long : c.len-link.result ≡ length c.args.links.now.items = omega (arith, c.len-link.ensures, c.args.links.now.ok.0) in
    put-chains c.args.first.now.items (set c.args.first.now.items c.args.number (Some c.len-link.result)) c.args.links.now.items c.push.new.self.items c.args.place c.args.number c.index-next.result.now
    c.requires c.index-next.ensures c.in_ok-push.ensures.items (ap (λ k. set c.args.first.now.items c.args.number (Some k)) long)

pub returns-clause-others : goal.returns-clause-others
returns-clause-others g c = λ f others are.
    chains-kept f others c.args.links.now.items c.push.new.self.items (record { rule = c.args.place; next = c.index-next.result.now }) c.in_ok-push.ensures.items are
