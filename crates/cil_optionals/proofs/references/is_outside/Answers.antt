use Rattle.std.proofs.Common.{arith}
use Rattle.std.proofs.lemmas.Bool.{eqb-true}
use Rattle.cil_optionals.proofs.AsksLemmas.{lead-low, leads-outside}
use Rattle.cil_optionals.proofs.references.is_outside.Goals as goal

pub index-requires : goal.index-requires
index-requires g c =
    let r = c.requires in
    let p = c.args.policy.now in
    let low = lead-low p r.0 r.1 r.2 c.args.found c.in-Some.place r.3 r.4 c.in-Some.is r.5 in
    let size = p.rows.ok.0 in
    omega (arith, low, size)

pub returns-in-Some : goal.returns-in-Some
returns-in-Some g c = λ yes_it parsed all table lead ready is.
    leads-outside c.args.policy.now parsed all table c.args.found c.in-Some.place lead c.index.result.now ready c.in-Some.is is c.index.ensures (eqb-true c.index.result.now.optional 0 yes_it)
