use Rattle.std.proofs.Common.{arith}
use Rattle.cil_optionals.proofs.AsksLemmas.{lead-low, meets-plain, meets-other, around-low}
use Rattle.cil_optionals.proofs.references.meeting.Goals as goal

pub returns-then-plain-clause-below : goal.returns-then-plain-clause-below
returns-then-plain-clause-below g c =
    let r = c.requires in
    let p = c.args.policy.now in
    let low = lead-low p r.0 r.1 r.2 c.args.found c.in-Some.place r.3 r.4 c.in-Some.is r.5 in
    let count = c.len.ensures in
    let size = p.rows.ok.0 in
    omega (arith, low, count, size)

pub returns-then-plain-clause-meets : goal.returns-then-plain-clause-meets
returns-then-plain-clause-meets g c = λ parsed all table lead ready is.
    let p = c.args.policy.now in
    let count = c.len.ensures in
    let size = p.rows.ok.0 in
    meets-plain p parsed all table c.args.found c.in-Some.place c.len.result c.args.plain lead ready c.in-Some.is is c.if-plain.true (omega (arith, count, size))

pub index-requires : goal.index-requires
index-requires g c =
    let r = c.requires in
    let p = c.args.policy.now in
    let low = lead-low p r.0 r.1 r.2 c.args.found c.in-Some.place r.3 r.4 c.in-Some.is r.5 in
    let size = p.rows.ok.0 in
    omega (arith, low, size)

pub returns-clause-below : goal.returns-clause-below
returns-clause-below g c =
    let r = c.requires in
    let p = c.args.policy.now in
    let low = lead-low p r.0 r.1 r.2 c.args.found c.in-Some.place r.3 r.4 c.in-Some.is r.5 in
    let around = around-low p r.0 r.1 c.in-Some.place c.index.result.now r.4 low c.index.ensures in
    omega (arith, around)

pub returns-clause-meets : goal.returns-clause-meets
returns-clause-meets g c = λ parsed all table lead ready is.
    meets-other c.args.policy.now parsed all table c.args.found c.in-Some.place c.args.plain lead c.index.result.now ready c.in-Some.is is c.if-plain.false c.index.ensures
