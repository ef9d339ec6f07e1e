use Rattle.cil_resolve.proofs.Common.{◌∙◌, none-some, sym, arith, same_Some}
use Rattle.cil_resolve.proofs.LoweringLemmas.{refers-within}
use Rattle.cil_resolve.proofs.lowering.Lowering.place.Goals as goal

pub unreachable-requires : goal.unreachable-requires
unreachable-requires g c =
    let (n, led, low) = refers-within c.args.self.now c.args.seen.now c.args.k c.requires in
    none-some n (sym c.in_default.is ∙ c.lead.ensures ∙ led)

pub returns-clause-element : goal.returns-clause-element
returns-clause-element g c =
    let r = c.requires in
    let (n, led, low) = refers-within c.args.self.now c.args.seen.now c.args.k r in
    let long = r.is.lowering.elements_long in
    let same = same_Some n c.in-Some.place (sym led ∙ sym c.lead.ensures ∙ c.in-Some.is) in
    omega (arith, long, low, same)

pub returns-clause-number : goal.returns-clause-number
returns-clause-number g c =
    let r = c.requires in
    let (n, led, low) = refers-within c.args.self.now c.args.seen.now c.args.k r in
    let long = r.is.lowering.places_long in
    let same = same_Some n c.in-Some.place (sym led ∙ sym c.lead.ensures ∙ c.in-Some.is) in
    omega (arith, long, low, same)
