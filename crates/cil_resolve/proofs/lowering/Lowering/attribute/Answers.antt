use Rattle.cil_resolve.proofs.Common.{◌∙◌, None, Some, get_or, get_or_default, sym, ap, types, references, seen-lead, unwrap_or}
use Rattle.std.proofs.Common.{slice_get}
use Rattle.cil_resolve.proofs.LoweringLemmas.{attribute-led}
use Rattle.cil_resolve.proofs.lowering.Lowering.attribute.Goals as goal

pub place-requires : goal.place-requires
place-requires g c =
    let (policy, s, is, (attribute, expr, form)) = c.requires in
    record { policy = policy; s = s; table = types; word = attribute; is = is; at = ap (λ f. slice_get (references f) 0) form }

pub returns : goal.returns
returns g c policy s attribute expr is form =
    let places = c.args.self.now.numbering.now.places.items in
    let found = get_or c.args.seen.now.bound 0 None in
    let lead = seen-lead c.args.seen.now policy s 0 types attribute is.seen_is (ap (λ f. slice_get (references f) 0) form) in
    attribute-led policy is.lowering.faultless s is.there c.args.self.now.numbering.now.names.items places attribute expr found 0 form is.lowering.places lead
    ∙ ap Some (ap (λ o. get_or places (unwrap_or o 0) 0) c.place.ensures.led ∙ get_or_default places c.place.result 0 c.index.result.now c.place.ensures.number ∙ sym c.index.ensures)
