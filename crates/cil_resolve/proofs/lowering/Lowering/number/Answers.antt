use Rattle.cil_resolve.proofs.Common.{◌∙◌, None, Some, get_or, get_or_default, sym, ap, classes, permission_sets, references, seen-lead, unwrap_or}
use Rattle.cil_resolve.proofs.LoweringLemmas.{class-led, set-led}
use Rattle.cil_resolve.proofs.StatementLemmas.{contained}
use Rattle.cil_resolve.proofs.lowering.Lowering.number.Goals as goal

pub returns-clause-class : goal.returns-clause-class
returns-clause-class g c policy s word is refers =
    let places = c.args.self.now.numbering.now.places.items in
    let found = get_or c.args.seen.now.bound c.args.k None in
    let lead = seen-lead c.args.seen.now policy s c.args.k classes word is.seen_is refers in
    class-led policy is.lowering.faultless s is.there c.args.self.now.numbering.now.names.items places word found 0 is.lowering.places (contained (references s.form) c.args.k (classes, word) refers) lead
    ∙ ap Some (ap (λ o. get_or places (unwrap_or o 0) 0) c.place.ensures.led ∙ get_or_default places c.place.result 0 c.index.result.now c.place.ensures.number ∙ sym c.index.ensures)

pub returns-clause-set : goal.returns-clause-set
returns-clause-set g c policy s word is refers =
    let places = c.args.self.now.numbering.now.places.items in
    let found = get_or c.args.seen.now.bound c.args.k None in
    let lead = seen-lead c.args.seen.now policy s c.args.k permission_sets word is.seen_is refers in
    set-led policy is.lowering.faultless s is.there c.args.self.now.numbering.now.names.items places word found 0 is.lowering.places (contained (references s.form) c.args.k (permission_sets, word) refers) lead
    ∙ ap Some (ap (λ o. get_or places (unwrap_or o 0) 0) c.place.ensures.led ∙ get_or_default places c.place.result 0 c.index.result.now c.place.ensures.number ∙ sym c.index.ensures)
