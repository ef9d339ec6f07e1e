use Rattle.cil_check.proofs.Common.{slice_get_within, get_or_from_slice_get}
use Rattle.cil_check.proofs.checker.Checker.has_named_at.Goals as goal

pub seen-requires : goal.seen-requires
seen-requires g c = let r = c.requires in record { is = (r.0, r.2.is, slice_get_within r.0 c.args.place r.1 r.3) }

pub has_named-requires : goal.has_named-requires
has_named-requires g c = let r = c.requires in (r.0, r.1, r.2, c.seen.ensures.seen r.0 r.1 r.2.is r.3)

pub returns-clause-none : goal.returns-clause-none
returns-clause-none g c = λ yes policy s noted at led known.
    c.has_named.ensures.none yes policy s noted (c.seen.ensures.seen policy s noted.is at) (c.seen.ensures.worded policy noted.is)
    (c.args.place, slice_get_within policy c.args.place s at, get_or_from_slice_get policy c.args.place s s at) led known

pub returns-clause-known : goal.returns-clause-known
returns-clause-known g c = λ policy s noted at led known.
    c.has_named.ensures.known policy s noted (c.seen.ensures.seen policy s noted.is at) (c.seen.ensures.worded policy noted.is)
    (c.args.place, slice_get_within policy c.args.place s at, get_or_from_slice_get policy c.args.place s s at) led known
