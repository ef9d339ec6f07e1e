use Rattle.cil_resolve.proofs.NumberOf.{is-at, past-end}
use Rattle.cil_resolve.proofs.resolved.Resolved.is_number.Goals as goal

pub returns-in-Some : goal.returns-in-Some
returns-in-Some g c =
    let found = c.in-Some.ensures.lookup in
    is-at c.deref.ensures.value found.3.0 found.1 c.as_slice.ensures c.eq.ensures

pub returns-in-None : goal.returns-in-None
returns-in-None g c = past-end c.deref.ensures.value c.in-None.ensures.lookup.3
