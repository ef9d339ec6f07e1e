use Rattle.cil_stream.proofs.Feeding.{fed-read, gives-read, ended-or_end}
use Rattle.cil_stream.proofs.source.ReaderSourceSource.take.Goals as goal

pub invariant_of-self-2 : goal.invariant_of-self-2
invariant_of-self-2 g c = fed-read _ _ _ _ _ _ _ _ c.self.invariant c.in-Ok.ensures.within c.in-Ok.ensures.given (ended-or_end _ _ _ _ _ c.in-Ok.ensures.end c.ends_after-self-inside.ensures.some c.ends_after-self-inside.ensures.empty)

pub returns-clause-given : goal.returns-clause-given
returns-clause-given g c =
    gives-read _ _ _ _ _ _ _ _ _ _ c.self.view_is c.self.invariant c.in-Ok.ensures.within c.in-Ok.ensures.given (ended-or_end _ _ _ _ _ c.in-Ok.ensures.end c.ends_after-self-inside.ensures.some c.ends_after-self-inside.ensures.empty)
    c.ends_after-self-inside.ensures.later
