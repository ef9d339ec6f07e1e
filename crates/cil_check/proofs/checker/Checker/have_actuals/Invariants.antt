use Rattle.cil_bind.proofs.AboutNamesLemmas.{after_places}
use Rattle.cil_check.proofs.SoundLemmas.{AreSoundTo}
use Rattle.cil_check.proofs.checker.Checker.have_actuals.Given as goal

-- the statements gone over are no aliases without an actual type
abbrev pub invariant-loop-k : goal.invariant-loop-k
invariant-loop-k g l = AreSoundTo l.self.bound.policy.now.kinds.items l.self.actuals (after_places 0 l.places l.k)
