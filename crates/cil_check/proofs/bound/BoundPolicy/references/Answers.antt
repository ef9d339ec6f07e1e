use Rattle.cil_check.proofs.Common.{arith, references, subst, sym}
use Rattle.cil_bind.specs.Binding.{AreLeads}
use Rattle.cil_bind.specs.Policy.{bound_of}
use Rattle.cil_bind.proofs.BindingLemmas.{bound-at}
use Rattle.cil_check.proofs.SeenLemmas.{is-long}
use Rattle.cil_check.proofs.bound.BoundPolicy.references.Goals as goal

pub references-requires-clause-bound : goal.references-requires-clause-bound
references-requires-clause-bound g c = (c.requires.0, c.requires.1.bound)

pub references-requires-clause-within : goal.references-requires-clause-within
references-requires-clause-within g c =
    let long = is-long c.args.self.now c.requires.0 c.requires.1 in
    let less = c.requires.2 in
    omega (arith, long, less)

pub returns : goal.returns
returns g c policy s is at =
    let b = c.args.self.now in
    subst (AreLeads policy s.namespace (references s.form)) (sym c.references.ensures)
    (bound-at policy policy (bound_of b.policy.now b.joined.now.modules.items) c.args.i s is.bound.bound at)
