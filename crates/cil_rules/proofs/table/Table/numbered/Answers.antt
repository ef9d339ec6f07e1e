use Rattle.std.proofs.Common.{map, subst, sym}
use Rattle.cil_rules.specs.Atoms.{atom_at, AreNumbered}
use Rattle.cil_rules.proofs.table.Table.numbered.Goals as goal

pub invariant_of-result : goal.invariant_of-result
invariant_of-result g c = subst (λ names. AreNumbered names c.args.accesses) (sym c.in_ok-of_policy.ensures) c.requires

pub returns : goal.returns
returns g c = λ i. map (atom_at (c.in_ok-of_policy.ensures i)) c.args.accesses
