-- Faults of the code, as those of the definitions.
use Rattle.std.proofs.Common.{◌≡◌, sym, subst}
use Rattle.cil_specs.specs.PolicyFault as spec
use Rattle.cil_check.specs.Image.{IsFoundFault}
use Rattle.cil_check.specs.declared.fault.PolicyFault.{PolicyFault}
use Rattle.cil_check.specs.declared.fault.PolicyFault.TheVariants.{Memory, Found}
pub use Rattle.cil_check.proofs.CheckLemmas.{found-fault, memory-fault, fault-weaker}

-- what holds of a fault holds of the one that is made
pub fault-is : (fault : PolicyFault) (P : spec.PolicyFault → Type 0) (made : spec.PolicyFault) → IsFoundFault fault (λ f. f ≡ made) → P made → IsFoundFault fault P
fault-is Memory P made is p = is
fault-is (Found kind module_name at word) P made is p = subst P (sym is) p
