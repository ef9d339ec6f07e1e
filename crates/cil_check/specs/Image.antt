-- The values of the definitions that faults of the code stand for.
use Rattle.cil_specs.specs.PolicyFault as spec_faults
use Rattle.cil_specs.specs.PolicyFault.{twice, missing, wrong_kind, alias_twice, alias_unset, second_common, too_many_permissions, circular}
use Rattle.cil_specs.specs.Names.{Word}
use Rattle.cil_specs.specs.Joined.{Placed}
use Rattle.cil_text.specs.Image.{place_of}
use Rattle.cil_check.specs.declared.fault.PolicyFaultKind.{PolicyFaultKind}
use Rattle.cil_check.specs.declared.fault.PolicyFaultKind.TheVariants.{Twice, Missing, WrongKind, AliasTwice, AliasUnset, SecondCommon, TooManyPermissions, Circular}
use Rattle.cil_check.specs.declared.fault.PolicyFault.{PolicyFault}
use Rattle.cil_check.specs.declared.fault.PolicyFault.TheVariants.{Memory, Found}

abbrev pub policy_kind_of : PolicyFaultKind → spec_faults.PolicyFaultKind
policy_kind_of Twice = twice
policy_kind_of Missing = missing
policy_kind_of WrongKind = wrong_kind
policy_kind_of AliasTwice = alias_twice
policy_kind_of AliasUnset = alias_unset
policy_kind_of SecondCommon = second_common
policy_kind_of TooManyPermissions = too_many_permissions
policy_kind_of Circular = circular

-- The fault is none but out of memory, or P holds of it.
abbrev pub PolicyFaultIs : PolicyFault → (spec_faults.PolicyFault → Type 0) → Type 0
PolicyFaultIs Memory P = Unit {0}
PolicyFaultIs (Found kind module_name at word) P = P (record { kind = policy_kind_of kind; module_name = module_name.now; at = place_of at; word = word.now })

-- The fault isn't out of memory, and P holds of it.
abbrev pub IsFoundFault : PolicyFault → (spec_faults.PolicyFault → Type 0) → Type 0
IsFoundFault Memory P = ⊥
IsFoundFault (Found kind module_name at word) P = P (record { kind = policy_kind_of kind; module_name = module_name.now; at = place_of at; word = word.now })

-- the fault at a word of a statement
abbrev pub fault_at : spec_faults.PolicyFaultKind → Placed → Word → spec_faults.PolicyFault
fault_at kind s word = record { kind = kind; module_name = s.module_name; at = word.at; word = word.text }
