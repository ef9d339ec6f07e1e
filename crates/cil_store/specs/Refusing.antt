-- Refusals by the faults that they tell.
use Rattle.std.specs.Prelude.{◌≡◌, ◌⊎◌, ◌∷◌, ◌++◌, ℕ, List}
use Rattle.cil_store_specs.specs.Next.{Edit, Refusal, at_place, for_memory, refuses, AreTaken, IsNotTaken, IsTextRefusal, IsPolicyRefusal, Next, NextOfAll}
use Rattle.cil_store_specs.specs.Store.{Store}
use Rattle.cil_specs.specs.TextFault as text_fault
use Rattle.cil_specs.specs.PolicyFault as policy_fault
use Rattle.cil_text.specs.Image.{place_of, kind_of, shown}
use Rattle.cil_reader.specs.declared.fault.TextFault.{TextFault}
use Rattle.cil_reader.specs.declared.fault.TextFault.TheVariants as texts
use Rattle.cil_check.specs.Image.{policy_kind_of}
use Rattle.cil_check.specs.declared.fault.PolicyFault.{PolicyFault}
use Rattle.cil_check.specs.declared.fault.PolicyFault.TheVariants as policies

-- the refusal, or out of memory for its words
abbrev pub IsRefusalOf : Refusal → Refusal → Type 0
IsRefusalOf refusal meant = (refusal ≡ for_memory) ⊎ (refusal ≡ meant)

abbrev pub IsRefusalOfText : TextFault → List ℕ → Refusal → Type 0
IsRefusalOfText texts.Memory name refusal = refusal ≡ for_memory
IsRefusalOfText (texts.Found kind at word) name refusal = IsRefusalOf refusal (at_place (text_fault.code_of (kind_of kind)) name (place_of at) (shown word))

abbrev pub IsRefusalOfPolicy : PolicyFault → Refusal → Type 0
IsRefusalOfPolicy policies.Memory refusal = refusal ≡ for_memory
IsRefusalOfPolicy (policies.Found kind module_name at word) refusal = IsRefusalOf refusal (at_place (policy_fault.code_of (policy_kind_of kind)) module_name.now (place_of at) word.now)

-- the refusal is out of memory, or that for the fault of the text of an edit
abbrev pub IsRefusedText : Edit → Refusal → Type 0
IsRefusedText edit refusal = (refusal ≡ for_memory) ⊎ IsTextRefusal edit refusal

-- the refusal is out of memory, or that of the policy of a store
abbrev pub IsRefusedPolicy : Store → Refusal → Type 0
IsRefusedPolicy store refusal = (refusal ≡ for_memory) ⊎ IsPolicyRefusal store refusal

-- the refusal is out of memory, or an edit is not taken for it
abbrev pub IsRefusedEdit : Store → Edit → Refusal → Type 0
IsRefusedEdit store edit refusal = (refusal ≡ for_memory) ⊎ IsNotTaken store edit refusal

-- the refusal is out of memory, or the first of the edits that isn't taken is not taken for it
abbrev pub AreStopped : Store → List Edit → Refusal → Type 0
AreStopped store edits refusal = (refusal ≡ for_memory) ⊎ ((before : List Edit) × (edit : Edit) × (after : List Edit) × (mid : Store) × (edits ≡ before ++ edit ∷ after)
    × AreTaken store before mid × IsNotTaken mid edit refusal)

-- the refusal is out of memory, or that of edits that are made at once
abbrev pub AreRefused : Store → List Edit → Refusal → Type 0
AreRefused store edits refusal = (refusal ≡ for_memory) ⊎ NextOfAll store edits (refuses refusal)

-- the refusal is out of memory, or that of a batch
abbrev pub IsRefusedBatch : Store → List Edit → Refusal → Type 0
IsRefusedBatch store edits refusal = (refusal ≡ for_memory) ⊎ Next store edits (refuses refusal)
