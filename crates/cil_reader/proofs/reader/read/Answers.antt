use Rattle.cil_reader.proofs.Common.{Ok, Err, IfErr, List, ℕ, Result, IsReadingFault, Trees, Reads, no-fault, place_of, kind_of, shown, FaultIs, IsMemory}
use Rattle.cil_reader.specs.declared.fault.TextFault.{TextFault}
use Rattle.cil_reader.specs.declared.fault.TextFault.TheVariants.{Memory, Found}
use Rattle.cil_reader.proofs.reader.read.Goals as goal

-- a text that spells trees is refused for memory alone
for_memory : {X : Type 0} (bytes : List ℕ) (trees : Trees) (r : Result X TextFault) → Reads bytes trees → IfErr r (λ f. FaultIs f (IsReadingFault bytes)) → IfErr r IsMemory
for_memory bytes trees (Ok x) reads err = tt
for_memory bytes trees (Err Memory) reads err = tt
for_memory bytes trees (Err (Found kind at word)) reads err = no-fault bytes trees (record { kind = kind_of kind; at = place_of at; word = shown word }) reads err

pub returns-clause-spelt : goal.returns-clause-spelt
returns-clause-spelt g c trees reads = for_memory c.args.text.now trees c.read_parts.result reads c.read_parts.ensures.err
