-- A text spells one module, or has one fault.
use Rattle.cil_specs.proofs.Common.{◌≡◌, ℕ, false, List, length, subst, arith, TextFault, Trees, Reads, Statements, Shapes, IsShapeFault, IsFirstShapeFault}
use Rattle.cil_specs.specs.ModuleText.{IsModuleText, IsTextFault, in_reading, in_shape}
use Rattle.cil_specs.proofs.Order.{reading-in_order}
use Rattle.cil_specs.proofs.OneReading.{one-reading}
use Rattle.cil_specs.proofs.Stuck.{no-fault, one-fault}
use Rattle.cil_specs.proofs.ShapeLemmas.{shapes_no_fault, shapes_same}
use Rattle.cil_specs.proofs.FaultSame.{first_fault_same}

pub module_text_same : (bytes : List ℕ) (s t : Statements) → IsModuleText bytes s → IsModuleText bytes t → s ≡ t
module_text_same bytes s t a b = shapes_same s t false a.trees a.shapes (subst (λ trees. Shapes false trees t) (one-reading bytes b.trees a.trees b.reads a.reads) b.shapes)

-- trees of one text, where one of them is of statements, have no fault of shape
no-shape-fault : (bytes : List ℕ) (trees others : Trees) (s : Statements) (f : TextFault) → Reads bytes trees → Reads bytes others → Shapes false others s → IsFirstShapeFault trees f → ⊥
no-shape-fault bytes trees others s f reads other shapes h = shapes_no_fault s false others shapes f (subst (λ t. IsShapeFault false t f) (one-reading bytes trees others reads other) h.is)

pub no-text-fault : (bytes : List ℕ) (s : Statements) (f : TextFault) → IsModuleText bytes s → IsTextFault bytes f → ⊥
no-text-fault bytes s f a (in_reading h) = no-fault bytes a.trees f a.reads h
no-text-fault bytes s f a (in_shape trees reads h) = no-shape-fault bytes trees a.trees s f reads a.reads a.shapes h

pub text-fault-same : (bytes : List ℕ) (f g : TextFault) → IsTextFault bytes f → IsTextFault bytes g → f ≡ g
text-fault-same bytes f g (in_reading h) (in_reading k) = one-fault bytes f g h k
text-fault-same bytes f g (in_reading h) (in_shape trees reads k) = absurd (no-fault bytes trees f reads h)
text-fault-same bytes f g (in_shape trees reads h) (in_reading k) = absurd (no-fault bytes trees g reads k)
text-fault-same bytes f g (in_shape trees reads h) (in_shape others other k) =
    first_fault_same trees 0 (length bytes) f g (reading-in_order bytes trees (length bytes) reads (omega arith)) h (subst (λ t. IsFirstShapeFault t g) (one-reading bytes others trees other reads) k)
