-- The edits that an open batch holds, as the definitions see them.
use Rattle.cil_store_specs.specs.Next.{Edit, install, remove, enable, disable}
use Rattle.cil_session.specs.declared.held_edit.HeldEdit.{HeldEdit}
use Rattle.cil_session.specs.declared.held_edit.HeldEdit.TheVariants.{Install, Remove, Enable, Disable}

abbrev pub held_edit : {A : Type 0} → HeldEdit A → Edit
held_edit (Install name priority text) = install name priority text
held_edit (Remove name priority) = remove name priority
held_edit (Enable name) = enable name
held_edit (Disable name) = disable name
