use Rattle.cil_session.proofs.Common.{◌≡◌, map, take, edit_of, held_edit}
use Rattle.cil_session.proofs.edit_list.EditList.as_edits.Given as goal

abbrev pub invariant-loop-edit : goal.invariant-loop-edit
invariant-loop-edit g l = map edit_of l.edits.items ≡ map held_edit (take l.edit-index l.edit-items)
