-- The nodes of plain lists.
use Rattle.std.specs.Prelude.{ℕ, Bool, true, not, List, [], ◌∷◌, ◌++◌}
use Rattle.cil_parse.specs.Forms.{is_plain, name_nodes}
use Rattle.cil_parse.specs.declared.row.SetNode.{SetNode}
use Rattle.cil_parse.specs.declared.row.SetNode.TheVariants as nodes
use Rattle.cil_expression.specs.declared.set_expression.Form.{Form}
use Rattle.cil_expression.specs.declared.set_expression.Form.TheVariants as forms
use Rattle.cil_expression.specs.Spelling.{expr_of}

-- the nodes of a plain list of so many names
abbrev pub list_nodes : ℕ → List SetNode
list_nodes n = name_nodes n ++ nodes.Nothing ∷ []

-- whether a tree is no plain list
abbrev pub is_no_list : {A : Type 0} → Form A → Bool
is_no_list (forms.Tree tree) = not (is_plain (expr_of tree.value.nodes.items tree.value.names.items))
is_no_list _ = true
