use Rattle.std.proofs.Common.{◌∙◌, false, sym, refl}
use Rattle.cil_reader.specs.Common.{trees_of}
use Rattle.cil_projection.specs.Conditions.{are_branches}
use Rattle.cil_projection.proofs.BranchLemmas.{no_other_branch}
use Rattle.cil_projection.proofs.FormLemmas.{without_list_is}
use Rattle.cil_projection.proofs.branches.are_branches.Goals as goal

pub returns-in_default : goal.returns-in_default
returns-in_default c =
    sym (without_list_is false are_branches refl (λ at text rest. refl) (λ at text rest. refl) (trees_of c.args.trees) c.in_default.ensures)

pub returns-in_default-split_list : goal.returns-in_default-split_list
returns-in_default-split_list c =
    no_other_branch (trees_of c.args.trees) (trees_of c.in-Some.items) (trees_of c.in-Some.rest) c.in-Some.ensures (sym c.is_empty.ensures ∙ c.if-is_empty.false) c.in_default-split_list.ensures
