use Rattle.std.proofs.Common.{◌∙◌, ap, sym, refl}
use Rattle.cil_specs.specs.Trees.{a_list}
use Rattle.cil_reader.specs.Common.{place_of, tree_then, trees_of}
use Rattle.cil_projection.specs.Conditions.{branch_for}
use Rattle.cil_projection.proofs.FormLemmas.{without_word_is}
use Rattle.cil_projection.proofs.branches.branch_for.Goals as goal

pub loop-tree-preserved-in_default-split_word : goal.loop-tree-preserved-in_default-split_word
loop-tree-preserved-in_default-split_word c =
    let list = c.in-List in
    let holds = c.args.holds in
    let rest = trees_of c.in-Some.behind in
    let front = c.in-Some.ensures ∙ ap (λ tree. tree_then tree rest) list.is in
    sym (ap (branch_for holds) front
    ∙ without_word_is (branch_for holds rest) (λ items. branch_for holds (a_list (place_of list.at) list.end items rest)) refl (λ at text more. refl) (λ at end inner more. refl)
    (trees_of list.items) c.in_default-split_word.ensures) ∙ c.loop-tree.invariant
