use Rattle.std.proofs.Common.{◌∙◌, ◌++◌, ap, sym, refl}
use Rattle.cil_specs.specs.Trees.{a_list}
use Rattle.cil_reader.specs.Common.{place_of, tree_then, trees_of}
use Rattle.cil_projection.specs.Pieces.{pieces_of}
use Rattle.cil_projection.specs.Conditions.{settings_of}
use Rattle.cil_projection.specs.Statements.{kept_branches}
use Rattle.cil_projection.proofs.FormLemmas.{without_word_is}
use Rattle.cil_projection.proofs.needs.Choice.add_kept.Goals as goal

pub loop-tree-preserved-in_default-split_word : goal.loop-tree-preserved-in_default-split_word
loop-tree-preserved-in_default-split_word g c =
    let list = c.in-List in
    let from = c.loop-tree.from in
    let to = c.args.to in
    let settings = settings_of c.args.self.booleans.now in
    let holds = c.args.self.holds in
    let rest = trees_of c.in-Some.behind in
    let front = c.in-Some.ensures ∙ ap (λ tree. tree_then tree rest) list.is in
    ap (λ kept. pieces_of c.loop-tree.pieces.items ++ kept) (sym (ap (λ trees. kept_branches settings holds from trees to) front
    ∙ without_word_is (kept_branches settings holds from rest to) (λ items. kept_branches settings holds from (a_list (place_of list.at) list.end items rest) to) refl (λ at text more. refl)
    (λ at end inner more. refl) (trees_of list.items) c.in_default-split_word.ensures)) ∙ c.loop-tree.invariant
