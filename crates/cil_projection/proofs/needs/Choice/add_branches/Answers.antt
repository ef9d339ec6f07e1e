use Rattle.std.proofs.Common.{◌∙◌, ap, subst, true, Some}
use Rattle.cil_reader.specs.Common.{trees_of, tree_then}
use Rattle.cil_projection.specs.Pieces.{pieces_of}
use Rattle.cil_projection.specs.Forms.{Adds, joined}
use Rattle.cil_projection.specs.Conditions.{settings_of}
use Rattle.cil_projection.specs.Statements.{of_first_list, branch_needs, branches_need}
use Rattle.cil_projection.proofs.FormLemmas.{completes_more, none_left, not_begun}
use Rattle.cil_projection.proofs.NeedLemmas.{branches_first}
use Rattle.cil_projection.proofs.needs.Choice.add_branches.Goals as goal

pub returns-then-not-branch : goal.returns-then-not-branch
returns-then-not-branch g c =
    let settings = settings_of c.args.self.booleans.now in
    let holds = c.args.self.holds in
    let tree = c.in-Some.tree in
    let rest = trees_of c.in-Some.behind in
    let before = c.loop-tree.pieces.items in
    let needs = of_first_list (branch_needs settings holds) (tree_then tree rest) in
    not_begun c.args.pieces.now.items before (branches_need settings holds (trees_of c.args.branches)) (branches_need settings holds (trees_of c.loop-tree.rest)) needs (branches_need settings holds rest)
    c.loop-tree.invariant (branches_first settings holds tree (trees_of c.loop-tree.rest) rest c.in-Some.ensures)
    (subst (λ fits. Adds before c.add_branch.new.pieces.items fits needs) c.if-not-branch.true (c.in_ok-add_branch.ensures rest))

pub loop-tree-preserved : goal.loop-tree-preserved
loop-tree-preserved g c =
    let settings = settings_of c.args.self.booleans.now in
    let holds = c.args.self.holds in
    let tree = c.in-Some.tree in
    let rest = trees_of c.in-Some.behind in
    let before = c.loop-tree.pieces.items in
    let middle = c.add_branch.new.pieces.items in
    let needs = of_first_list (branch_needs settings holds) (tree_then tree rest) in
    completes_more c.args.pieces.now.items before middle (branches_need settings holds (trees_of c.args.branches)) (branches_need settings holds (trees_of c.loop-tree.rest)) needs (branches_need settings holds rest)
    c.loop-tree.invariant (branches_first settings holds tree (trees_of c.loop-tree.rest) rest c.in-Some.ensures)
    (subst (λ fits. Adds before middle fits needs) c.if-not-branch.false (c.in_ok-add_branch.ensures rest))

pub returns : goal.returns
returns g c =
    let now = c.loop-tree.pieces.items in
    c.loop-tree.invariant now true
    (ap (λ found. joined (Some (pieces_of now)) (branches_need (settings_of c.args.self.booleans.now) c.args.self.holds found)) c.in_default.ensures ∙ none_left now)
