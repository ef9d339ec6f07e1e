use Rattle.std.proofs.Common.{◌≡◌, ◌∙◌, ℕ, ap, subst, refl, arith, true, false, Some}
use Rattle.cil_specs.specs.Trees.{Trees}
use Rattle.cil_reader.specs.declared.place.Place.{Place}
use Rattle.cil_reader.specs.declared.tree.TreeSlice.{TreeSlice}
use Rattle.cil_reader.specs.declared.tree.Tree.{Tree}
use Rattle.cil_reader.specs.declared.tree.Tree.TheVariants as trees
use Rattle.cil_reader.specs.Common.{trees_of, place_of, tree_then}
use Rattle.cil_reader.proofs.Nodes.{size_behind}
use Rattle.cil_projection.specs.Pieces.{pieces_of}
use Rattle.cil_projection.specs.Forms.{Adds, constraint, constraints, joined}
use Rattle.cil_projection.proofs.FormLemmas.{without_word, constraints_list, completes_more, no_constraint, none_left, not_begun}
use Rattle.cil_projection.proofs.constraint.+constraint.Goals as goal

pub add_constraint-returns-in_default : goal.add_constraint-returns-in_default
add_constraint-returns-in_default g t c = without_word constraint refl (λ at text rest. refl) (λ at end items rest. refl) (trees_of c.args.items) c.in_default.ensures

pub add_constraints-returns-in_default-tree : goal.add_constraints-returns-in_default-tree
add_constraints-returns-in_default-tree g t c =
    c.loop-tree.invariant.completes c.loop-tree.pieces.items false
    (no_constraint c.in-Some.tree (trees_of c.loop-tree.rest) (trees_of c.in-Some.behind) c.in-Some.ensures c.in_default-tree.not-List)

-- trees with the list of a constraint in front
constraint_first : (all rest : Trees) (tree : Tree) (at : Place) (end : ℕ) (items : TreeSlice) → all ≡ tree_then tree rest → tree ≡ trees.List at end items → constraints all ≡ joined (constraint (trees_of items)) (constraints rest)
constraint_first all rest tree at end items front is = ap constraints (front ∙ ap (λ t. tree_then t rest) is) ∙ constraints_list (place_of at) end (trees_of items) rest

pub add_constraints-returns-then-not-branch : goal.add_constraints-returns-then-not-branch
add_constraints-returns-then-not-branch g t c =
    let items = trees_of c.in-List.items in
    let rest = trees_of c.in-Some.behind in
    let middle = c.add_constraint.new.pieces.items in
    not_begun c.args.pieces.now.items c.loop-tree.pieces.items (constraints (trees_of c.args.trees)) (constraints (trees_of c.loop-tree.rest)) (constraint items) (constraints rest) c.loop-tree.invariant.completes
    (constraint_first (trees_of c.loop-tree.rest) rest c.in-Some.tree c.in-List.at c.in-List.end c.in-List.items c.in-Some.ensures c.in-List.is) (subst (λ fits. Adds c.loop-tree.pieces.items middle fits (constraint items)) c.if-not-branch.true c.in_ok-add_constraint.ensures)

pub add_constraints-loop-tree-preserved : goal.add_constraints-loop-tree-preserved
add_constraints-loop-tree-preserved g t c =
    let items = trees_of c.in-List.items in
    let rest = trees_of c.in-Some.behind in
    let middle = c.add_constraint.new.pieces.items in
    record {
      completes = completes_more c.args.pieces.now.items c.loop-tree.pieces.items middle (constraints (trees_of c.args.trees)) (constraints (trees_of c.loop-tree.rest)) (constraint items) (constraints rest) c.loop-tree.invariant.completes
          (constraint_first (trees_of c.loop-tree.rest) rest c.in-Some.tree c.in-List.at c.in-List.end c.in-List.items c.in-Some.ensures c.in-List.is)
          (subst (λ fits. Adds c.loop-tree.pieces.items middle fits (constraint items)) c.if-not-branch.false c.in_ok-add_constraint.ensures);
      smaller = omega (arith, c.loop-tree.invariant.smaller, size_behind (trees_of c.loop-tree.rest) c.in-Some.tree rest c.in-Some.ensures);
    }

pub add_constraints-returns : goal.add_constraints-returns
add_constraints-returns g t c =
    let now = c.loop-tree.pieces.items in
    c.loop-tree.invariant.completes now true (ap (λ found. joined (Some (pieces_of now)) (constraints found)) c.in_default.ensures ∙ none_left now)
