use Rattle.std.proofs.Common.{◌∙◌, ap, subst, sym, true, Some}
use Rattle.cil_reader.specs.Common.{trees_of, tree_then, word_of}
use Rattle.cil_projection.specs.Pieces.{pieces_of}
use Rattle.cil_projection.specs.Forms.{Adds, joined}
use Rattle.cil_projection.specs.Statements.{of_first_list, rule_needs, rules_need}
use Rattle.cil_projection.proofs.FormLemmas.{completes_more, none_left}
use Rattle.cil_projection.proofs.NeedLemmas.{is_named, not_listed, not_named, rules_first, rules_stuck}
use Rattle.cil_projection.proofs.needs.add_rules.Goals as goal

pub returns-in_default-tree : goal.returns-in_default-tree
returns-in_default-tree g c =
    let stay = c.args.stay in
    let tree = c.in-Some.tree in
    let rest = trees_of c.in-Some.behind in
    rules_stuck stay c.args.pieces.now.items c.loop-tree.pieces.items (rules_need stay (trees_of c.args.rules)) tree (trees_of c.loop-tree.rest) rest c.loop-tree.invariant c.in-Some.ensures
    (not_listed (rule_needs stay) tree rest c.in_default-tree.not-List)

pub returns-in_default-split_word : goal.returns-in_default-split_word
returns-in_default-split_word g c =
    let stay = c.args.stay in
    let tree = c.in-Some.tree in
    let list = c.in-List in
    let rest = trees_of c.in-Some.behind in
    rules_stuck stay c.args.pieces.now.items c.loop-tree.pieces.items (rules_need stay (trees_of c.args.rules)) tree (trees_of c.loop-tree.rest) rest c.loop-tree.invariant c.in-Some.ensures
    (not_named (rule_needs stay) tree list.at list.end list.items rest list.is c.in_default-split_word.ensures)

pub loop-tree-preserved : goal.loop-tree-preserved
loop-tree-preserved g c =
    let stay = c.args.stay in
    let tree = c.in-Some.tree in
    let list = c.in-List in
    let named = c.in-Some-split_word in
    let rest = trees_of c.in-Some.behind in
    let before = c.loop-tree.pieces.items in
    let middle = c.add_rule_needs.new.pieces.items in
    let first = is_named (rule_needs stay) tree list.at list.end list.items rest (word_of named.word) (trees_of named.arguments) list.is named.ensures in
    completes_more c.args.pieces.now.items before middle (rules_need stay (trees_of c.args.rules)) (rules_need stay (trees_of c.loop-tree.rest)) (of_first_list (rule_needs stay) (tree_then tree rest))
    (rules_need stay rest) c.loop-tree.invariant (rules_first stay tree (trees_of c.loop-tree.rest) rest c.in-Some.ensures)
    (subst (λ needs. Adds before middle true needs) (sym first)
    (subst (λ fits. Adds before middle fits (rule_needs stay named.word.text.now (trees_of named.arguments))) c.if-not-branch.false c.in_ok-add_rule_needs.ensures))

pub returns : goal.returns
returns g c =
    let now = c.loop-tree.pieces.items in
    c.loop-tree.invariant now true (ap (λ found. joined (Some (pieces_of now)) (rules_need c.args.stay found)) c.in_default.ensures ∙ none_left now)
