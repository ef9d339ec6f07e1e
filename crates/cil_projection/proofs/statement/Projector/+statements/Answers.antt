use Rattle.std.proofs.Common.{◌≡◌, ◌++◌, ◌∷◌, [], ◌∙◌, OnOk, false, codes, sym, ap, subst, refl, arith}
use Rattle.std.specs.Option.{option_map_or}
use Rattle.cil_reader.specs.Common.{tree_then, trees_of}
use Rattle.cil_projection.specs.declared.table.Table.TheVariants.{Tunables}
use Rattle.cil_projection.specs.Pieces.{blanked, copied, pieces_of, taken}
use Rattle.cil_projection.specs.Conditions.{settings_of}
use Rattle.cil_projection.specs.Statements.{body_projected, branch_projected, condition_names, one_projected, projected, tunable_projected}
use Rattle.cil_projection.proofs.FormLemmas.{added_one, names_behind, without_word_is}
use Rattle.cil_projection.proofs.BranchLemmas.{branch_is, branch_size, tunable_is}
use Rattle.cil_projection.proofs.statement.Projector.+statements.Goals as goal

pub add_one-returns-in_default : goal.add_one-returns-in_default
add_one-returns-in_default g t c =
    let span = c.args.span in
    let there = one_projected (settings_of c.args.self.now.booleans.now) span.from span.to in
    rw (without_word_is (copied span.from span.to ∷ []) there refl (λ at text more. refl) (λ at end inner more. refl) (trees_of c.args.items) c.in_default.ensures) c.add_copied.ensures

pub add_body-returns-in_default : goal.add_body-returns-in_default
add_body-returns-in_default g t c =
    let span = c.args.span in
    let there = body_projected (settings_of c.args.self.now.booleans.now) span.from span.to in
    rw (without_word_is (copied span.from span.to ∷ []) there refl (λ at text more. refl) (λ at end inner more. refl) (trees_of c.args.arguments) c.in_default.ensures) c.add_copied.ensures

pub add_branch-returns-in_default : goal.add_branch-returns-in_default
add_branch-returns-in_default g t c =
    let from = c.args.span.from in
    let to = c.args.span.to in
    let holds = c.args.holds in
    let settings = settings_of c.args.self.now.booleans.now in
    let branches = trees_of c.args.branches in
    let is = ap (λ found. option_map_or (λ inner. projected settings false from inner to) found (blanked from to ∷ [])) c.in_default.ensures ∙ branch_is settings holds from to branches in
    added_one c.args.pieces.now.items c.add_piece.new.pieces.items _ c.in_ok-add_piece.ensures ∙ ap (λ added. pieces_of c.args.pieces.now.items ++ added) is

pub add_branch-add_statements-requires : goal.add_branch-add_statements-requires
add_branch-add_statements-requires g t c κs within =
    (omega (arith, c.decreases, branch_size c.args.holds (trees_of c.in-Some.inner) (trees_of c.args.branches) c.in-Some.ensures), within)

pub add_branch-returns : goal.add_branch-returns
add_branch-returns g t c =
    let from = c.args.span.from in
    let to = c.args.span.to in
    let holds = c.args.holds in
    let settings = settings_of c.args.self.now.booleans.now in
    let branches = trees_of c.args.branches in
    let is = ap (λ found. option_map_or (λ inner. projected settings false from inner to) found (blanked from to ∷ [])) c.in-Some.ensures ∙ branch_is settings holds from to branches in
    subst (λ added. OnOk c.add_statements.result (pieces_of c.add_statements.new.pieces.items ≡ pieces_of c.args.pieces.now.items ++ added)) is c.add_statements.ensures

pub add_tunable-returns : goal.add_tunable-returns
add_tunable-returns g t c =
    let from = c.args.span.from in
    let to = c.args.span.to in
    let settings = settings_of c.args.self.now.booleans.now in
    let inner = trees_of c.in-Some.branches in
    let holds = c.in-Some-2.holds in
    let kept = branch_projected settings holds from to inner in
    let old = c.args.pieces.now.items in
    let names = c.in_ok-holds.ensures.names inner ∙ ap (λ l. pieces_of l ++ condition_names Tunables (tree_then c.in-Some.condition inner)) c.new-names.ensures.items in
    let branches = sym c.are_branches.ensures ∙ c.if-not-are_branches.false in
    let value = sym c.in-Some-2.is ∙ c.in_ok-holds.ensures.value inner in
    names_behind old c.add_branch.new.pieces.items c.add_piece.new.pieces.items c.append.new.self.items c.add_condition.new.names.items _ kept c.in_ok-add_branch.ensures c.in_ok-add_piece.ensures c.in_ok-append.ensures.items
    ∙ ap (λ names. pieces_of old ++ (kept ++ taken (codes "tunableif") ∷ names)) names
    ∙ ap (λ added. pieces_of old ++ added) (tunable_is settings from to c.in-Some.condition inner holds branches value ∙ ap (tunable_projected settings from to) (sym c.in-Some.ensures))
