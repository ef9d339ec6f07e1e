use Rattle.std.proofs.Common.{◌∙◌, sym}
use Rattle.cil_reader.specs.Common.{trees_of}
use Rattle.cil_projection.specs.Conditions.{settings_of}
use Rattle.cil_projection.specs.Pieces.{pieces_of}
use Rattle.cil_projection.specs.Statements.{branches_need, kept_branches}
use Rattle.cil_projection.proofs.FormLemmas.{adds_behind}
use Rattle.cil_projection.proofs.BranchLemmas.{chosen_is}
use Rattle.cil_projection.proofs.statement.Projector.chosen.Goals as goal

pub returns : goal.returns
returns g c =
    let settings = settings_of c.args.self.now.booleans.now in
    let branches = trees_of c.args.branches in
    let needs = branches_need settings c.args.holds branches in
    let kept = kept_branches settings c.args.holds c.args.span.from branches c.args.span.to in
    adds_behind c.new-pieces.result.items c.add_kept.new.pieces.items c.add_piece.new.pieces.items c.append.new.self.items c.args.names.items c.add_branches.new.pieces.items _ kept
    c.in_ok-add_branches.field-0 needs c.new-pieces.ensures.items c.in_ok-add_kept.ensures c.in_ok-add_piece.ensures c.in_ok-append.ensures.items c.if-not-branch.false c.in_ok-add_branches.ensures
    ∙ chosen_is settings c.args.span.from c.args.span.to c.args.holds (pieces_of c.args.names.items) branches (sym c.are_branches.ensures ∙ c.if-not-are_branches.false)
