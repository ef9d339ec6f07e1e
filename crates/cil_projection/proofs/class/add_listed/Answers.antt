use Rattle.std.proofs.Common.{[], ◌∷◌, Some, true, subst}
use Rattle.cil_reader.specs.Common.{trees_of}
use Rattle.cil_projection.specs.Pieces.{closed, opened}
use Rattle.cil_projection.specs.Forms.{Adds, joined, permissions_in}
use Rattle.cil_projection.proofs.FormLemmas.{adds_then, pushed_one}
use Rattle.cil_projection.proofs.class.add_listed.Goals as goal

pub returns : goal.returns
returns g c =
    let start = c.args.pieces.now.items in
    let first = c.add_piece.new.pieces.items in
    let middle = c.add_expression.new.pieces.items in
    let permissions = permissions_in (trees_of c.args.items) in
    let front = joined (Some (opened c.args.class.text.now ∷ [])) permissions in
    adds_then start middle c.add_piece-2.new.pieces.items true front (Some (closed ∷ []))
    (adds_then start first middle true (Some (opened c.args.class.text.now ∷ [])) permissions (pushed_one start first _ c.in_ok-add_piece.ensures)
    (subst (λ fits. Adds first middle fits permissions) c.if-not-branch.false c.in_ok-add_expression.ensures))
    (pushed_one middle c.add_piece-2.new.pieces.items _ c.in_ok-add_piece-2.ensures)
