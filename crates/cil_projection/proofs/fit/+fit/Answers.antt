use Rattle.std.proofs.Common.{arith}
use Rattle.cil_reader.specs.Common.{trees_of}
use Rattle.cil_reader.proofs.Nodes.{size_first}
use Rattle.cil_projection.proofs.FormLemmas.{adds_parts}
use Rattle.cil_projection.proofs.fit.+fit.Goals as goal

pub fit-add_part-requires : goal.fit-add_part-requires
fit-add_part-requires g t c κs within =
    (omega (arith, c.decreases, size_first (trees_of c.args.trees) c.in-Some.tree (trees_of c.in-Some.behind) c.in-Some.ensures), within)

pub fit-returns : goal.fit-returns
fit-returns g t c =
    let rest = trees_of c.in-Some.behind in
    let tree = c.in-Some.tree in
    let before = c.args.pieces.now.items in
    let middle = c.add_part.new.pieces.items in
    let after = c.fit.new.pieces.items in
    adds_parts c.args.parts.now _ (trees_of c.args.trees) tree rest before middle after c.in_ok-add_part.field-0 c.in_ok-fits.fits c.in-len1-up.len_at_least c.in-Some.ensures
    c.if-not-branch.false (c.in_ok-add_part.ensures rest) c.in_ok-fits.ensures
