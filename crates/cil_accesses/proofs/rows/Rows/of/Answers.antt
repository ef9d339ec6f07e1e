use Rattle.cil_accesses.proofs.Common.{◌∙◌, refl, ap, subst, sym, RowPlace, accesses_of, AreChunks}
use Rattle.cil_accesses.proofs.Moves.{start-place, start-is}
use Rattle.cil_accesses.proofs.rows.Rows.of.Goals as goal

pub invariant_of-result : goal.invariant_of-result
invariant_of-result c =
    let start : RowPlace = record { run = c.split_at.result.0; bits = 0; left = c.split_at.result.0; bit = 63; later = c.split_at.result.1 } in
    start-place start refl c.split_at.ensures.front c.split_at.ensures.front (subst AreChunks (sym c.split_at.ensures.back) c.requires)

pub returns : goal.returns
returns c =
    let start : RowPlace = record { run = c.split_at.result.0; bits = 0; left = c.split_at.result.0; bit = 63; later = c.split_at.result.1 } in
    start-is start refl c.split_at.ensures.front c.split_at.ensures.front ∙ ap accesses_of c.split_at.ensures.back
