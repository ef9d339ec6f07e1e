use Rattle.cil_accesses.proofs.Common.{◌<◌, ◌^◌, subst, All-contains, at_place, IsNextRow}
use Rattle.cil_accesses.proofs.Moves.{behind, behind-is, row-is}
use Rattle.cil_accesses.proofs.RowPlaces.{first-of-run}
use Rattle.cil_accesses.proofs.rows.next_row.Goals as goal

pub access-requires-clause-word : goal.access-requires-clause-word
access-requires-clause-word c =
    let p = c.loop-first.place in
    let at = c.loop-first.invariant.place in
    All-contains (λ d. d.word < 2 ^ 26) p.run.now c.in-Some.first.now at.run_words (first-of-run p at c.in-Some.first.now c.in-Some.chunks.now c.in-Some.left.now c.in-Some.ensures)

pub returns-in-Some : goal.returns-in-Some
returns-in-Some c =
    let p = c.loop-first.place in
    let at = c.loop-first.invariant.place in (
      behind-is p c.in-Some.left at c.in-Some.first.now c.in-Some.chunks.now c.in-Some.ensures,
      subst (λ l. IsNextRow (record { first = c.access.result; chunks = c.in-Some.chunks; bit = p.bit }) l (at_place (behind p c.in-Some.left))) c.loop-first.invariant.same
          (row-is p c.in-Some.left c.in-Some.chunks c.access.result at c.in-Some.first.now c.in-Some.ensures c.access.ensures),
    )
