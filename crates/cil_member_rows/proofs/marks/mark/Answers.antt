use Rattle.std.proofs.Common.{arith, inl, inr, refl, subst}
use Rattle.std.proofs.lemmas.Grind.{get_or-set_at}
use Rattle.cil_member_rows.specs.Marks.{mark_at}
use Rattle.cil_member_rows.specs.Words.{IsOutside}
use Rattle.cil_member_rows.proofs.marks.mark.Goals as goal

pub returns-then-is-clause-kept : goal.returns-then-is-clause-kept
returns-then-is-clause-kept g c w outside =
    let here = get_or-set_at c.args.marks.now.items c.args.row c.args.row c.joined.result (record { first = 0; end = 0 }) refl c.requires.row in
    let both = c.joined.ensures.outside w (subst (λ words. IsOutside words w) here outside) in
    subst (λ marks. IsOutside (mark_at marks c.args.row) w) c.deref.ensures.value (subst (λ words. IsOutside words w) c.marked.ensures both.0)

pub returns-then-is-clause-here : goal.returns-then-is-clause-here
returns-then-is-clause-here g c is w outside same =
    let here = get_or-set_at c.args.marks.now.items c.args.row c.args.row c.joined.result (record { first = 0; end = 0 }) refl c.requires.row in
    let both = c.joined.ensures.outside w (subst (λ words. IsOutside words w) here outside) in
    elim both.1 [
      | inl before ↦ omega (arith, before, same, c.one.ensures.first)
      | inr behind ↦ omega (arith, behind, same, c.one.ensures.end)
    ]
