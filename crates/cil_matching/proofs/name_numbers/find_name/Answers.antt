use Rattle.cil_matching.proofs.Common.{◌≡◌, ◌∙◌, List, ℕ, [], slice_index_or, sym, subst, arith, slice_get-get_or, Ordering, name_cmp, name_total, sorted_from_names_rise, IsMissedAt}
use Rattle.cil_matching.proofs.MergedLemmas.{before-more, missed-at, missed-all}
use Rattle.cil_matching.proofs.name_numbers.find_name.Goals as goal

-- what a comparison of two names tells of those at their places
told : (x y a b : List ℕ) (o p : Ordering) → a ≡ y → b ≡ x → o ≡ name_cmp a b → o ≡ p → name_cmp y x ≡ p
told x y a b o p one two is found = (λ k. name_cmp (sym one k) (sym two k)) ∙ sym is ∙ found

pub returns-in-Greater-clause-err : goal.returns-in-Greater-clause-err
returns-in-Greater-clause-err g c =
    let olds = c.args.old.now.names.items in
    let news = c.args.new.now.names.items in
    let many = c.names_len-j-end.ensures in
    let low = c.loop-j-test.true in
    missed-at name_cmp name_total olds news c.args.i c.loop-j.j (slice_index_or olds c.args.i []) (slice_index_or news c.loop-j.j []) (sorted_from_names_rise news c.args.new.now.ordered) (slice_get-get_or olds c.args.i [] c.requires.within)
    (slice_get-get_or news c.loop-j.j [] (omega (arith, many, low))) (told _ _ c.name.result.now c.name-wanted.result.now c.cmp.result _ c.name.ensures c.name-wanted.ensures c.cmp.ensures c.in-Greater.is) c.loop-j.invariant

pub loop-j-preserved : goal.loop-j-preserved
loop-j-preserved g c =
    let olds = c.args.old.now.names.items in
    let news = c.args.new.now.names.items in
    let many = c.names_len-j-end.ensures in
    let low = c.loop-j-test.true in
    before-more name_cmp name_total olds news c.args.i c.loop-j.j (slice_index_or olds c.args.i []) (slice_index_or news c.loop-j.j []) (slice_get-get_or olds c.args.i [] c.requires.within) (slice_get-get_or news c.loop-j.j [] (omega (arith, many, low)))
    (told _ _ c.name.result.now c.name-wanted.result.now c.cmp.result _ c.name.ensures c.name-wanted.ensures c.cmp.ensures c.in-Less.is) c.loop-j.invariant

pub returns-clause-err : goal.returns-clause-err
returns-clause-err g c =
    let olds = c.args.old.now.names.items in
    let news = c.args.new.now.names.items in
    let many = c.names_len-j-end.ensures in
    let past = c.loop-j-test.false in
    subst (IsMissedAt name_cmp olds news c.args.i) (sym c.names_len.ensures) (missed-all name_cmp name_total olds news c.args.i c.loop-j.j (omega (arith, many, past)) c.loop-j.invariant)
