use Rattle.cil_matching.proofs.Common.{◌≡◌, ◌∙◌, ◌↔◌, ◌<◌, length, slice_get, Some, sym, ap, subst, arith, IsSameSet, sets_in, set_spot}
use Rattle.cil_matching.proofs.ApartLemmas.{sets-agree, apart-sets}
use Rattle.cil_matching.proofs.MatchedLemmas.{places-apart, places-below, matched-by}
use Rattle.cil_matching.proofs.set_matching.SetMatching.of.Goals as goal

pub inverse-requires-clause-below : goal.inverse-requires-clause-below
inverse-requires-clause-below g c = λ i j at.
    let olds = sets_in c.args.old.now in
    let news = sets_in c.args.new.now in
    subst (λ n. j < n) (sym c.sets_len.ensures)
    (places-below IsSameSet olds news (length olds) c.in_ok-ahead.ahead.items (omega arith) c.in_ok-ahead.ensures i j (ap (λ l. slice_get l i) (sym c.deref.ensures.value) ∙ at))

pub inverse-requires-clause-apart : goal.inverse-requires-clause-apart
inverse-requires-clause-apart g c = λ i k j first second.
    let olds = sets_in c.args.old.now in
    let news = sets_in c.args.new.now in
    places-apart IsSameSet olds news set_spot sets-agree (length olds) c.in_ok-ahead.ahead.items (apart-sets olds c.resolved_sets_are_apart.ensures.apart) (omega arith) c.in_ok-ahead.ensures i k j
    (ap (λ l. slice_get l i) (sym c.deref.ensures.value) ∙ first) (ap (λ l. slice_get l k) (sym c.deref.ensures.value) ∙ second)

pub returns : goal.returns
returns g c =
    let olds = sets_in c.args.old.now in
    let news = sets_in c.args.new.now in
    matched-by IsSameSet olds news (length olds) c.in_ok-ahead.ahead.items c.in_ok-back.back.items (omega arith) c.in_ok-ahead.ensures
    (λ i j. subst (λ l. (slice_get c.in_ok-back.back.items j ≡ Some (Some i)) ↔ (slice_get l i ≡ Some (Some j))) c.deref.ensures.value (c.in_ok-back.ensures i j))
