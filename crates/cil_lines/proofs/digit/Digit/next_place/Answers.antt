use Rattle.std.proofs.Common.{◌≤◌, ◌<◌, ◌∙◌, ap, length, arith, rules}
use Rattle.cil_lines.specs.declared.digit.Entry.{Entry}
use Rattle.cil_lines.proofs.EntryLemmas.{Rises-from, Rises-below}
use Rattle.cil_lines.proofs.SearchLemmas.{IsFrom, from-entry, from-gap, none_before, none_behind}
use Rattle.cil_lines.proofs.DigitLemmas.{sparse_is}
use Rattle.cil_lines.proofs.digit.Digit.next_place.Goals as goal
use Rattle.cil_lines.proofs.digit.Digit.next_place.Goals.{in-Ok, in-Ok-2}

pub search-requires : goal.search-requires
search-requires g c = rw c.deref.ensures.value (Rises-from _ _ 0 _ (omega arith) c.self.invariant.1)

pub returns-then-place-len : goal.returns-then-place-len
returns-then-place-len g c =
    let l = c.self.inside.dense.items in
    let es = c.self.inside.sparse.items in
    let past : length l ≤ c.args.from = search rules in
    let within : c.match-search.place < length es = search rules in
    let from : IsFrom es c.args.from c.match-search.place =
    elim c.match-search.branch [
      | in-Ok w ↦ rw w.place-is (from-entry _ _ es c.args.from _ c.self.invariant.1 (rw c.deref.ensures.value at w.in-Ok.ensures))
      | in-Ok-2 w ↦ rw w.place-is (from-gap es c.args.from _ (rw c.deref.ensures.value at w.in-Ok.ensures))
    ] in
    let here = ap (λ (e : Entry). e.word) c.index.ensures in
    let on = from.1 c.match-search.place c.index.result.now (omega arith) within in
    let below = Rises-below _ _ es c.self.invariant.1 c.match-search.place c.index.result.now within in (
      omega (arith, here, on),
      omega (arith, here, below),
      λ w upto before. rw (← c.self.view_is) (sparse_is l es w (omega (arith, past, upto))
          ∙ none_before _ _ es c.args.from c.match-search.place c.index.result.now c.self.invariant.1 from within w upto (omega (arith, here, before))),
    )

pub returns-else-place-len : goal.returns-else-place-len
returns-else-place-len g c w upto =
    let l = c.self.inside.dense.items in
    let es = c.self.inside.sparse.items in
    let past : length l ≤ c.args.from = search rules in
    let behind : length es ≤ c.match-search.place = search rules in
    let from : IsFrom es c.args.from c.match-search.place =
    elim c.match-search.branch [
      | in-Ok v ↦ rw v.place-is (from-entry _ _ es c.args.from _ c.self.invariant.1 (rw c.deref.ensures.value at v.in-Ok.ensures))
      | in-Ok-2 v ↦ rw v.place-is (from-gap es c.args.from _ (rw c.deref.ensures.value at v.in-Ok.ensures))
    ] in
    rw (← c.self.view_is) (sparse_is l es w (omega (arith, past, upto)) ∙ none_behind es c.args.from c.match-search.place from behind w upto)
