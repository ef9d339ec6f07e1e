use Rattle.std.proofs.Common.{◌≡◌, ◌≤◌, ◌^◌, length, arith, rules}
use Rattle.cil_lines.specs.Digit.{IsGap, IsLast}
use Rattle.cil_lines.proofs.EntryLemmas.{Rises-from, Rises-below, Rises-to, Rises-insert}
use Rattle.cil_lines.proofs.DigitLemmas.{OnOk-map, place-dense, place-insert, bits-insert}
use Rattle.cil_lines.proofs.PlaceLemmas.{kept-insert}
use Rattle.cil_lines.proofs.digit.Digit.open.Goals as goal

pub last_word-last-requires : goal.last_word-last-requires
last_word-last-requires g c = rw c.deref.ensures.value (Rises-from _ _ 0 _ (omega arith) c.self.invariant.1)

pub overflow_sub-last : goal.overflow_sub-last
overflow_sub-last g c =
    let this = c.last_word-last.ensures.this in
    let behind : length c.self.inside.dense.items ≤ c.args.word = rw (← c.self.view_is) at c.requires.behind in
    let same : c.len.result ≡ length c.self.inside.dense.items = search rules in
    omega (arith, same, behind, this)

pub dense_end-end-requires : goal.dense_end-end-requires
dense_end-end-requires g c =
    let last : IsLast c.self.inside.sparse.items c.args.word c.last_word-last.result = rw c.deref.ensures.value at c.last_word-last.ensures in
    let less = last.below (2 ^ 58) c.requires.word (Rises-below _ _ c.self.inside.sparse.items c.self.invariant.1) in
    omega (arith, less)

pub spread-requires-clause-behind : goal.spread-requires-clause-behind
spread-requires-clause-behind g c =
    let this = c.last_word-last.ensures.this in
    let behind : length c.self.inside.dense.items ≤ c.args.word = rw (← c.self.view_is) at c.requires.behind in
    let end = c.dense_end-end.ensures.behind in
    rw (← c.self.view_is) (omega (arith, this, behind, end))

pub spread-requires-clause-rises : goal.spread-requires-clause-rises
spread-requires-clause-rises g c =
    let last : IsLast c.self.inside.sparse.items c.args.word c.last_word-last.result = rw c.deref.ensures.value at c.last_word-last.ensures in
    let end = c.dense_end-end.ensures.behind in
    rw (← c.self.view_is) (Rises-to _ _ _ c.self.inside.sparse.items (λ k d upto. let le = last.all k d upto in omega (arith, le, end)) c.self.invariant.1)

pub invariant_of-self-else-last-len : goal.invariant_of-self-else-last-len
invariant_of-self-else-last-len g c =
    let gap : IsGap c.self.inside.sparse.items c.args.word c.args.place = rw (← c.self.view_is) at c.requires.gap in
    let behind : length c.self.inside.dense.items ≤ c.args.word = rw (← c.self.view_is) at c.requires.behind in
    (c.self.invariant.0, rw (c.in_ok-insert.ensures.items, c.reserve.ensures.same) (Rises-insert _ _ c.self.inside.sparse.items c.args.word 0 c.args.place c.self.invariant.1 gap behind c.requires.word))

pub returns-then-last-len-clause-place : goal.returns-then-last-len-clause-place
returns-then-last-len-clause-place g c =
    let this = c.last_word-last.ensures.this in
    let end = c.dense_end-end.ensures.behind in
    OnOk-map c.spread.result (λ long. place-dense c.spread.new.self c.args.word (omega (arith, long, this, end))) c.spread.ensures.len

pub returns-in_ok-insert-clause-place : goal.returns-in_ok-insert-clause-place
returns-in_ok-insert-clause-place g c =
    let gap : IsGap c.self.inside.sparse.items c.args.word c.args.place = rw (← c.self.view_is) at c.requires.gap in
    rw (c.in_ok-insert.ensures.items, c.reserve.ensures.same) (place-insert c.self.inside.dense.items c.self.inside.sparse.items c.args.word c.args.place gap.within)

pub returns-in_ok-insert-clause-bits : goal.returns-in_ok-insert-clause-bits
returns-in_ok-insert-clause-bits g c w =
    let gap : IsGap c.self.inside.sparse.items c.args.word c.args.place = rw (← c.self.view_is) at c.requires.gap in
    rw (← c.self.view_is, c.in_ok-insert.ensures.items, c.reserve.ensures.same) (bits-insert c.self.inside.dense.items c.self.inside.sparse.items c.args.word c.args.place gap w)

pub returns-in_ok-insert-clause-kept : goal.returns-in_ok-insert-clause-kept
returns-in_ok-insert-clause-kept g c w place =
    let before = rw (← c.self.view_is) at place in
    rw (c.in_ok-insert.ensures.items, c.reserve.ensures.same) (kept-insert c.self.inside.dense.items c.self.inside.sparse.items c.args.word c.args.place w before)
