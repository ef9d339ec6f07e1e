use Rattle.cil_lines.proofs.Common.{◌≡◌, ◌≤◌, ◌<◌, ℕ, ◌∙◌, ap, refl, length, get_or, arith, rules, inl, inr, cases_lt, with_items_is, get_or-eq_default, Rises}
use Rattle.cil_lines.proofs.EntryLemmas.{Rises-from}
use Rattle.cil_lines.proofs.DigitLemmas.{bits-spread}
use Rattle.cil_lines.proofs.PlaceLemmas.{kept-spread}
use Rattle.cil_lines.proofs.digit.Digit.spread.Goals as goal

pub fill-requires : goal.fill-requires
fill-requires g c =
    let long : length c.deref_mut.result.now ≡ c.args.end = c.deref_mut.ensures.len ∙ c.in_ok-resize.ensures.len in
    let rises = rw (← c.self.view_is) at c.requires.rises in
    rw (c.deref.ensures.value, long) (Rises-from _ _ 0 _ (omega arith) rises)

pub returns-clause-bits : goal.returns-clause-bits
returns-clause-bits g c w =
    let l = c.self.inside.dense.items in
    let l' = c.deref_mut.result.now in
    let es = c.self.inside.sparse.items in
    let long : length l' ≡ c.args.end = c.deref_mut.ensures.len ∙ c.in_ok-resize.ensures.len in
    let longer : length c.fill.new.words ≡ c.args.end = c.fill.ensures.len ∙ long in
    let rises : Rises (length l) c.args.end es = rw (← c.self.view_is) at c.requires.rises in
    let behind : length l ≤ c.args.end = rw (← c.self.view_is) at c.requires.behind in
    let kept : (v : ℕ) → v < length l → get_or l' v 0 ≡ get_or l v 0 = λ v first. rw c.deref_mut.ensures.value (c.in_ok-resize.ensures.by_index.0 v 0 (omega (arith, behind, first)) (search rules) ∙ ap (λ m. get_or m v 0) c.reserve.ensures.same) in
    let none : (v : ℕ) → length l ≤ v → get_or l' v 0 ≡ 0 = λ v later.
    elim (cases_lt v c.args.end) [
      | inl within ↦ rw c.deref_mut.ensures.value (c.in_ok-resize.ensures.by_index.1 v 0 refl (search rules) within)
      | inr past ↦ get_or-eq_default l' 0 (omega (arith, long, past))
    ] in
    let filled = rw c.deref.ensures.value at (c.fill.ensures.words (length l) (rw (c.deref.ensures.value, long) rises) none) in
    let stored = with_items_is c.resize.new.self c.fill.new.words (c.fill.ensures.len ∙ c.deref_mut.ensures.len) in
    rw (← c.self.view_is, stored, c.new.ensures.items) (bits-spread l l' c.fill.new.words es c.args.end longer rises kept filled behind w)

pub returns-clause-kept : goal.returns-clause-kept
returns-clause-kept g c w place =
    let l = c.self.inside.dense.items in
    let es = c.self.inside.sparse.items in
    let longer : length c.fill.new.words ≡ c.args.end = c.fill.ensures.len ∙ c.deref_mut.ensures.len ∙ c.in_ok-resize.ensures.len in
    let rises : Rises (length l) c.args.end es = rw (← c.self.view_is) at c.requires.rises in
    let behind : length l ≤ c.args.end = rw (← c.self.view_is) at c.requires.behind in
    let before = rw (← c.self.view_is) at place in
    let stored = with_items_is c.resize.new.self c.fill.new.words (c.fill.ensures.len ∙ c.deref_mut.ensures.len) in
    rw (stored, c.new.ensures.items) (kept-spread l es c.fill.new.words c.args.end w longer rises behind before)
