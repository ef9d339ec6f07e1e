use Rattle.cil_lines.proofs.Common.{◌≡◌, ◌+◌, ◌-◌, ◌^◌, ◌<◌, ◌≤◌, ◌∙◌, ℕ, List, length, get_or, ap, arith, rules, get_or_default, Entry, Rises, bits_of}
use Rattle.cil_lines.proofs.EntryLemmas.{Rises-above, Rises-below, Rises-last, Rises-to, bits_in-past}
use Rattle.cil_lines.proofs.DigitLemmas.{sparse_is}
use Rattle.cil_lines.proofs.digit.Digit.end.Goals as goal

-- no word has bits that isn't below an end behind the dense words and the entries
none-past : (l : List ℕ) (es : List Entry) (end w : ℕ) → Rises (length l) (2 ^ 58) es → length l ≤ end → ((k : ℕ) (d : Entry) → k < length es → (get_or es k d).word < end) → end ≤ w
    → bits_of (record { dense = l; sparse = es }) w ≡ 0
none-past l es end w rises behind below past = sparse_is l es w (omega arith) ∙ bits_in-past (length l) end es w (Rises-to (length l) (2 ^ 58) end es below rises) past

pub returns-then-is_empty : goal.returns-then-is_empty
returns-then-is_empty g c w past =
    let es = c.self.inside.sparse.items in
    let none : length es ≡ 0 = search rules in
    let len : c.len.result ≡ length c.self.inside.dense.items = c.len.ensures ∙ c.self.inside.dense.ok.0 in
    let below : (k : ℕ) (d : Entry) → k < length es → (get_or es k d).word < c.len.result = λ k d within. absurd (omega (arith, none, within)) in
    rw (← c.self.view_is) (none-past c.self.inside.dense.items es c.len.result w c.self.invariant.1 (omega (arith, len)) below past)

pub overflow_add-result : goal.overflow_add-result
overflow_add-result g c =
    let es = c.self.inside.sparse.items in
    let len : c.len-2.result ≡ length es = c.len-2.ensures ∙ c.self.inside.sparse.ok.0 in
    let some : 0 < length es = search rules in
    let here : c.index.result.now.word ≡ (get_or es (c.len-2.result - 1) c.index.result.now).word = ap (λ (e : Entry). e.word) c.index.ensures in
    let below = Rises-below (length c.self.inside.dense.items) (2 ^ 58) es c.self.invariant.1 (c.len-2.result - 1) c.index.result.now (omega (arith, len, some)) in
    omega (arith, below, here)

pub returns : goal.returns
returns g c w past =
    let l = c.self.inside.dense.items in
    let es = c.self.inside.sparse.items in
    let end = c.index.result.now.word + 1 in
    let len : c.len-2.result ≡ length es = c.len-2.ensures ∙ c.self.inside.sparse.ok.0 in
    let some : 0 < length es = search rules in
    let here : c.index.result.now.word ≡ (get_or es (c.len-2.result - 1) c.index.result.now).word = ap (λ (e : Entry). e.word) c.index.ensures in
    let above = Rises-above (length l) (2 ^ 58) es c.self.invariant.1 (c.len-2.result - 1) c.index.result.now (omega (arith, len, some)) in
    let below : (k : ℕ) (d : Entry) → k < length es → (get_or es k d).word < end =
    λ k d within. let same = ap (λ j. (get_or es (j - 1) d).word) len in
    let last = Rises-last (length l) (2 ^ 58) es c.self.invariant.1 k d within in
    let default = ap (λ (e : Entry). e.word) (get_or_default es (c.len-2.result - 1) d c.index.result.now (omega (arith, len, some))) in
    omega (arith, same, last, default, here) in
    rw (← c.self.view_is) (none-past l es end w c.self.invariant.1 (omega (arith, above, here)) below past)
