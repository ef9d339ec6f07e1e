use Rattle.cil_keyed_lines.proofs.Common.{◌≡◌, ◌∙◌, AreKeyed, ap, arith, count_by, count_now, get_or, has_place, length, lines_in, now_in, subst, sym, ℕ}
use Rattle.cil_keyed_lines.proofs.Common.{SymbolKey}
use Rattle.cil_keyed_lines.proofs.EndedLemmas.{among_take}
use Rattle.cil_keyed_lines.proofs.SharedLemmas.{all_counted, counted_left, counts_kept, lined_left, same_before}
use Rattle.std.proofs.lemmas.List.{get_or_past, length-take-le}
use Rattle.cil_keyed_lines.proofs.keyed_lines.KeyedLines.settle.Given as given
use Rattle.cil_keyed_lines.proofs.keyed_lines.KeyedLines.settle.Goals as goal
use Rattle.cil_keyed_lines.proofs.keyed_lines.KeyedLines.settle.Goals.{After-pack_grown-self-inside}

pub take_out_unnamed-requires-clause-paired : goal.take_out_unnamed-requires-clause-paired
take_out_unnamed-requires-clause-paired g c =
    record { distinct = c.self.invariant.distinct; len = ap length c.settle_into-3.ensures.named ∙ c.self.invariant.len; settled = c.settle_into-3.ensures.log }

pub take_out_unnamed-requires-clause-logged : goal.take_out_unnamed-requires-clause-logged
take_out_unnamed-requires-clause-logged g c p less none =
    ap (λ l. has_place l p) c.settle_into-3.ensures.given
    ∙ c.self.invariant.logged p (omega (arith, less, c.self.invariant.len)) (sym (ap (λ l. get_or l p 0) c.settle_into-3.ensures.named) ∙ none)

pub cut-requires-clause-lined : goal.cut-requires-clause-lined
cut-requires-clause-lined g c =
    let old = c.self.inside in
    let now : (l t : ℕ) → count_now c.settle_into-2.new.self l t ≡ count_now old.lines l t = λ l t. c.settle_into-2.ensures.now l t ∙ c.give_up_words.ensures.now l t ∙ c.settle_into.ensures.now l t in
    lined_left old.keys.keys c.take_out_unnamed.new.keys.keys old.names c.settle_into-3.new.self c.take_out_unnamed.new.names old.lines c.settle_into-2.new.self old.keys_before old.lines_before c.self.invariant
    c.settle_into-3.ensures.named c.take_out_unnamed.ensures.taken now c.take_out_unnamed.ensures.paired.settled (c.take_out_unnamed.ensures.taken.lines ∙ c.settle_into-3.ensures.lines)
    (c.settle_into-2.ensures.lines ∙ c.give_up_words.ensures.lines ∙ c.settle_into.ensures.lines) (λ l t. c.settle_into-2.ensures.before l t ∙ sym (c.settle_into-2.ensures.now l t))

pub cut-requires-clause-counted : goal.cut-requires-clause-counted
cut-requires-clause-counted g c =
    let old = c.self.inside in
    let now : (l t : ℕ) → count_now c.settle_into-2.new.self l t ≡ count_now old.lines l t = λ l t. c.settle_into-2.ensures.now l t ∙ c.give_up_words.ensures.now l t ∙ c.settle_into.ensures.now l t in
    counted_left old.keys.keys c.take_out_unnamed.new.keys.keys old.names c.settle_into-3.new.self c.take_out_unnamed.new.names old.lines c.settle_into-2.new.self old.keys_before old.lines_before c.self.invariant
    c.settle_into-3.ensures.named c.take_out_unnamed.ensures.taken now

pub cut-requires-clause-have : goal.cut-requires-clause-have
cut-requires-clause-have g c = omega (arith, c.len-places.ensures.len)

pub cut-requires-clause-named : goal.cut-requires-clause-named
cut-requires-clause-named g c p less = c.take_out_unnamed.ensures.named p (omega (arith, less, c.len-places.ensures.len))

pub cut-requires-clause-rest : goal.cut-requires-clause-rest
cut-requires-clause-rest g c p past = get_or_past c.take_out_unnamed.new.names.named p 0 (omega (arith, past, c.len-places.ensures.len, c.take_out_unnamed.ensures.paired.len))

-- no counter has changed
packed : (g : given.Over) (c : After-pack_grown-self-inside g) (k : SymbolKey) (t : ℕ)
    → count_by (now_in c.pack_grown-self-inside.new.names c.pack_grown-self-inside.new.lines) c.cut.new.keys.keys k t ≡ count_by (now_in c.self.inside.names c.self.inside.lines) c.self.inside.keys.keys k t
packed g c k t =
    let old = c.self.inside in
    let now : (l t : ℕ) → count_now c.settle_into-2.new.self l t ≡ count_now old.lines l t = λ l t. c.settle_into-2.ensures.now l t ∙ c.give_up_words.ensures.now l t ∙ c.settle_into.ensures.now l t in
    c.pack_grown-self-inside.ensures.now k t ∙ c.cut.ensures.now k t
    ∙ counts_kept old.keys.keys c.take_out_unnamed.new.keys.keys old.names c.settle_into-3.new.self c.take_out_unnamed.new.names old.lines c.settle_into-2.new.self old.keys_before old.lines_before c.self.invariant
    c.settle_into-3.ensures.named c.take_out_unnamed.ensures.taken now k t

pub returns-clause-now : goal.returns-clause-now
returns-clause-now g c k t = rw (← c.self.view_is) (packed g (goal.at.returns-clause-now g c).After-pack_grown-self-inside k t)

pub returns-clause-before : goal.returns-clause-before
returns-clause-before g c k t =
    let pack = c.pack_grown-self-inside in
    rw (← c.self.view_is)
    (same_before c.cut.new.keys.keys pack.new.names pack.new.lines _ (lines_in pack.new.lines) pack.ensures.shared pack.ensures.log pack.ensures.steps k t
    ∙ packed g (goal.at.returns-clause-before g c).After-pack_grown-self-inside k t)

pub returns-clause-counted : goal.returns-clause-counted
returns-clause-counted g c =
    let pack = c.pack_grown-self-inside in
    all_counted c.cut.new.keys.keys pack.new.names pack.new.lines _ (lines_in pack.new.lines) pack.ensures.shared pack.ensures.log

pub returns-clause-changes : goal.returns-clause-changes
returns-clause-changes g c = omega (arith, ap length c.pack_grown-self-inside.ensures.log, c.pack_grown-self-inside.ensures.steps)

pub returns-clause-keys : goal.returns-clause-keys
returns-clause-keys g c key at =
    rw (← c.self.view_is)
    (c.take_out_unnamed.ensures.taken.among key (among_take c.take_out_unnamed.new.keys.keys c.len-places.result (omega (arith, c.len-places.ensures.len)) key (rw c.cut.ensures.keys at at)))

pub invariant_of-self : goal.invariant_of-self
invariant_of-self g c =
    let keys = c.cut.new.keys.keys in
    let pack = c.pack_grown-self-inside in
    let places : length keys ≡ c.len-places.result =
    omega (arith, ap length c.cut.ensures.keys, length-take-le c.len-places.result c.take_out_unnamed.new.keys.keys (omega (arith, c.len-places.ensures.len))) in
    rw c.len-self-inside.ensures (subst (λ n. AreKeyed keys pack.new.names pack.new.lines n (lines_in pack.new.lines)) places pack.ensures.shared)
