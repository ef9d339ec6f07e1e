use Rattle.std.proofs.Common.{◌<◌, length, get_or, if◌then◌else◌, sym, ap, ◌∙◌, arith, inl, inr, rules, take_all}
use Rattle.std.proofs.lemmas.Bool.{cases_lt, lt-ltb, le-ltb}
use Rattle.cil_lines.proofs.EntryLemmas.{Rises-below, fill_step}
use Rattle.cil_lines.proofs.digit.fill.Goals as goal

pub bounds-words-entry : goal.bounds-words-entry
bounds-words-entry c =
    let within = Rises-below _ _ c.args.entries.now c.requires c.loop-entry.entry-index (record { word = 0; bits = 0 }) c.loop-entry-test.true in
    let same = c.loop-entry.auto.words in
    omega (arith, within, same)

pub offset_bounds-words-entry : goal.offset_bounds-words-entry
offset_bounds-words-entry c =
    let within = Rises-below _ _ c.args.entries.now c.requires c.loop-entry.entry-index (record { word = 0; bits = 0 }) c.loop-entry-test.true in
    let lt : (get_or c.args.entries.now c.loop-entry.entry-index (record { word = 0; bits = 0 })).word < length c.loop-entry.words = bounds-words-entry c in
    search rules

pub loop-entry-init : goal.loop-entry-init
loop-entry-init c n r none w =
    elim (cases_lt w n) [
      | inl first ↦ sym (ap (λ t. if t then get_or c.args.words.now w 0 else 0) (lt-ltb w n first))
      | inr later ↦ none w later ∙ sym (ap (λ t. if t then get_or c.args.words.now w 0 else 0) (le-ltb w n later))
    ]

pub loop-entry-preserved : goal.loop-entry-preserved
loop-entry-preserved c n r none =
    fill_step n _ c.args.entries.now c.loop-entry.entry-index _ c.args.words.now c.loop-entry.words r c.loop-entry-test.true (bounds-words-entry c) (c.loop-entry.invariant n r none)

pub returns-clause-words : goal.returns-clause-words
returns-clause-words c n r none w =
    let past = c.loop-entry-test.false in
    rw (take_all c.loop-entry.entry-index c.args.entries.now past) at (c.loop-entry.invariant n r none w)
