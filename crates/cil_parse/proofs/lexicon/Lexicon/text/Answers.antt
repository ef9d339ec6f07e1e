use Rattle.std.proofs.Common.{refl, ap, sym, ◌∙◌, slice_get}
use Rattle.cil_parse.specs.declared.lexicon.Lexicon.{Lexicon}
use Rattle.cil_parse.proofs.LexiconLemmas.{name-added, name-known}
use Rattle.cil_parse.proofs.AddsLemmas.{lexicon-new, lexicon-known}
use Rattle.cil_parse.proofs.lexicon.Lexicon.text.Goals as goal

pub returns-in_ok-split-clause-number : goal.returns-in_ok-split-clause-number
returns-in_ok-split-clause-number g c =
    ap (λ l. slice_get l c.in_ok-k.k) c.in_ok-split.ensures.texts ∙ ap (slice_get c.insert.new.self) c.in_ok-k.ensures.same ∙ c.in_ok-n.ensures.number

pub returns-in_ok-split-clause-texts : goal.returns-in_ok-split-clause-texts
returns-in_ok-split-clause-texts g c = c.in_ok-split.ensures.texts ∙ c.in_ok-n.ensures.ok

pub returns-in_ok-split-clause-lexicon : goal.returns-in_ok-split-clause-lexicon
returns-in_ok-split-clause-lexicon g c =
    let old = c.args.self.now in
    let mid : Lexicon g.row.A.Denot = record { texts = c.insert.new.self; names = old.names; components = old.components } in
    lexicon-new old mid c.split.new.self c.args.text.now
    (name-added old.texts c.args.text.now c.insert.new.self c.in_ok-n.ensures.ok (sym c.if-new.true ∙ c.in_ok-n.ensures.added)) refl refl c.in_ok-split.ensures

pub returns-else-new-clause-number : goal.returns-else-new-clause-number
returns-else-new-clause-number g c = ap (slice_get c.insert.new.self) c.in_ok-k.ensures.same ∙ c.in_ok-n.ensures.number

pub returns-else-new-clause-lexicon : goal.returns-else-new-clause-lexicon
returns-else-new-clause-lexicon g c =
    let old = c.args.self.now in
    let new : Lexicon g.row.A.Denot = record { texts = c.insert.new.self; names = old.names; components = old.components } in
    lexicon-known old new (name-known old.texts c.args.text.now c.insert.new.self c.in_ok-n.ensures.ok (sym c.if-new.false ∙ c.in_ok-n.ensures.added)) refl refl
