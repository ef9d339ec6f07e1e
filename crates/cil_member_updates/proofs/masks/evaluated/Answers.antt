use Rattle.cil_member_updates.proofs.Common.{◌≡◌, ◌∙◌, ℕ, Some, get_or, nat_lt, of_calls, rules, slice_get, sym, meaning_in, name_in, set_of, counts_at}
use Rattle.cil_member_updates.proofs.PlaceLemmas.{set-there}
use Rattle.cil_member_updates.proofs.NameLemmas.{holds-named, keeps-name, keeps-named}
use Rattle.cil_member_updates.proofs.SymbolLemmas.{number-some, symbol-name, symbol-some, symbol-within}
use Rattle.cil_member_updates.proofs.masks.evaluated.Goals as goal

pub unwrap-ty-requires : goal.unwrap-ty-requires
unwrap-ty-requires g c =
    let r = c.args.reading.now.side.now.resolved.now in
    let symbols = c.args.reading.now.symbols.now in
    let (name, at, kept) = keeps-name symbols (meaning_in r) c.args.t c.requires.kept in
    let (k, here) = number-some symbols c.args.reading.now.side.now.numbering.now.symbols r.names.items c.requires.reads.side.numbers c.requires.reads.side.distinct c.args.t name at (c.resolved_names_are_kept.ensures.types name kept) in
    let is = (c.local.ensures k).1 here in
    search rules

pub returns-clause-held : goal.returns-clause-held
returns-clause-held g c =
    let r = c.args.reading.now.side.now.resolved.now in
    let symbols = c.args.reading.now.symbols.now in
    let numbers = c.args.reading.now.side.now.numbering.now.symbols in
    let ty = c.unwrap-ty.result in
    let s = set_of c.args.reading.now in
    let counts = counts_at c.args.reading.now.when c.args.rows.now in
    let at : slice_get numbers ty ≡ Some c.args.t = (c.local.ensures ty).0 c.unwrap-ty.ensures in
    let named = symbol-name symbols numbers r.names.items c.requires.reads.side.numbers ty c.args.t at in
    c.evaluate.ensures.value s (set-there r c.args.reading.now.place c.requires.reads.within) (symbol-within symbols numbers r.names.items c.requires.reads.side.numbers ty c.args.t at)
    (sym (keeps-named symbols (meaning_in r) c.args.t (name_in r ty) named) ∙ c.requires.kept)
    (λ a answer a_within mentioned told.
    let row = get_or numbers a 0 in
    let here = symbol-some symbols numbers r.names.items c.requires.reads.side.numbers a a_within in
    let told_of : (k : ℕ) → slice_get numbers a ≡ Some k → answer ≡ nat_lt 0 (counts k c.args.t) = search (rules, of_calls) in
    told_of row here ∙ c.requires.reads.tell row c.args.t (name_in r a) (name_in r ty) (symbol-name symbols numbers r.names.items c.requires.reads.side.numbers a row here) named mentioned)
    ∙ sym (holds-named symbols (meaning_in r) s c.args.t (name_in r ty) named)
