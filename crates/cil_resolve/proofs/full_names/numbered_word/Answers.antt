use Rattle.cil_resolve.proofs.Common.{◌∙◌, sym, ap, seen-kind, seen-word, is_numbered_kind}
use Rattle.cil_resolve.proofs.FullNamesLemmas.{numbered-first}
use Rattle.cil_resolve.proofs.full_names.numbered_word.Goals as goal

pub returns-then-is_numbered : goal.returns-then-is_numbered
returns-then-is_numbered g c policy s is =
    let kind = sym (c.is_numbered.ensures ∙ ap is_numbered_kind (seen-kind c.args.seen.now policy s is)) ∙ c.if-is_numbered.true in
    let (id, declared, first) = numbered-first s.form kind in
    rw declared (rw c.word.ensures (seen-word c.args.seen.now policy s 0 id is first))
