use Rattle.cil_keyed_lines.proofs.Common.{◌∙◌, ap, ◌<◌, ◌≡◌, ◌++◌, ◌∷◌, [], get_or, length}
use Rattle.std.proofs.lemmas.List.{get_or_default}
use Rattle.cil_keyed_lines.proofs.NameLemmas.{before_renamed, names_renamed}
use Rattle.cil_keyed_lines.proofs.names.Names.rename.Goals as goal

pub invariant_of-self : goal.invariant_of-self
invariant_of-self g c =
    let old = c.self.inside in
    let within : c.args.place < length old.named.items = rw (← c.self.view_is) at c.requires.place in
    let was : c.index.result.now ≡ get_or old.named.items c.args.place 0 = c.index.ensures ∙ get_or_default old.named.items c.args.place c.index.result.now 0 within in
    names_renamed old.named.items old.users.items c.name.new.named.items c.name.new.users.items c.args.place c.args.line within
    c.name.ensures.named c.name.ensures.len old.log.items c.log_rename.new.log.items c.self.invariant c.name.ensures.counted
    (c.log_rename.ensures.items ∙ ap (λ l. old.log.items ++ record { place = c.args.place; line = l } ∷ []) was)

pub returns-clause-before : goal.returns-clause-before
returns-clause-before g c p =
    let old = c.self.inside in
    let within : c.args.place < length old.named.items = rw (← c.self.view_is) at c.requires.place in
    let was : c.index.result.now ≡ get_or old.named.items c.args.place 0 = c.index.ensures ∙ get_or_default old.named.items c.args.place c.index.result.now 0 within in
    rw (← c.self.view_is, c.name.ensures.named, c.log_rename.ensures.items, was)
    (before_renamed old.named.items old.log.items c.args.place c.args.line within p)
