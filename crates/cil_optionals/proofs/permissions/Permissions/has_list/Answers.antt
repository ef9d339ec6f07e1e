use Rattle.cil_optionals.proofs.Common.{sym, ap, ◌∙◌, list_all, texts_of, permissions_in, has_list}
use Rattle.cil_bind.specs.KnownLists.{texts_listed}
use Rattle.cil_optionals.proofs.KnownLemmas.{listed-words}
use Rattle.cil_optionals.proofs.permissions.Permissions.has_list.Goals as goal

pub invariant_of-self-clause-known_are : goal.invariant_of-self-clause-known_are
invariant_of-self-clause-known_are g c =
    let r = c.requires in
    let old = c.args.self.now in
    let new = c.has_all.new.self in
    let number = c.args.list.«module» in
    let list = c.args.list.list in
    let has = permissions_in old.listed.now c.args.class in
    let listed = texts_listed old.joined.now.modules.items number list in
    c.note.ensures (has_list new.joined.now.modules.items (permissions_in new.listed.now))
    (ap (λ x. list_all (permissions_in x.now c.args.class) (texts_listed new.joined.now.modules.items number list)) c.in_ok-there.ensures.listed
    ∙ ap (λ j. list_all has (texts_listed j.now.modules.items number list)) c.in_ok-there.ensures.joined
    ∙ listed-words (texts_of c.args.«module».now) c.args.words.now has listed r.0 r.0 r.1 r.2 r.1 ∙ sym (c.in_ok-there.ensures.has r.0 r.1) ∙ c.if-there.true)
    new.known_are
