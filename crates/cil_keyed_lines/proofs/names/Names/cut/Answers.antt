use Rattle.cil_keyed_lines.proofs.NameLemmas.{names_cut}
use Rattle.cil_keyed_lines.proofs.names.Names.cut.Goals as goal

pub invariant_of-self : goal.invariant_of-self
invariant_of-self g c =
    rw (c.truncate.ensures.items, c.truncate-2.ensures.items)
    (names_cut c.self.inside.named.items c.self.inside.users.items c.self.inside.log.items c.args.places c.args.lines c.self.invariant
    (rw (← c.self.view_is) at c.requires.settled) (rw (← c.self.view_is) at c.requires.have_places) (rw (← c.self.view_is) at c.requires.places) (rw (← c.self.view_is) at c.requires.lines))
