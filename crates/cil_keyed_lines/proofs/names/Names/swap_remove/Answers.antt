use Rattle.cil_keyed_lines.proofs.NameLemmas.{names_taken}
use Rattle.cil_keyed_lines.proofs.names.Names.swap_remove.Goals as goal

pub invariant_of-self : goal.invariant_of-self
invariant_of-self g c =
    rw c.swap_remove.ensures.items
    (names_taken c.self.inside.named.items c.self.inside.users.items c.self.inside.log.items c.args.place c.swap_remove.result c.self.invariant
    (rw (← c.self.view_is) at c.requires.settled) (rw (← c.self.view_is) at c.requires.place) (rw (← c.self.view_is) at c.requires.none) c.swap_remove.ensures.value)
