use Rattle.cil_bind.proofs.KnownListLemmas.{known-noted}
use Rattle.cil_bind.proofs.known_lists.KnownLists.note.Goals as goal

pub returns-in_err-turn_to : goal.returns-in_err-turn_to
returns-in_err-turn_to g c = λ holds has known. c.turn_to.ensures.known holds known

pub returns-in-Some : goal.returns-in-Some
returns-in-Some g c = λ holds has known.
    known-noted holds c.turn_to.new.self.«module» c.turn_to.new.self.last.items c.args.list.«module» c.args.list.list c.args.class c.in_ok-turn_to.ensures.turned has (c.turn_to.ensures.known holds known)

pub returns-in_default : goal.returns-in_default
returns-in_default g c = λ holds has known. c.turn_to.ensures.known holds known
