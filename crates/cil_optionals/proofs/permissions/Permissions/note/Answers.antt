use Rattle.cil_optionals.proofs.Common.{permissions_in}
use Rattle.cil_optionals.proofs.ListedLemmas.{recent-noted}
use Rattle.cil_optionals.proofs.permissions.Permissions.note.Goals as goal

pub invariant_of-self : goal.invariant_of-self
invariant_of-self g c =
    let was = c.args.self.now in
    record {
      inverse = was.inverse;
      held_are = was.held_are;
      lacked_are = was.lacked_are;
      recent_are = recent-noted (permissions_in was.listed.now) was.recent.items c.args.slot c.args.question was.recent_are c.requires;
      known_are = was.known_are;
    }

pub invariant_of-self-in_default : goal.invariant_of-self-in_default
invariant_of-self-in_default g c =
    let was = c.args.self.now in
    record {
      inverse = was.inverse;
      held_are = was.held_are;
      lacked_are = was.lacked_are;
      recent_are = was.recent_are;
      known_are = was.known_are;
    }
