use Rattle.cil_lookup.proofs.NamespaceLemmas.{opens-some}
use Rattle.cil_lookup.proofs.namespaces.Namespaces.inside.Goals as goal

pub returns-in_ok-opened-in-Some : goal.returns-in_ok-opened-in-Some
returns-in_ok-opened-in-Some g c =
    rw c.in-Some.is (opens-some c.args.self.now c.open.new.self c.args.namespace c.in-Some.word c.in_ok-opened-in-Some.opened c.in_ok-opened-in-Some.ensures.within c.in_ok-opened-in-Some.ensures.opened c.in_ok-opened-in-Some.ensures.kept c.in_ok-opened-in-Some.ensures.exact c.in_ok-opened-in-Some.ensures.distinct)
