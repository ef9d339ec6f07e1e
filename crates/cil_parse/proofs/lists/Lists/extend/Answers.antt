use Rattle.std.proofs.Common.{◌∙◌, ◌++◌, ap}
use Rattle.cil_parse.proofs.ListLemmas.{grows}
use Rattle.cil_parse.proofs.lists.Lists.extend.Goals as goal

pub invariant_of-self-2 : goal.invariant_of-self-2
invariant_of-self-2 g c =
    (grows c.self.inside.ends.items c.self.inside.items.items c.args.items.now c.extend_from_slice.new.self.items c.in_ok-extend_from_slice.ensures.items c.self.invariant).rises

pub returns-clause-ok : goal.returns-clause-ok
returns-clause-ok g c =
    (grows c.self.inside.ends.items c.self.inside.items.items c.args.items.now c.extend_from_slice.new.self.items c.in_ok-extend_from_slice.ensures.items c.self.invariant).is ∙ ap (λ s. (s.0, s.1 ++ c.args.items.now)) c.self.view_is
