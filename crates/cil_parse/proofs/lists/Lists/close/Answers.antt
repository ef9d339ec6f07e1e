use Rattle.std.proofs.Common.{◌∙◌, ◌++◌, ◌∷◌, [], ap}
use Rattle.cil_parse.proofs.ListLemmas.{closes}
use Rattle.cil_parse.proofs.lists.Lists.close.Goals as goal

pub invariant_of-self-2 : goal.invariant_of-self-2
invariant_of-self-2 g c =
    (closes c.self.inside.ends.items c.self.inside.items.items _ c.push.new.self.items (c.in_ok-in_32_bits.ensures.same ∙ c.len.ensures ∙ c.self.inside.items.ok.0) c.in_ok-push.ensures.items c.self.invariant).rises

pub returns-clause-ok : goal.returns-clause-ok
returns-clause-ok g c =
    (closes c.self.inside.ends.items c.self.inside.items.items _ c.push.new.self.items (c.in_ok-in_32_bits.ensures.same ∙ c.len.ensures ∙ c.self.inside.items.ok.0) c.in_ok-push.ensures.items c.self.invariant).is ∙ ap (λ s. (s.0 ++ s.1 ∷ [], [])) c.self.view_is
