use Rattle.std.proofs.Common.{◌∙◌, ap, sym, length}
use Rattle.cil_parse.proofs.ListLemmas.{length-cut}
use Rattle.cil_parse.proofs.lists.Lists.len.Goals as goal

pub returns : goal.returns
returns g c = c.len.ensures ∙ c.self.inside.ends.ok.0 ∙ sym (length-cut 0 c.self.inside.ends.items c.self.inside.items.items) ∙ ap (λ s. length s.0) c.self.view_is
