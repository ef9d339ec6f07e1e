use Rattle.cil_keyed_lines.proofs.Common.{◌≡◌, ◌∙◌, ap, arith, ◌++◌, ◌∷◌, []}
use Rattle.cil_keyed_lines.proofs.NameLemmas.{before_pushed, logged_pushed}
use Rattle.cil_keyed_lines.proofs.names.Names.push.Given as given
use Rattle.cil_keyed_lines.proofs.names.Names.push.Goals as goal
use Rattle.cil_keyed_lines.proofs.names.Names.push.Goals.{After-log_rename}

-- the log has one change more
grown : (g : given.Over) (c : After-log_rename g) → c.log_rename.new.log.items ≡ c.self.inside.log.items ++ record { place = c.len-place.result; line = 0 } ∷ []
grown g c = c.log_rename.ensures.items ∙ ap (λ log. log ++ record { place = c.len-place.result; line = 0 } ∷ []) c.reserve.ensures.items

pub returns-clause-before : goal.returns-clause-before
returns-clause-before g c =
    rw (← c.self.view_is)
    (before_pushed c.self.inside.named.items c.push.new.self.items c.self.inside.log.items c.log_rename.new.log.items c.len-place.result (omega (arith, c.len-place.ensures)) c.in_ok-push.ensures.items
    (grown g (goal.at.returns-clause-before g c).After-log_rename))

pub returns-clause-logged : goal.returns-clause-logged
returns-clause-logged g c =
    rw (← c.self.view_is)
    (logged_pushed c.self.inside.named.items c.push.new.self.items c.self.inside.log.items c.log_rename.new.log.items c.len-place.result (omega (arith, c.len-place.ensures)) c.in_ok-push.ensures.items
    (grown g (goal.at.returns-clause-logged g c).After-log_rename))
