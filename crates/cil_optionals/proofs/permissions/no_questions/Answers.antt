use Rattle.cil_optionals.proofs.ListedLemmas.{only-none}
use Rattle.cil_optionals.proofs.permissions.no_questions.Goals as goal

pub returns : goal.returns
returns g c = c.in_ok-recent.ensures.items_if_clones_equal (only-none _ (λ x some. some))
