use Rattle.std.proofs.lemmas.Result.{IfOk-weaker}
use Rattle.cil_specs.specs.Joined.{joined}
use Rattle.cil_bind.proofs.WordLemmas.{worded-grows}
use Rattle.cil_bind.proofs.policy.Policy.of_names.Goals as goal

pub of-requires-2-clause-stands : goal.of-requires-2-clause-stands
of-requires-2-clause-stands g c =
    let spelt = c.requires.spelt in
    (spelt.0, spelt.1, c.in_ok-scope.ensures.stands spelt.0 spelt.1)

pub of_statements-requires-clause-stands : goal.of_statements-requires-clause-stands
of_statements-requires-clause-stands g c =
    let spelt = c.requires.spelt in
    (joined spelt.0, c.in_ok-scope.ensures.stands spelt.0 spelt.1, c.in_ok-scope.ensures.from spelt.0 spelt.1)

pub of_statements-requires-clause-numbered : goal.of_statements-requires-clause-numbered
of_statements-requires-clause-numbered g c =
    c.in_ok-numbers.ensures.numbered (worded-grows _ _ _ _ c.requires.worded c.in_ok-scope.ensures.kept)

pub returns-clause-made : goal.returns-clause-made
returns-clause-made g c =
    IfOk-weaker c.of_statements.result _ _ (λ made says modules are. says (joined modules) (c.in_ok-scope.ensures.stands modules are) (c.in_ok-scope.ensures.from modules are)) c.of_statements.ensures.made

pub returns-clause-around : goal.returns-clause-around
returns-clause-around g c = IfOk-weaker c.of_statements.result _ _ (λ made says modules are. says (joined modules) (c.in_ok-scope.ensures.around modules are)) c.of_statements.ensures.around
