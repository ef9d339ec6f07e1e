use Rattle.cil_rule_shifts.proofs.Common.{◌/◌, ◌||◌, ◌∙◌, ap, ne_eqb, sym, takes}
use Rattle.cil_rule_shifts.proofs.ReachLemmas.{takes-nothing, takes-these}
use Rattle.cil_rule_shifts.proofs.moved.only_word.Goals as goal

pub returns-in_ok-ty-in-Nothing-These-clause-others : goal.returns-in_ok-ty-in-Nothing-These-clause-others
returns-in_ok-ty-in-Nothing-These-clause-others g c s t other =
    let here = c.in-Nothing-These in
    ap (λ b. b || takes c.args.is.now s t) (takes-nothing c.args.was.now s here.is-0 t)
    ∙ takes-these c.args.is.now s here.types here.is-1 t ∙ c.in_ok-ty-in-Nothing-These.ensures t
    ∙ ne_eqb c.in_ok-ty-in-Nothing-These.ty t (λ same. other (ap (λ n. n / 64) (sym same)))
