use Rattle.cil_bind.proofs.policy.Numbers.of.Goals as goal

pub returns-clause-numbered : goal.returns-clause-numbered
returns-clause-numbered g c = λ worded. record {
  worded = worded;
  spaced = c.in_ok-spaces.ensures.spaced;
  long = c.in_ok-spaces.ensures.long;
}
