use Rattle.cil_specs.proofs.MemberLemmas.{in-agree}
use Rattle.cil_resolve.proofs.laws.expressions_agree.Goals as goal

pub returns : goal.returns
returns g = λ old new expr t kept still agree. in-agree old new expr t kept still agree
