use Rattle.cil_specs.proofs.MemberLemmas.{enough-fuel}
use Rattle.cil_resolve.proofs.laws.fuel_is_enough.Goals as goal

pub returns : goal.returns
returns g = λ meaning sound fuel enough expr t. enough-fuel meaning sound fuel enough expr t
