use Rattle.cil_resolve.proofs.NumberOf.{declared-there}
use Rattle.cil_resolve.proofs.laws.resolved_names_are_kept.Goals as goal

pub returns : goal.returns
returns g c =
    let r = c.args.resolved.now in
    record {
      types = λ name kept. declared-there r.modules.items r.names.items r.types.items name r.types_within kept;
      attributes = λ name kept. declared-there r.modules.items r.names.items r.attributes.items name r.attributes_within kept;
    }
