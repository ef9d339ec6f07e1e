use Rattle.std.proofs.Common.{◌∙◌, ap, sym, bytes_eq, is_some}
use Rattle.cil_bind.proofs.PositionLemmas.{any-position}
use Rattle.cil_resolve.proofs.names.number_of.Goals as goal

pub unwrap-requires : goal.unwrap-requires
unwrap-requires g c = ap is_some c.find.ensures ∙ sym (any-position (bytes_eq c.args.name.now) c.args.names.now) ∙ c.requires
