use Rattle.std.proofs.Common.{refl}
use Rattle.cil_specs.specs.Names.{is_name_byte}
use Rattle.cil_reader.proofs.ByteClasses.{byte-at}
use Rattle.cil_text.proofs.name.is_name_byte.Goals as goal

pub returns : goal.returns
returns c = byte-at is_name_byte c.has_one.ensures refl c.ranges.b.fits
