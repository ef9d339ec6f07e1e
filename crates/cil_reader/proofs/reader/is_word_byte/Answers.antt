use Rattle.std.proofs.Common.{refl}
use Rattle.cil_specs.specs.Bytes.{is_word_byte}
use Rattle.cil_reader.proofs.ByteClasses.{byte-at}
use Rattle.cil_reader.proofs.reader.is_word_byte.Goals as goal

pub returns : goal.returns
returns c = byte-at is_word_byte c.has_one.ensures refl c.ranges.b.fits
