use Rattle.std.proofs.Common.{refl, rules, arith}
use Rattle.cil_specs.specs.Parts.{opening}
use Rattle.cil_reader.proofs.Reading.{placed-column}
use Rattle.cil_reader.proofs.Going.{goes-open}
use Rattle.cil_reader.proofs.reader.Reader.open.Goals as goal

pub to_right-self-requires-clause-column : goal.to_right-self-requires-clause-column
to_right-self-requires-clause-column g c = omega (arith, c.requires.placed.small, placed-column c.args.self.now c.requires.placed)

pub returns-clause-ok : goal.returns-clause-ok
returns-clause-ok g c = (
  opening,
  goes-open c.args.self.now (record { text = c.args.self.now.text; at = c.to_right-self.result; outer = c.push.new.self; nodes = c.push-2.new.self }) (record { at = c.args.self.now.at; node = c.len-2.result }) _
      c.requires.placed c.requires.within c.requires.byte (search rules) refl (search rules) c.to_right-self.ensures c.in_ok-push.ensures.items c.in_ok-push-2.ensures.items refl,
)
