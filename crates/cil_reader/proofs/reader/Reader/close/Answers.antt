use Rattle.std.proofs.Common.{◌≡◌, ◌-◌, length, ap, refl, rules, arith}
use Rattle.std.specs.Vec.{with_item}
use Rattle.cil_specs.specs.Parts.{closing}
use Rattle.cil_reader.specs.declared.node.Node.TheVariants.{List as Listed}
use Rattle.cil_reader.proofs.Reading.{placed-column}
use Rattle.cil_reader.proofs.Going.{goes-close}
use Rattle.cil_reader.proofs.reader.Reader.close.Goals as goal

pub to_right-self-requires-clause-column : goal.to_right-self-requires-clause-column
to_right-self-requires-clause-column g c = omega (arith, c.requires.placed.small, placed-column c.args.self.now c.requires.placed)

pub returns-clause-ok : goal.returns-clause-ok
returns-clause-ok g c =
    let opened = c.in-Some.open in
    let size : c.len.result ≡ length c.args.self.now.nodes.items = search rules in
    let inner = c.len.result - opened.node - 1 in (
      closing,
      goes-close c.args.self.now
          (record { text = c.args.self.now.text; at = c.to_right-self.result; outer = c.pop.new.self; nodes = with_item c.args.self.now.nodes opened.node (Listed opened.at c.to_right-self.result.offset inner) })
          opened inner c.requires.placed c.requires.within c.requires.byte c.in-Some.ensures.items (ap (λ n. n - opened.node - 1) size) c.to_right-self.ensures refl refl,
    )
