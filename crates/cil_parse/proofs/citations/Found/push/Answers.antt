use Rattle.cil_parse.specs.declared.citations.Found.{Found}
use Rattle.cil_parse.proofs.CitationLemmas.{finds-one}
use Rattle.cil_parse.proofs.citations.Found.push.Goals as goal

pub returns : goal.returns
returns g c =
    let new : Found g.row.A.Denot = record { distinct = c.insert_full.new.self; numbers = c.push.new.self } in
    finds-one c.args.self.now new c.args.citation c.in_ok-n.n c.in_ok-in_32_bits.field-0 c.in_ok-n.ensures.keys c.in_ok-n.ensures.stored c.in_ok-in_32_bits.ensures.same c.in_ok-push.ensures.ok
