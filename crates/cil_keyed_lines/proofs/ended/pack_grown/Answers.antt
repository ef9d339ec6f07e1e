use Rattle.cil_keyed_lines.proofs.PackLemmas.{counts_packed, shared_packed}
use Rattle.cil_keyed_lines.proofs.ended.pack_grown.Goals as goal

pub returns-clause-shared : goal.returns-clause-shared
returns-clause-shared g c =
    let pack = c.pack.ensures in
    shared_packed c.args.keys.now.keys c.args.names.now c.pack.new.self c.args.lines.now c.pack.new.lines c.requires.shared c.requires.log pack.log pack.steps pack.len pack.fits pack.within pack.named pack.now
    pack.first

pub returns-clause-now : goal.returns-clause-now
returns-clause-now g c =
    let pack = c.pack.ensures in
    counts_packed c.args.keys.now.keys c.args.names.now c.pack.new.self c.args.lines.now c.pack.new.lines c.requires.shared c.requires.log pack.log pack.steps pack.len pack.fits pack.within pack.named pack.now
    pack.first
