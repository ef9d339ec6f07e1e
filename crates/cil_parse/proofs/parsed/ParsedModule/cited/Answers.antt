use Rattle.std.proofs.Common.{◌<◌, sym, subst}
use Rattle.cil_specs.specs.Lookup.{references}
use Rattle.cil_parse.specs.Citations.{AreCited}
use Rattle.cil_parse.specs.Parsed.{texts_of, citations_of}
use Rattle.cil_parse.proofs.CitationLemmas.{cited-are, cited-long}
use Rattle.cil_parse.proofs.parsed.ParsedModule.cited.Goals as goal

pub get-requires : goal.get-requires
get-requires g c = subst (λ n. c.args.i < n) (sym (cited-long c.args.self.now)) c.requires

pub returns-clause-are : goal.returns-clause-are
returns-clause-are g c = λ statements f spells here.
    subst (AreCited (texts_of c.args.self.now) (citations_of c.args.self.now) f.block (references f.form)) (sym c.get.ensures)
    (cited-are c.args.self.now c.args.i statements f c.requires spells here)
