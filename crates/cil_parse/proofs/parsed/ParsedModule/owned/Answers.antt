use Rattle.cil_parse.proofs.ParsedLemmas.{words-length}
use Rattle.cil_parse.proofs.parsed.ParsedModule.owned.Goals as goal

pub of-requires : goal.of-requires
of-requires g c = words-length c.args.builder c.requires.0 c.requires.1
