use Rattle.std.proofs.Common.{◌+◌, ◌/◌, refl}
use Rattle.cil_rule_reach.specs.Reaches.{members_of}
use Rattle.cil_rule_reach.proofs.LineLemmas.{words-all}
use Rattle.cil_rule_reach.proofs.lines.members_line.Goals as goal

pub returns : goal.returns
returns g c t =
    words-all c.of_words.result (members_of c.args.members.now c.args.row) c.in_ok-words.words.items c.args.members.now.symbols (c.args.members.now.symbols / 64 + 1) t
    refl (c.requires c.args.row t) c.in_ok-words.ensures.len c.in_ok-words.ensures.are (c.of_words.ensures t)
