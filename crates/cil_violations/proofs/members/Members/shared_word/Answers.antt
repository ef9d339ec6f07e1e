use Rattle.cil_violations.specs.Held.{holds_symbol}
use Rattle.cil_violations.proofs.WordLemmas.{word-both}
use Rattle.cil_violations.proofs.members.Members.shared_word.Goals as goal

pub returns : goal.returns
returns g c =
    word-both (holds_symbol c.args.self.now c.args.first) (holds_symbol c.args.self.now c.args.second)
    c.args.index _ _ c.word.ensures c.word-2.ensures
