use Rattle.cil_keyed_lines.proofs.Common.{subst, IsDistinct, is_key}
use Rattle.cil_keyed_lines.proofs.EndedLemmas.{taken_out}
use Rattle.cil_keyed_lines.proofs.KeyedLemmas.{same_eq}
use Rattle.cil_keyed_lines.proofs.ended.take_out.Goals as goal

pub returns-clause-taken : goal.returns-clause-taken
returns-clause-taken g c =
    let keys = c.args.keys.now.keys in
    let news = c.swap_remove_index.new.self.keys in
    let distinct : IsDistinct is_key news = subst (λ same. IsDistinct same news) same_eq c.swap_remove_index.ensures.unique in
    let out = c.swap_remove.ensures in
    taken_out keys news c.args.names.now c.swap_remove.new.self c.args.place c.requires.place c.swap_remove_index.result c.swap_remove_index.ensures.key c.swap_remove_index.ensures.keys
    c.requires.paired.distinct distinct c.requires.paired.len out.len out.lines c.requires.none out.moved out.others
