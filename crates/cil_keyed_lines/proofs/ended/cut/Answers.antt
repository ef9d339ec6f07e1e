use Rattle.cil_keyed_lines.proofs.Common.{subst, IsDistinct, is_key}
use Rattle.cil_keyed_lines.proofs.EndedLemmas.{counts_cut, shared_cut}
use Rattle.cil_keyed_lines.proofs.KeyedLemmas.{same_eq}
use Rattle.cil_keyed_lines.proofs.ended.cut.Goals as goal

pub returns-clause-shared : goal.returns-clause-shared
returns-clause-shared g c =
    let news = c.truncate.new.self.keys in
    let distinct : IsDistinct is_key news = subst (λ same. IsDistinct same news) same_eq c.truncate.ensures.unique in
    shared_cut c.args.keys.now.keys news c.args.names.now c.cut.new.self c.args.lines.now c.truncate-2.new.self c.args.places c.end-end.result c.requires.paired c.truncate-2.ensures.steps
    c.requires.lined c.requires.counted c.requires.have c.requires.named c.requires.rest c.end-end.ensures c.truncate.ensures.keys c.cut.ensures.lines c.cut.ensures.log c.cut.ensures.now
    c.truncate-2.ensures.lines c.truncate-2.ensures.now distinct c.cut.ensures.len

pub returns-clause-now : goal.returns-clause-now
returns-clause-now g c =
    counts_cut c.args.keys.now.keys c.truncate.new.self.keys c.args.names.now c.cut.new.self c.args.lines.now c.truncate-2.new.self c.args.places c.end-end.result c.requires.paired
    c.truncate-2.ensures.steps c.requires.lined c.requires.counted c.requires.have c.requires.named c.requires.rest c.end-end.ensures c.truncate.ensures.keys c.cut.ensures.lines c.cut.ensures.log
    c.cut.ensures.now c.truncate-2.ensures.lines c.truncate-2.ensures.now
