use Rattle.cil_parse.proofs.Common.{[], ◌∷◌, ◌++◌, permissions_of, words_with, nodes_with, target_words, word_of, target_of}
use Rattle.cil_parse.proofs.BuilderLemmas.{adds-then}
use Rattle.cil_parse.proofs.builder.Builder.rule.Goals as goal

pub returns : goal.returns
returns g c =
    let permissions = permissions_of c.args.permissions.now in
    let targets = target_words (target_of c.args.target) in
    let last = words_with permissions in
    let nodes = nodes_with permissions in
    let new = c.rule_permissions.new.self in
    adds-then c.args.self.now c.word.new.self new (word_of c.args.source ∷ []) (targets ++ last) [] nodes c.in_ok-word.ensures
    (adds-then c.word.new.self c.target.new.self new targets last [] nodes c.in_ok-target.ensures c.in_ok-rule_permissions.ensures)
