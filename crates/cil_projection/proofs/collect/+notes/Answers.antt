use Rattle.std.proofs.Common.{[], sym, ap, refl}
use Rattle.cil_reader.specs.Common.{trees_of}
use Rattle.cil_projection.specs.Conditions.{declared_by, declared_inside, noted_all}
use Rattle.cil_projection.proofs.FormLemmas.{without_word_is}
use Rattle.cil_projection.proofs.collect.+notes.Goals as goal

pub note_inside-returns-in_default : goal.note_inside-returns-in_default
note_inside-returns-in_default g t c =
    let none_there = without_word_is [] declared_inside refl (λ at text rest. refl) (λ at end items rest. refl) (trees_of c.args.trees) c.in_default.ensures in
    ap (noted_all c.args.booleans.now) (sym none_there)

pub note_statement-returns-in_default : goal.note_statement-returns-in_default
note_statement-returns-in_default g t c =
    let none_there = without_word_is [] declared_by refl (λ at text rest. refl) (λ at end items rest. refl) (trees_of c.args.items) c.in_default.ensures in
    ap (noted_all c.args.booleans.now) (sym none_there)
