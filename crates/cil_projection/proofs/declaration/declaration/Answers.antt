use Rattle.std.proofs.Common.{◌∙◌, [], sym, ap, refl}
use Rattle.cil_specs.specs.Shape.{put_word}
use Rattle.cil_reader.specs.Common.{trees_of, word_of}
use Rattle.cil_projection.specs.Conditions.{declaration}
use Rattle.cil_projection.proofs.FormLemmas.{without_word_is}
use Rattle.cil_projection.proofs.declaration.declaration.Goals as goal

pub returns-in_default : goal.returns-in_default
returns-in_default c = sym (without_word_is [] declaration refl (λ at text rest. refl) (λ at end items rest. refl) (trees_of c.args.items) c.in_default.ensures)

pub returns-in_default-split_word : goal.returns-in_default-split_word
returns-in_default-split_word c =
    sym (ap declaration c.in-Some.ensures
    ∙ without_word_is [] (λ rest. declaration (put_word (word_of c.in-Some.keyword) rest)) refl (λ at text rest. refl) (λ at end items rest. refl) (trees_of c.in-Some.rest) c.in_default-split_word.ensures)

pub returns-in_default-split_word-2 : goal.returns-in_default-split_word-2
returns-in_default-split_word-2 c =
    let front = word_of c.in-Some.keyword in
    let second = word_of c.in-Some-split_word.name in
    sym (ap declaration (c.in-Some.ensures ∙ ap (put_word front) c.in-Some-split_word.ensures)
    ∙ without_word_is [] (λ rest. declaration (put_word front (put_word second rest))) refl (λ at text rest. refl) (λ at end items rest. refl) (trees_of c.in-Some-split_word.rest) c.in_default-split_word-2.ensures)
