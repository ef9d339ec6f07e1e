use Rattle.std.proofs.Common.{◌∙◌, None, ap, refl}
use Rattle.cil_specs.specs.Shape.{put_word}
use Rattle.cil_reader.specs.Common.{trees_of, word_of}
use Rattle.cil_projection.specs.Forms.{class_permissions}
use Rattle.cil_projection.proofs.FormLemmas.{without_list_is, without_word}
use Rattle.cil_projection.proofs.class.add_class_permissions.Goals as goal

pub returns-in_default : goal.returns-in_default
returns-in_default g c = without_word class_permissions refl (λ at text rest. refl) (λ at end items rest. refl) (trees_of c.args.trees) c.in_default.ensures

pub returns-in_default-split_list : goal.returns-in_default-split_list
returns-in_default-split_list g c =
    ap class_permissions c.in-Some.ensures
    ∙ without_list_is None (λ rest. class_permissions (put_word (word_of c.in-Some.class) rest)) refl (λ at text rest. refl) (λ at text rest. refl) (trees_of c.in-Some.rest)
    c.in_default-split_list.ensures
