use Rattle.std.proofs.Common.{◌∙◌, ap, refl, true, false, Some}
use Rattle.cil_reader.specs.Common.{trees_of}
use Rattle.cil_projection.specs.Forms.{joined, listed_names}
use Rattle.cil_projection.specs.Pieces.{pieces_of}
use Rattle.cil_projection.proofs.FormLemmas.{no_word_first, none_left}
use Rattle.cil_projection.proofs.names.add_listed.Goals as goal

pub returns-in_default-tree : goal.returns-in_default-tree
returns-in_default-tree g c =
    c.loop-tree.invariant c.loop-tree.pieces.items false
    (no_word_first (listed_names c.args.table) (λ at text rest. refl) (λ at end items rest. refl) c.in-Some.tree (trees_of c.loop-tree.rest) (trees_of c.in-Some.behind)
    c.in-Some.ensures c.in_default-tree.not-Word)

pub returns : goal.returns
returns g c =
    let now = c.loop-tree.pieces.items in
    c.loop-tree.invariant now true (ap (λ found. joined (Some (pieces_of now)) (listed_names c.args.table found)) c.in_default.ensures ∙ none_left now)
