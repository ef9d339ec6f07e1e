use Rattle.cil_resolve.proofs.Common.{◌≡◌, ◌++◌, ◌∷◌, ◌∙◌, [], ap, sym, get_or_default, name_in}
use Rattle.cil_resolve.proofs.FullNamesLemmas.{name-behind}
use Rattle.cil_resolve.proofs.full_names.add_full_name.Goals as goal
use Rattle.cil_resolve.proofs.full_names.add_full_name.Goals.{then-namespace-ne0+in_ok-extend_from_slice+in_ok-push, else-namespace-ne0}

pub returns : goal.returns
returns g c =
    let old = c.args.bytes.now.items in
    let spaces = c.args.spaces.now in
    let namespace = c.args.namespace in
    let name = c.args.name.now in
    let all : c.if-namespace-ne0.bytes.items ++ name ≡ old ++ name_in spaces namespace name =
    elim c.if-namespace-ne0.branch [
      | then-namespace-ne0+in_ok-extend_from_slice+in_ok-push w ↦
          let space = w.as_slice.ensures ∙ w.index-spaces-namespace.is ∙ get_or_default spaces namespace _ [] c.requires in
          (λ j. (w.bytes-is j).items ++ name) ∙ ap (λ b. b ++ name) w.in_ok-push.ensures.items ∙ ap (λ b. (b ++ 46 ∷ []) ++ name) w.in_ok-extend_from_slice.ensures.items
          ∙ ap (λ s. ((old ++ s) ++ 46 ∷ []) ++ name) space ∙ name-behind old spaces namespace name w.if-namespace-ne0.true
      | else-namespace-ne0 w ↦ (λ j. (w.bytes-is j).items ++ name) ∙ ap (λ n. old ++ name_in spaces n name) (sym w.if-namespace-ne0.false)
    ] in
    c.in_ok-extend_from_slice-2.ensures.items ∙ all
