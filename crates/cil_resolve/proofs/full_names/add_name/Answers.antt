use Rattle.cil_resolve.proofs.Common.{◌≡◌, ◌++◌, ◌∷◌, ◌∙◌, ℕ, List, [], ap, sym, get_or_default, name_in}
use Rattle.cil_resolve.proofs.FullNamesLemmas.{name-behind}
use Rattle.cil_resolve.proofs.full_names.add_name.Goals as goal
use Rattle.cil_resolve.proofs.full_names.add_name.Goals.{then-namespace-ne0+in_ok-extend+in_ok-push, else-namespace-ne0}

-- lists with more items in the open one
abbrev with : List (List ℕ) × List ℕ → List ℕ → List (List ℕ) × List ℕ
with lists more = (lists.0, lists.1 ++ more)

pub returns : goal.returns
returns g c =
    let old = c.args.names.now in
    let spaces = c.args.spaces.now in
    let namespace = c.args.namespace in
    let name = c.args.name.now in
    let all : with c.if-namespace-ne0.names name ≡ with old (name_in spaces namespace name) =
    elim c.if-namespace-ne0.branch [
      | then-namespace-ne0+in_ok-extend+in_ok-push w ↦
          let space = w.as_slice.ensures ∙ w.index-spaces-namespace.is ∙ get_or_default spaces namespace _ [] c.requires in
          ap (λ l. with l name) w.names-is ∙ ap (λ l. with l name) w.in_ok-push.ensures.ok ∙ ap (λ l. with (with l (46 ∷ [])) name) w.in_ok-extend.ensures.ok
          ∙ ap (λ s. with (with (with old s) (46 ∷ [])) name) space ∙ (λ j. (old.0, name-behind old.1 spaces namespace name w.if-namespace-ne0.true j))
      | else-namespace-ne0 w ↦ ap (λ l. with l name) w.names-is ∙ ap (λ n. with old (name_in spaces n name)) (sym w.if-namespace-ne0.false)
    ] in
    c.in_ok-extend-2.ensures.ok ∙ all
