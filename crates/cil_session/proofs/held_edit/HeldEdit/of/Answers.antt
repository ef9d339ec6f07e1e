use Rattle.cil_session.proofs.Common.{◌≡◌, ◌∙◌, take, ap, sym, install, held_as, edit_of}
use Rattle.cil_session.proofs.BatchLemmas.{take-min}
use Rattle.cil_session.proofs.held_edit.HeldEdit.of.Goals as goal

pub returns-in_ok-of-in-Install-2 : goal.returns-in_ok-of-in-Install-2
returns-in_ok-of-in-Install-2 g c =
    let text = c.in-Install.text.now in
    let held : c.in_ok-of-in-Install-2.field-0 ≡ take 16777217 text = c.in_ok-of-in-Install-2.ensures ∙ ap (λ n. take n text) c.min.ensures ∙ take-min text 16777217 in
    (λ i. install (c.in_ok-of-in-Install.ensures i) c.in-Install.priority (held i)) ∙ ap (λ e. held_as (edit_of e)) (sym c.in-Install.is)
