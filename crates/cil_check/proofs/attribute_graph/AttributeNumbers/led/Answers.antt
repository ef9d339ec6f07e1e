use Rattle.cil_check.proofs.Common.{None, Some, take, get_or, references, sym, ap, ◌∙◌, subst, if◌then◌else◌, slice_get_within, types, leads, IsLead, attribute_count}
use Rattle.cil_check.proofs.SeenLemmas.{lead-of}
use Rattle.cil_check.proofs.WordLemmas.{led-at}
use Rattle.cil_check.proofs.GraphLemmas.{nowhere-number, there-number, numbers-at}
use Rattle.cil_check.proofs.attribute_graph.AttributeNumbers.led.Goals as goal

pub returns-in_err-place : goal.returns-in_err-place
returns-in_err-place g c policy s word is have are at =
    let cited = c.args.cited.now in
    c.from_residual.ensures ∙ sym (nowhere-number policy s.namespace word (get_or cited c.args.k None) (lead-of policy s.namespace (references s.form) cited c.args.k (types, word) are at) (sym c.in_err-place.ensures))

pub returns-then-is : goal.returns-then-is
returns-then-is g c policy s word is have are at =
    let place = c.in_ok-place.place in
    let led = subst (λ o. IsLead types policy o (leads policy types s.namespace word.text)) (sym c.in_ok-place.ensures) (lead-of policy s.namespace (references s.form) c.args.cited.now c.args.k (types, word) are at) in
    let lead = led-at types policy place (leads policy types s.namespace word.text) led in
    c.number_at.ensures ∙ numbers-at policy c.args.self.now.numbers.items c.args.self.now.places.items place have (slice_get_within policy place lead.s lead.at)
    ∙ sym (there-number policy s.namespace word place c.is.result led (λ t there. c.is.ensures policy t is there) ∙ ap (λ b. if b then Some (attribute_count (take place policy)) else None) c.if-is.true)

pub returns-else-is : goal.returns-else-is
returns-else-is g c policy s word is have are at =
    let place = c.in_ok-place.place in
    let led = subst (λ o. IsLead types policy o (leads policy types s.namespace word.text)) (sym c.in_ok-place.ensures) (lead-of policy s.namespace (references s.form) c.args.cited.now c.args.k (types, word) are at) in
    sym (there-number policy s.namespace word place c.is.result led (λ t there. c.is.ensures policy t is there) ∙ ap (λ b. if b then Some (attribute_count (take place policy)) else None) c.if-is.false)
