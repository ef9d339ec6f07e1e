use Rattle.cil_check.proofs.Common.{not, sym, ap, ◌∙◌, subst, types, leads, references, IsLead}
use Rattle.std.proofs.Common.{slice_get}
use Rattle.cil_check.specs.declared.kinds.Kind.TheVariants.{Attribute}
use Rattle.cil_check.proofs.AskedLemmas.{form-set, there-kind}
use Rattle.cil_check.proofs.KnownLemmas.{refs-found, set-clean}
use Rattle.cil_check.proofs.SeenLemmas.{lead-of}
use Rattle.cil_check.proofs.SoundLemmas.{none-unfound, none-unset-of}
use Rattle.cil_check.proofs.checker.Checker.is_clean_set.Goals as goal

pub references-bound-requires : goal.references-bound-requires
references-bound-requires g c =
    (c.requires.0, c.requires.1.is, c.requires.2)

pub is_settled-requires : goal.is_settled-requires
is_settled-requires g c = c.requires

pub returns-then-is_settled : goal.returns-then-is_settled
returns-then-is_settled g c = λ yes policy s noted at kind have.
    let settled = c.is_settled.ensures c.if-is_settled.true policy s noted at have in
    let (attribute, expr, form) = form-set s.form kind in
    let are = c.references-bound.ensures policy s noted.is at in
    let led = subst (λ o. IsLead types policy o (leads policy types s.namespace attribute.text))
    (sym c.place.ensures ∙ c.in-Some.is) (lead-of policy s.namespace (references s.form) c.references-bound.result 0 (types, attribute) are (ap (λ f. slice_get (references f) 0) form)) in
    let other = there-kind policy s.namespace Attribute attribute c.in-Some.first c.is.result led (λ t there. c.is.ensures policy t noted.is there) ∙ ap not c.if-not-is.false in
    set-clean policy c.args.place s attribute expr form noted.is.inside at (refs-found policy s settled.found) settled.actual other

pub returns : goal.returns
returns g c = λ yes policy s noted at kind have.
    let bound = c.references-bound.result in
    let (attribute, expr, form) = form-set s.form kind in
    let are = c.references-bound.ensures policy s noted.is at in
    let all = c.are_sound_by.ensures yes policy s noted have at are in
    let led = subst (λ o. IsLead types policy o (leads policy types s.namespace attribute.text))
    (sym c.place.ensures ∙ c.in-Some.is) (lead-of policy s.namespace (references s.form) bound 0 (types, attribute) are (ap (λ f. slice_get (references f) 0) form)) in
    let other = there-kind policy s.namespace Attribute attribute c.in-Some.first c.is.result led (λ t there. c.is.ensures policy t noted.is there) ∙ ap not c.if-not-is.false in
    set-clean policy c.args.place s attribute expr form noted.is.inside at (none-unfound policy s.namespace (references s.form) all) (none-unset-of policy s.namespace s.form all) other
