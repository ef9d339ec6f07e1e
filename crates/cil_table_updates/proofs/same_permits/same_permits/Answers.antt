use Rattle.cil_table_updates.proofs.Common.{◌∙◌, ap, sym, has_permit}
use Rattle.cil_rule_shifts.proofs.PermitLemmas.{same-permits}
use Rattle.cil_table_updates.proofs.same_permits.same_permits.Goals as goal

pub returns : goal.returns
returns g c same d p =
    sym (c.in_ok-had.ensures.same d p)
    ∙ ap (λ l. has_permit l d p) (sym c.as_slice.ensures.value ∙ same-permits c.as_slice.result.now c.as_slice-2.result.now (sym c.eq.ensures ∙ same) ∙ c.as_slice-2.ensures.value)
    ∙ c.in_ok-has.ensures.same d p
