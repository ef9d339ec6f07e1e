use Rattle.std.proofs.Common.{sym, ◌∙◌}
use Rattle.cil_accesses.specs.Merged.{of_one_key, taking_up}
use Rattle.cil_accesses.proofs.Merging.{walked}
use Rattle.cil_accesses.proofs.merge.merge.Goals as goal

pub returns : goal.returns
returns g c =
    walked _ (λ s d k b t d' k' h. let met = h.called.met.0 in (
      met.0 ∙ (λ i. of_one_key (h.shows.1 i) (h.shows.0 i)),
      (sym h.leaves.0 ∙ met.1.0 ∙ h.shows.0, sym h.leaves.1 ∙ met.1.1 ∙ (λ i. taking_up (h.shows.1 i) (h.shows.0 i))),
    )) _ _ _ c.dedup_by.ensures.filtered
