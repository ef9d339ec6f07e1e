use Rattle.std.proofs.Common.{◌∙◌, Some, get_or, sym, ap}
use Rattle.cil_resolve.proofs.lowering.Lowering.declared.Goals as goal

pub returns : goal.returns
returns g c policy s is at numbered =
    let seen = c.seen-seen.ensures.seen policy s is.noted.is at in record {
      named = c.module.ensures policy s is at;
      placed = seen.shown.at ∙ seen.place;
      numbered = is.places c.args.i s at numbered ∙ ap Some (ap (λ l. get_or l c.args.i 0) (sym c.deref.ensures.value) ∙ sym c.number_at.ensures);
    }
