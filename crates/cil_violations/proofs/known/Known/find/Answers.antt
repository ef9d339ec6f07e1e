use Rattle.cil_violations.proofs.Common.{◌≡◌, ◌∙◌, ap, sym, get_or_from_slice_get}
use Rattle.cil_violations.specs.declared.known.SharedClasses.{SharedClasses}
use Rattle.cil_violations.proofs.known.Known.find.Goals as goal

pub returns-then-index-never : goal.returns-then-index-never
returns-then-index-never g c =
    let (shared, at, allowed_is) = c.in_ok-place.ensures in
    let lists = c.args.self.now.lists.items in
    let read : c.index.result.now ≡ shared =
    c.index.ensures ∙ get_or_from_slice_get lists c.in_ok-place.place shared c.index.result.now at in
    (shared, at, sym (ap (λ (x : SharedClasses _). x.never) read) ∙ c.if-index-never.true, allowed_is)
