use Rattle.cil_optionals.proofs.Common.{◌≡◌, Some, slice_get, length, refl, sym, ap, ◌∙◌, slice_get_read, bytes_eq-Decides, permissions_in}
use Rattle.cil_optionals.proofs.ListedLemmas.{recent-recalled}
use Rattle.cil_optionals.proofs.permissions.Permissions.recalls.Goals as goal

pub returns-then-last-class : goal.returns-then-last-class
returns-then-last-class g c = λ yes_it.
    let it = c.in-Some-Some.last in
    let there = c.in-Some-Some.ensures.lookup.3 in
    let read = slice_get_read c.deref.result.now (length c.deref.result.now) c.args.slot c.in-Some-Some.field-0.now refl there.0 (there.1 c.in-Some-Some.field-0.now) in
    let at : slice_get c.args.self.now.recent.items c.args.slot ≡ Some (Some it) = ap (λ l. slice_get l c.args.slot) (sym c.deref.ensures.value) ∙ read ∙ ap Some c.in-Some-Some.field-0-is in
    recent-recalled (permissions_in c.args.self.now.listed.now) c.args.self.now.recent.items c.args.slot it c.args.class c.args.name.now c.args.self.now.recent_are at c.if-last-class.true
    ((bytes_eq-Decides it.name.now c.args.name.now).0 (sym c.is_same.ensures ∙ yes_it))
