use Rattle.cil_check.proofs.Common.{◌≡◌, Some, length, refl, sym, ap, ◌∙◌}
use Rattle.std.proofs.Common.{slice_get}
use Rattle.std.proofs.lemmas.Option.{slice_get_read}
use Rattle.cil_check.proofs.RecentLemmas.{held-at}
use Rattle.cil_check.proofs.held.HeldLists.knows.Goals as goal

pub returns-in-Some-Some : goal.returns-in-Some-Some
returns-in-Some-Some g c = λ yes holds are.
    let it = c.in-Some-Some.last in
    let slot = c.slot_of.result in
    let there = c.in-Some-Some.ensures.lookup.3 in
    let read = slice_get_read c.deref.result.now (length c.deref.result.now) slot c.in-Some-Some.field-0.now refl there.0 (there.1 c.in-Some-Some.field-0.now) in
    let at : slice_get c.args.self.now.slots.items slot ≡ Some (Some it) = ap (λ l. slice_get l slot) (sym c.deref.ensures.value) ∙ read ∙ ap Some c.in-Some-Some.field-0-is in
    held-at holds c.args.self.now.slots.items slot it c.args.list.«module» c.args.list.list c.args.class are at (sym c.is.ensures ∙ yes)
