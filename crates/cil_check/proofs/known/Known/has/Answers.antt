use Rattle.cil_check.proofs.Common.{◌≡◌, Some, length, eqb-true, refl, sym, ap, ◌∙◌}
use Rattle.std.proofs.Common.{slice_get}
use Rattle.std.proofs.lemmas.Option.{slice_get_read}
use Rattle.cil_check.proofs.RecentLemmas.{recent-at}
use Rattle.cil_check.proofs.known.Known.has.Goals as goal

pub returns-then-last-class : goal.returns-then-last-class
returns-then-last-class g c = λ yes has are.
    let it = c.in-Some-Some.last in
    let slot = c.slot_of.result in
    let there = c.in-Some-Some.ensures.lookup.3 in
    let read = slice_get_read c.deref.result.now (length c.deref.result.now) slot c.in-Some-Some.field-0.now refl there.0 (there.1 c.in-Some-Some.field-0.now) in
    let at : slice_get c.args.self.now.recent.items slot ≡ Some (Some it) = ap (λ l. slice_get l slot) (sym c.deref.ensures.value) ∙ read ∙ ap Some c.in-Some-Some.field-0-is in
    recent-at has c.args.self.now.recent.items slot it c.args.class c.args.word are at c.if-last-class.true (eqb-true it.word c.args.word yes)
