use Rattle.cil_lines.proofs.Common.{◌∙◌, sym, with_items_is, value}
use Rattle.cil_lines.proofs.GiveUpLemmas.{below_given_up, none_from_present}
use Rattle.cil_lines.proofs.LineLemmas.{same_now}
use Rattle.cil_lines.proofs.line.Line.give_up.Goals as goal

pub invariant_of-self : goal.invariant_of-self
invariant_of-self g c =
    let d = c.self.inside.lowest in
    let h = c.self.inside.higher.items in
    let now = rw c.deref_mut.ensures.value at c.give_up-2.ensures.now in
    let limits = rw c.deref_mut.ensures.value at c.give_up-2.ensures.limits in
    let present = rw c.deref.ensures.value at c.present.ensures in
    let stored = with_items_is c.self.inside.higher c.give_up-2.new.digits (c.give_up-2.ensures.len ∙ c.deref_mut.ensures.len) in
    rw stored (below_given_up d c.give_up.new.self h c.give_up-2.new.digits c.args.word (sym c.bits.ensures ∙ c.if-bits-ne0.false)
    (none_from_present h c.args.word c.present.result present c.if-present-ne0.false) c.give_up.ensures.bits now c.give_up.ensures.kept limits c.self.invariant)

pub returns : goal.returns
returns g c t =
    let now = rw c.deref_mut.ensures.value at c.give_up-2.ensures.now in
    let stored = with_items_is c.self.inside.higher c.give_up-2.new.digits (c.give_up-2.ensures.len ∙ c.deref_mut.ensures.len) in
    rw (← c.self.view_is, stored) (same_now c.self.inside.lowest c.give_up.new.self c.self.inside.higher.items c.give_up-2.new.digits c.give_up.ensures.bits now t)
