use Rattle.cil_member_updates.proofs.Common.{arith, bit_or, bit_xor, subst, sym, bit_at_or, bit_at_xor, bit_at-lt, count_before, count_now, meaning_in, new_in, old_in, set_at, AreBits, keeps}
use Rattle.cil_member_updates.proofs.NameLemmas.{cover-stayed, unchanged-first}
use Rattle.cil_member_updates.proofs.RenewLemmas.{same-expr}
use Rattle.cil_member_updates.proofs.SideLemmas.{mentioned-symbol}
use Rattle.cil_member_updates.proofs.TurnedLemmas.{unsettled-bits}
use Rattle.cil_member_updates.proofs.visits.touched.Goals as goal

pub returns : goal.returns
returns g c =
    let stayed = c.args.stayed.now in
    let p = stayed.policies.now in
    let symbols = p.symbols.now in
    let old = meaning_in (old_in p) in
    let new = meaning_in (new_in p) in
    let s = set_at (old_in p) stayed.i in
    let r = set_at (new_in p) stayed.j in
    let before = count_before c.args.rows.now in
    let now = count_now c.args.rows.now in
    let is = c.requires.stayed in
    let same = same-expr s r is.same in
    let changed = c.changed_by_names-changed.result in
    let other = bit_xor c.word.result c.word-2.result in
    let are_old = subst (AreBits (keeps symbols old) c.args.word) (sym c.word.ensures) (is.was.side.kept c.args.word) in
    let are_new = subst (AreBits (keeps symbols new) c.args.word) (sym c.word-2.ensures) (is.is.side.kept c.args.word) in
    record {
      cover = cover-stayed symbols old new s r same before now is.was.tell is.is.tell (λ t. c.expressions_agree.ensures old new r.expr t)
          (mentioned-symbol symbols p.new.now is.is.side stayed.j is.is.within c.resolved_is_sound.ensures c.resolved_sets_are_in_order.ensures.the_same c.resolved_names_are_kept.ensures.attributes)
          c.args.word (bit_or changed other) c.word.result c.word-2.result are_old are_new
          (λ element there. unchanged-first symbols before now element c.args.word changed other (c.changed_by_names-changed.ensures.unchanged element there))
          (λ b none. omega (arith, none, bit_at_or changed other b, bit_at_xor c.word.result c.word-2.result b, bit_at-lt c.word.result b, bit_at-lt c.word-2.result b));
      unsettled = unsettled-bits symbols old new s r same before now is.was.tell is.is.tell c.args.word changed c.word.result c.word-2.result are_old are_new c.changed_by_names-changed.ensures.turned;
    }
