use Rattle.cil_member_updates.proofs.Common.{◌∙◌, ◌≡◌, a_type, ap, false, leaves, subst, sym, slice_index, bit_at, bit_at-zero, count_before, count_now, meaning_in, new_in, old_in, set_at}
use Rattle.std.proofs.Common.{Contains}
use Rattle.cil_specs.specs.Expr.{holds_by}
use Rattle.cil_member_updates.proofs.NameLemmas.{cover-stayed, members-stayed}
use Rattle.cil_member_updates.proofs.PlaceLemmas.{set-there}
use Rattle.cil_member_updates.proofs.RenewLemmas.{same-expr}
use Rattle.cil_member_updates.proofs.SideLemmas.{mentioned-symbol}
use Rattle.cil_member_updates.proofs.ReachLemmas.{cover-alike, named-kept, same-in}
use Rattle.cil_member_updates.proofs.visits.turned_words.Goals as goal

pub returns-then-may_hold_any : goal.returns-then-may_hold_any
returns-then-may_hold_any g c w outside =
    let stayed = c.args.stayed.now in
    let p = stayed.policies.now in
    let s = set_at (old_in p) stayed.i in
    let r = set_at (new_in p) stayed.j in
    let is = c.requires.stayed in
    let apart = c.joined.ensures.outside w outside in
    cover-stayed p.symbols.now (meaning_in (old_in p)) (meaning_in (new_in p)) s r (same-expr s r is.same) (count_before c.args.rows.now) (count_now c.args.rows.now) is.was.tell is.is.tell
    (λ t. c.expressions_agree.ensures (meaning_in (old_in p)) (meaning_in (new_in p)) r.expr t)
    (mentioned-symbol p.symbols.now p.new.now is.is.side stayed.j is.is.within c.resolved_is_sound.ensures c.resolved_sets_are_in_order.ensures.the_same c.resolved_names_are_kept.ensures.attributes)
    w 0 (slice_index p.old.now.kept.now w) (slice_index p.new.now.kept.now w) (is.was.side.kept w) (is.is.side.kept w) (c.words_of_names-names.ensures w apart.1) (λ b none. ap (λ k. bit_at k b) (c.requires.policies.alike w apart.0))

pub returns : goal.returns
returns g c w outside =
    let stayed = c.args.stayed.now in
    let p = stayed.policies.now in
    let old = meaning_in (old_in p) in
    let new = meaning_in (new_in p) in
    let s = set_at (old_in p) stayed.i in
    let r = set_at (new_in p) stayed.j in
    let is = c.requires.stayed in
    let same = same-expr s r is.same in
    let bound : holds_by (λ element. false) r.expr ≡ false = sym (c.may_hold_any.ensures.value r (set-there (new_in p) stayed.j is.is.within)) ∙ c.if-may_hold_any.false in
    cover-alike p.symbols.now old new s r same w
    (λ b within name at. same-in r.expr (λ meaning t. c.reach_is_a_bound.ensures meaning r.expr t bound) old new
    (λ n there. named-kept (old_in p) c.resolved_is_sound-2.ensures c.resolved_sets_are_in_order-2.ensures.the_same stayed.i is.was.within n (subst (λ e. Contains (leaves e) (a_type n)) (sym same) there))
    (named-kept (new_in p) c.resolved_is_sound.ensures c.resolved_sets_are_in_order.ensures.the_same stayed.j is.is.within)
    (λ t. c.expressions_agree.ensures old new r.expr t) name
    (members-stayed p.symbols.now old new s r same (count_before c.args.rows.now) (count_now c.args.rows.now) is.was.tell is.is.tell
    (mentioned-symbol p.symbols.now p.new.now is.is.side stayed.j is.is.within c.resolved_is_sound.ensures c.resolved_sets_are_in_order.ensures.the_same c.resolved_names_are_kept.ensures.attributes)
    w 0 (c.words_of_names-names.ensures w outside) b within (bit_at-zero b) name at)) 0
