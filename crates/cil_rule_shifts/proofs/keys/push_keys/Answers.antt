use Rattle.cil_rule_shifts.proofs.Common.{has_key, Permit}
use Rattle.cil_rule_shifts.proofs.KeyLemmas.{no-permit, pushed-are, pushed-distinct}
use Rattle.cil_rule_shifts.proofs.keys.push_keys.Goals as goal

none : Permit
none = record { class = 0; permission = 0 }

pub loop-permit-init : goal.loop-permit-init
loop-permit-init g c = (c.requires.distinct, λ k. no-permit (has_key c.args.keys.now.items k) c.args.source c.args.head k)

pub loop-permit-preserved : goal.loop-permit-preserved
unfolding none
loop-permit-preserved g c =
    let source = c.args.source in
    let head = c.args.head in
    let i = c.loop-permit.permit-index in
    let old = c.args.keys.now.items in
    let keys = c.loop-permit.keys.items in
    let so_far = c.loop-permit.invariant in
    rw c.in_ok-push.ensures.items (
      pushed-distinct source head c.requires.permits i none c.loop-permit-test.true old keys so_far.1 c.requires.new so_far.0,
      pushed-are source head c.requires.permits i none c.loop-permit-test.true old keys so_far.1,
    )
