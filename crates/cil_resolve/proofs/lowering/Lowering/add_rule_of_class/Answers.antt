use Rattle.cil_resolve.proofs.Common.{◌∙◌, sym, IsIn}
use Rattle.cil_resolve.proofs.lowering.Lowering.add_rule_of_class.Goals as goal

pub seen-seen-requires : goal.seen-seen-requires
seen-seen-requires g c =
    let (policy, s, is, at, of) = c.requires in
    (policy, s, is, at)

pub plain_rule-requires : goal.plain_rule-requires
plain_rule-requires g c =
    let (policy, s, is, at, of) = c.requires in
    record {
      is = (policy, s, c.seen-seen.ensures policy s is at, at, of);
      plain = sym c.is_empty.ensures ∙ c.if-not-is_empty.false;
    }

pub returns-clause-rule : goal.returns-clause-rule
returns-clause-rule g c policy s is at of knows =
    let is_in : IsIn c.args.self.now c.seen-seen.result policy s = c.seen-seen.ensures policy s is at in
    record { rule = c.in_ok-rule.rule; pushed = c.in_ok-push.ensures.items; is = c.in_ok-rule.ensures.rule policy s is_in at of knows }

pub returns-clause-known : goal.returns-clause-known
returns-clause-known g c = c.in_ok-rule.ensures.known
