use Rattle.cil_rule_shifts.proofs.Common.{◌∙◌, ◌||◌, ap, has_key, is_line}
use Rattle.cil_rule_shifts.proofs.KeyLemmas.{keys-one, none-distinct}
use Rattle.cil_rule_shifts.proofs.keys.keys_of_source.Goals as goal

pub push_keys-requires-clause-distinct : goal.push_keys-requires-clause-distinct
push_keys-requires-clause-distinct g c = rw c.reserve.ensures.items (rw c.requires.empty none-distinct)

pub returns : goal.returns
returns g c =
    let source = c.args.source in
    let head = c.args.head in
    keys-one source head c.push_keys.new.keys.items c.push_keys.ensures.distinct
    (λ k. c.in_ok-push_keys.ensures.keys k ∙ ap (λ l. has_key l k || is_line source head k) (c.reserve.ensures.items ∙ c.requires.empty))
