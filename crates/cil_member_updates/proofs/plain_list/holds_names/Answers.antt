use Rattle.cil_member_updates.proofs.Common.{◌∙◌, sym, set_of}
use Rattle.cil_member_updates.proofs.PlainLemmas.{plain-joins}
use Rattle.cil_member_updates.proofs.plain_list.holds_names.Goals as goal

pub returns-then-holds_its_name : goal.returns-then-holds_its_name
returns-then-holds_its_name g c is = c.if-holds_its_name.ensures {u = tt} is

pub returns : goal.returns
returns g c is = plain-joins (set_of c.args.reading.now).expr (sym c.is_plain_list.ensures ∙ is)
