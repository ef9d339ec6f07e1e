use Rattle.cil_text.proofs.Common.{Some, None, if◌then◌else◌, ◌∙◌, sym, ap, reserved, role_of}
use Rattle.cil_text.proofs.NameLemmas.{fault-name}
use Rattle.cil_text.proofs.name.name_fault.Goals as goal

pub returns-then-is_name : goal.returns-then-is_name
returns-then-is_name c =
    c.reserved_fault.ensures ∙ ap (λ b. if b then Some reserved else None) c.is_reserved.ensures
    ∙ sym (fault-name (role_of c.args.role) c.args.text.now (sym c.is_name.ensures ∙ c.if-is_name.true))
