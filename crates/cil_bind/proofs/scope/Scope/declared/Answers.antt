use Rattle.std.proofs.Common.{[], refl, sym, ap, ◌∙◌, append-nil}
use Rattle.cil_specs.specs.Lookup.{declared_in}
use Rattle.cil_bind.specs.Rows.{declares_name}
use Rattle.cil_bind.proofs.ScopeLemmas.{kind-nothing}
use Rattle.cil_bind.proofs.scope.Scope.declared.Goals as goal

pub returns-then-not-declares_name : goal.returns-then-not-declares_name
returns-then-not-declares_name g c = record {
  namespaces = refl;
  rows = refl;
  kinds = refl;
  kept = ([], sym (append-nil _));
  distinct = λ old. old;
  declares = λ form says table.
      let kind = c.kind.ensures says.0 says.1 says.2 says.3 in
      ap (declared_in table) (sym says.4)
      ∙ kind-nothing table says.1.form (ap declares_name (sym kind) ∙ sym c.declares_name.ensures ∙ c.if-not-declares_name.true);
}
