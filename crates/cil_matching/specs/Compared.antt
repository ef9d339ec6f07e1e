-- Modules of two policies, compared by their names.
use Rattle.std.specs.Prelude.{◌≡◌, [], slice_index_or}
use Rattle.cil_specs.specs.Report.{name_cmp}
use Rattle.cil_resolve.specs.declared.resolved.Resolved.{Resolved}
use Rattle.cil_matching.specs.declared.compared.Compared.{Compared}

-- how the name of the one module stands to that of the other
abbrev pub AreCompared : {A : Type 0} → Resolved A → Resolved A → Compared → Type 0
AreCompared old new c = c.order ≡ name_cmp (slice_index_or new.modules.items c.second []) (slice_index_or old.modules.items c.first [])
