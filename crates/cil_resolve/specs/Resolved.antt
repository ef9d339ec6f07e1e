-- What a resolved policy means.
use Rattle.cil_specs.specs.Meaning.{Meaning}
use Rattle.cil_resolve.specs.Numbers.{meaning_by}
use Rattle.cil_resolve.specs.declared.resolved.Resolved.{Resolved}

abbrev pub meaning_in : {A : Type 0} → Resolved A → Meaning
meaning_in r = meaning_by r.modules.items r.names.items r.types.items r.attributes.items r.classes.items r.permission_sets.items r.sets.sets.items r.rules.items r.dropped.items
