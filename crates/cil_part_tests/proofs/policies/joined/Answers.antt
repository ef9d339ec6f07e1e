use Rattle.std.proofs.Common.{List, [], ◌∷◌, codes, refl, sym, subst}
use Rattle.cil_specs.specs.Joined.{Module}
use Rattle.cil_resolve.specs.Modules.{AreParsedFrom}
use Rattle.cil_part_tests.proofs.policies.joined.Goals as goal

pub returns : goal.returns
returns c =
    let parsed = c.requires in
    let modules : List Module = record { name = codes "m"; statements = parsed.1.statements } ∷ [] in
    subst (λ items. (modules : List Module) × AreParsedFrom items modules) (sym c.in_ok-modules.ensures.items) (
      modules,
      record {
        spelt = (refl, parsed.1.spells, tt);
        written = (record { bytes = parsed.0; trees = parsed.1.is_text.trees; reads = parsed.1.is_text.reads; shapes = parsed.1.is_text.shapes }, tt);
      },
    )
