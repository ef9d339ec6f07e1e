-- Set statements that stand apart.
use Rattle.std.specs.Prelude.{◌≡◌}
use Rattle.cil_specs.specs.Rule.{SetStatement}

-- The two stand in modules of different names or at different offsets: never in modules of one name at one offset.
abbrev pub StandApart : SetStatement → SetStatement → Type 0
StandApart s t = s.module_name ≡ t.module_name → s.at.offset ≡ t.at.offset → ⊥
