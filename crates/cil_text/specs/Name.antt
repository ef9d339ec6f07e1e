-- The definitions' values that the roles of words stand for.
use Rattle.std.specs.Prelude.{ℕ, ◌==◌, List, [], ◌∷◌, Option, option_map, if◌then◌else◌}
use Rattle.cil_specs.specs.Names as spec_names
use Rattle.cil_specs.specs.Names.{declared, referred}
use Rattle.cil_specs.specs.TextFault as spec_faults
use Rattle.cil_text.specs.Image.{kind_of}
use Rattle.cil_text.specs.declared.name.Role.{Role}
use Rattle.cil_text.specs.declared.name.Role.TheVariants.{Declared, Referred}
use Rattle.cil_reader.specs.declared.fault.TextFaultKind.{TextFaultKind}

abbrev pub role_of : Role → spec_names.Role
role_of Declared = declared
role_of Referred = referred

-- the text behind a leading dot, if it has one
abbrev pub without_dot : List ℕ → List ℕ
without_dot [] = []
without_dot (b ∷ bytes) = if b == 46 then bytes else b ∷ bytes

abbrev pub kind_option : Option TextFaultKind → Option spec_faults.TextFaultKind
kind_option kind = option_map kind_of kind
