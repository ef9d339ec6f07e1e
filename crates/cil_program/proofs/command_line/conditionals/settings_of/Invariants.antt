use Rattle.std.proofs.Common.{◌≡◌, map, take, Some}
use Rattle.cil_program.specs.Conditionals.{setting_in, settings_of}
use Rattle.cil_program.proofs.command_line.conditionals.settings_of.Given as goal

abbrev pub invariant-loop-word : goal.invariant-loop-word
invariant-loop-word l = settings_of (map (λ word. word.now) (take l.word-index l.words)) ≡ Some (map setting_in l.settings.items)
