use Rattle.std.proofs.Common.{◌∙◌, map, take, ap, sym, subst}
use Rattle.std.proofs.lemmas.List.{map-append, take_more}
use Rattle.cil_program.specs.ByNames.{InTurn, IsGiven}
use Rattle.cil_program.specs.Conditionals.{setting_in}
use Rattle.cil_program.proofs.ByNamesLemmas.{in_turn-more}
use Rattle.cil_program.proofs.command_line.foreign.set_all.Goals as goal

pub loop-setting-preserved : goal.loop-setting-preserved
loop-setting-preserved c =
    let settings = c.args.settings.now in
    let i = c.loop-setting.setting-index in
    let longer = ap (map setting_in) (take_more settings i _ c.loop-setting-test.true) ∙ map-append setting_in (take i settings) _ in
    subst (λ s. InTurn IsGiven s c.args.booleans.now c.set.new.self) (sym longer)
    (in_turn-more IsGiven (map setting_in (take i settings)) _ c.args.booleans.now c.loop-setting.booleans c.set.new.self c.loop-setting.invariant c.in_ok-set.ensures.ok)
