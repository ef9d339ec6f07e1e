use Rattle.std.proofs.Common.{◌≡◌, map, take}
use Rattle.cil_projection.specs.Conditions.{settings_of}
use Rattle.cil_projection.specs.Statements.{Tallies}
use Rattle.cil_projection.specs.declared.projecting.TheConstants.{DECLARATIONS}
use Rattle.cil_program.specs.ByNames.{AreProjections, InTurn}
use Rattle.cil_program.proofs.ByNamesLemmas.{behind}
use Rattle.cil_program.proofs.command_line.foreign.project_all.Given as goal

abbrev pub invariant-loop-file : goal.invariant-loop-file
invariant-loop-file l =
    let done = take l.file-index l.files in
    (map (λ f. f.path.now) l.projected.items ≡ map (λ f. f.path.now) done)
    × AreProjections (settings_of l.booleans) DECLARATIONS.now (map (λ f. f.text.items) done) (map (λ f. f.text.items) l.projected.items)
    × InTurn (Tallies (settings_of l.booleans)) (map (λ f. f.text.items) done) l.fn.tally l.tally
    × (l.more ≡ behind (map (λ f. f.text.items) done) DECLARATIONS.now)
