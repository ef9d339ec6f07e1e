use Rattle.std.proofs.Common.{◌∙◌, ◌++◌, ◌+◌, ap, map, subst, sym, take}
use Rattle.std.proofs.lemmas.List.{map-append, take_more}
use Rattle.std.specs.String.{string_bytes}
use Rattle.cil_program.specs.Given.{StandFor}
use Rattle.cil_program.proofs.GivenLemmas.{stand-more}
use Rattle.cil_program.proofs.command_line.folders.paths_for.Goals as goal

pub loop-path-preserved : goal.loop-path-preserved
loop-path-preserved g c =
    let content = g.F.TextFiles.content c.args.from.now in
    let given = c.args.given.now in
    let i = c.loop-path.path-index in
    let paths = map string_bytes c.loop-path.paths.items in
    let added = c.in_ok-add_paths.ensures in
    let taken = ap (map (λ path. path.now)) (take_more given i _ c.loop-path-test.true) ∙ map-append (λ path. path.now) (take i given) _ in
    subst (StandFor content (map (λ path. path.now) (take (i + 1) given))) (sym added.2)
    (subst (λ l. StandFor content l (paths ++ added.0)) (sym taken) (stand-more content (map (λ path. path.now) (take i given)) _ paths added.0 c.loop-path.invariant added.1))
