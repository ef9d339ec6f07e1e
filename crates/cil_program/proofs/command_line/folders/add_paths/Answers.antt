use Rattle.std.proofs.Common.{◌∙◌, ◌++◌, ◌∷◌, [], ap, map, refl, subst, option_map}
use Rattle.std.proofs.lemmas.List.{map-append}
use Rattle.std.proofs.lemmas.List.Sorted.{IsPermutation-map}
use Rattle.std.proofs.lemmas.Result.{on_ok_weaker}
use Rattle.std.specs.List.{filter}
use Rattle.std.specs.Ordering.{is_lt}
use Rattle.std.specs.String.{string_bytes}
use Rattle.cil_specs.specs.Report.{name_cmp}
use Rattle.cil_program.specs.CommandLine.{IsListed}
use Rattle.cil_program.specs.Given.{AreFilesIn, in_folder, is_cil_file}
use Rattle.cil_program.proofs.GivenLemmas.{sorted-map, stands-folder, stands-itself}
use Rattle.cil_program.proofs.command_line.folders.add_paths.Goals as goal

pub returns-in-Some : goal.returns-in-Some
returns-in-Some g c =
    let given = c.args.given.now in
    let content = g.F.TextFiles.content c.args.from.now given in
    let names = c.in-Some.names.items in
    let sorted = c.sort_unstable.new.self.items in
    let files = map (in_folder given) (filter is_cil_file (map string_bytes sorted)) in
    let told = subst (λ found. IsListed content (option_map (λ list. map string_bytes list.items) found)) c.in-Some.is c.in_ok-names.ensures in
    let are : AreFilesIn given (map string_bytes names) files = record { sorted = map string_bytes sorted; same = IsPermutation-map string_bytes names sorted c.sort_unstable.ensures.permutation; ascend = sorted-map string_bytes (λ x y. is_lt (name_cmp x y)) sorted c.sort_unstable.ensures.sorted; are = refl } in
    let slice = ap (λ l. map (in_folder given) (filter is_cil_file (map string_bytes l))) c.as_slice.ensures.value in
    on_ok_weaker c.add_files.result (λ added. (files, stands-folder content given (map string_bytes names) files told are, added ∙ ap (λ l. map string_bytes c.args.paths.now.items ++ l) slice)) c.add_files.ensures

pub returns-in_ok-push-in-None : goal.returns-in_ok-push-in-None
returns-in_ok-push-in-None g c =
    let given = c.args.given.now in
    let content = g.F.TextFiles.content c.args.from.now given in
    let told = subst (λ found. IsListed content (option_map (λ list. map string_bytes list.items) found)) c.in-None.is c.in_ok-names.ensures in (
      given ∷ [],
      stands-itself content given told,
      ap (map string_bytes) c.in_ok-push-in-None.ensures.items ∙ map-append string_bytes c.args.paths.now.items (c.in_ok-from_str-in-None.field-0 ∷ []) ∙ ap (λ p. map string_bytes c.args.paths.now.items ++ p ∷ []) c.in_ok-from_str-in-None.ensures.ok,
    )
