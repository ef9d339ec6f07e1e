use Rattle.cil_program.proofs.Common.{ℕ, List, [], ◌∷◌, All, map, ap, false, refl, subst, AllZip, Entry, owned_entry, Compiles, Content, IsEntryAt, IsEntryFor, IsReadOf, compiles, is_unreadable, is_not_held, unreadable_line}
use Rattle.std.proofs.lemmas.List.Elements.{All-head, All-tail}
use Rattle.cil_specs.proofs.NamesLemmas.{contains-map}
use Rattle.cil_program.proofs.BothLemmas.{both-told, both-wider}
use Rattle.cil_program.proofs.command_line.subcommands.compile_files.Goals as goal

-- entries for files are entries at their paths, where each text was read of its file
placed : {X Y : Type 0} (content : List ℕ → Content) (path text : X → List ℕ) (entry : Y → Entry) (xs : List X) (ys : List Y) → All (λ x. IsReadOf (content (path x)) (text x)) xs
    → AllZip (λ x y. IsEntryFor (path x) (text x) (entry y)) xs ys → AllZip (IsEntryAt content) (map path xs) (map entry ys)
placed content path text entry [] [] read all = tt
placed content path text entry [] (y ∷ ys) read all = absurd all
placed content path text entry (x ∷ xs) [] read all = absurd all
placed content path text entry (x ∷ xs) (y ∷ ys) read all = (
  (text x, All-head (λ x. IsReadOf (content (path x)) (text x)) x xs read, all.0),
  placed content path text entry xs ys (All-tail (λ x. IsReadOf (content (path x)) (text x)) x xs read) all.1,
)

pub returns-in-Err-Memory : goal.returns-in-Err-Memory
returns-in-Err-Memory g c = both-told 1 _ c.write_no_memory.ensures c.and.ensures (is_not_held refl refl refl)

pub returns-in-Err-Unreadable : goal.returns-in-Err-Unreadable
returns-in-Err-Unreadable g c =
    let found = c.in-Err-Unreadable in
    let unread = found.ensures.err found.path _ found.field-0-is in
    let given = contains-map (λ path. path.now) c.args.paths.now found.path unread.0 in
    both-told 3 _ c.write_unreadable.ensures c.and-in-Err-Unreadable.ensures (is_unreadable found.path.now given unread.1 refl (ap (λ p. unreadable_line p.now) found.path-is) refl)

pub returns-in_default : goal.returns-in_default
returns-in_default g c = both-told 1 _ c.write_no_memory-in_default.ensures c.and-in_default.ensures (is_not_held refl refl refl)

pub returns : goal.returns
returns g c =
    let content = g.F.TextFiles.content c.args.from.now in
    let written = c.in-Ok-entries_of.entries.items in
    let entries = map owned_entry written in
    let all = subst (λ paths. AllZip (IsEntryAt content) paths entries) c.in-Ok.ensures.ok
    (placed content (λ file. file.path.now) (λ file. file.text.items) owned_entry c.in-Ok.files.items written c.in-Ok.ensures.texts c.in-Ok-entries_of.ensures) in
    both-wider {P = Compiles false entries c.args.asked.report} c.compile_entries.result (λ printed told status compiled. compiles entries all compiled) c.compile_entries.ensures
