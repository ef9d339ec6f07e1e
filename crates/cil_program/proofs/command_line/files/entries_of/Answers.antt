use Rattle.std.proofs.Common.{append_assoc}
use Rattle.std.proofs.lemmas.List.{nil_from_length}
use Rattle.std.specs.Vec.Iter.{into_iter_items}
use Rattle.cil_program.proofs.Common.{◌≡◌, ◌∙◌, [], ◌∷◌, ap, append-nil, arith, length, sym, subst, AllZip, owned_entry, IsEntryFor}
use Rattle.cil_program.proofs.ZipLemmas.{all_zip-more}
use Rattle.cil_program.proofs.command_line.files.entries_of.Goals as goal

pub loop-file-preserved : goal.loop-file-preserved
loop-file-preserved g c =
    let at = c.loop-file in
    let x = c.in-Some.file in
    let steps : into_iter_items at.file-iterator ≡ x ∷ into_iter_items c.next.new.self = c.in-Some.ensures.steps.0 in (
      append_assoc at.yielded (x ∷ []) _ ∙ rw (← steps) at.invariant.0,
      rw c.in_ok-push.ensures.items
          (all_zip-more (λ file entry. IsEntryFor file.path.now file.text.items (owned_entry entry)) at.yielded at.entries.items x c.into_entry.result at.invariant.1 c.into_entry.ensures),
      let was = at.invariant.2 in
          let gone = c.in-Some.ensures.steps.1 in
          let short = ap length steps in
          omega arith,
    )

pub returns : goal.returns
returns g c =
    let at = c.loop-file in
    let none = c.in-None.ensures.steps in
    let nothing : into_iter_items at.file-iterator ≡ [] = nil_from_length _ (sym at.invariant.2 ∙ none.0) in
    let all = sym (append-nil at.yielded) ∙ rw nothing at at.invariant.0 ∙ c.into_iter-file-iterator.ensures.into_iter_gives.0 in
    subst (λ l. AllZip (λ file entry. IsEntryFor file.path.now file.text.items (owned_entry entry)) l at.entries.items) all at.invariant.1
