use Rattle.cil_program.proofs.Common.{◌≡◌, ◌∙◌, ℕ, List, [], ap, append-nil, refl, subst, sym, flat_map, AnswersProjected, Wanted, are_counted, are_printed, wanted_in}
use Rattle.cil_projection.specs.Statements.{Counts}
use Rattle.cil_program.proofs.BothLemmas.{both-after, both-cut, both-printed, both-silent, both-wider}
use Rattle.cil_program.proofs.ByNamesLemmas.{texts-joined}
use Rattle.cil_program.proofs.command_line.by_names.answer_projected.Goals as goal

as_wanted : {paths projected : List (List ℕ)} {counts : Counts} {v w : Wanted} → w ≡ v → (printed told : List ℕ) (status : ℕ) → AnswersProjected paths projected counts v printed told status → AnswersProjected paths projected counts w printed told status
as_wanted {paths = paths} {projected = projected} {counts = counts} is printed told status = subst (λ w. AnswersProjected paths projected counts w printed told status) (sym is)

pub returns-in_err-write_note-in-Projections : goal.returns-in_err-write_note-in-Projections
returns-in_err-write_note-in-Projections g c =
    both-cut _ [] 0 c.from_residual.result c.from_residual.ensures.0 c.in_err-write_note-in-Projections.ensures (are_printed (ap wanted_in c.in-Projections.is) refl (append-nil _) refl)

pub returns-in_ok-write_note-in-Projections : goal.returns-in_ok-write_note-in-Projections
returns-in_ok-write_note-in-Projections g c =
    let joined = ap (flat_map (λ f. f.text.items)) c.as_slice.ensures.value ∙ texts-joined (λ f. f.text.items) c.args.projected.now.files.items in
    both-after c.and.result c.in_ok-write_note-in-Projections.ensures (λ printed told status made. made) (both-printed 0 _ c.write_texts.ensures c.and.ensures (are_printed (ap wanted_in c.in-Projections.is) joined (append-nil _) refl))

pub returns-in_err-write_note-in-Kinds : goal.returns-in_err-write_note-in-Kinds
returns-in_err-write_note-in-Kinds g c =
    both-cut _ [] 0 c.from_residual-in_err-write_note-in-Kinds.result c.from_residual-in_err-write_note-in-Kinds.ensures.0 c.in_err-write_note-in-Kinds.ensures (are_counted (ap wanted_in c.in-Kinds.is) refl (append-nil _) refl)

pub returns-in_ok-write_note-in-Kinds : goal.returns-in_ok-write_note-in-Kinds
returns-in_ok-write_note-in-Kinds g c =
    both-after c.and-in-Kinds.result c.in_ok-write_note-in-Kinds.ensures (λ printed told status made. made) (both-printed 0 _ c.write_kinds.ensures c.and-in-Kinds.ensures (are_counted (ap wanted_in c.in-Kinds.is) refl (append-nil _) refl))

pub returns-in-InFolder : goal.returns-in-InFolder
returns-in-InFolder g c = both-wider c.store_projected.result (as_wanted (ap wanted_in c.in-InFolder.is)) (both-silent c.store_projected.result c.store_projected.ensures.told)
