use Rattle.cil_parse.proofs.Common.{[], ◌∷◌, ◌++◌, ap, sym, subst, ◌∙◌, append_assoc, refl, slice_split, AddsNames}
use Rattle.cil_parse.proofs.SplitLemmas.{is_dot}
use Rattle.cil_parse.proofs.AddsLemmas.{adds-none, adds-then}
use Rattle.cil_parse.proofs.lexicon.Lexicon.push_names.Goals as goal

pub loop-name-init : goal.loop-name-init
loop-name-init g c = ([], adds-none c.args.self.now, refl)

pub loop-name-preserved : goal.loop-name-preserved
loop-name-preserved g c =
    let (before, adds, is) = c.loop-name.invariant in
    let name = c.in-Some.name.now ∷ [] in (
      before ++ name,
      adds-then c.args.self.now c.loop-name.self c.push_name.new.self before name adds c.in_ok-push_name.ensures,
      is ∙ ap (λ l. before ++ l) c.in-Some.ensures.some ∙ sym (append_assoc before name (slice_split is_dot c.in-Some.behind.now)),
    )

pub returns : goal.returns
returns g c =
    let (before, adds, is) = c.loop-name.invariant in
    let last = c.loop-name.rest.now ∷ [] in
    subst (AddsNames c.args.self.now c.push_name-2.new.self) (sym (is ∙ ap (λ l. before ++ l) c.in_default.ensures.none))
    (adds-then c.args.self.now c.loop-name.self c.push_name-2.new.self before last adds c.in_ok-push_name-2.ensures)
