use Rattle.cil_bind.proofs.Common.{◌≤◌, ◌++◌, ◌∷◌, ◌∙◌, [], length, get_or, if◌then◌else◌, sym, ap, arith, slice_get-get_or, take_all}
use Rattle.cil_parse.specs.declared.row.StatementKind.TheVariants as kinds
use Rattle.cil_bind.specs.AboutNames.{is_about_names, name_places}
use Rattle.cil_bind.proofs.AboutNamesLemmas.{places-next}
use Rattle.cil_bind.proofs.about_names.name_places.Goals as goal

pub loop-i-preserved : goal.loop-i-preserved
loop-i-preserved g c =
    let all = c.args.kinds.now in
    let i = c.loop-i.i in
    let kind = get_or all i kinds.Block in
    c.in_ok-add_place.ensures ∙ ap (λ l. l ++ (if is_about_names kind then i ∷ [] else [])) c.loop-i.invariant
    ∙ sym (places-next all i kind (slice_get-get_or all i kinds.Block c.loop-i-test.true))

pub returns : goal.returns
returns g c =
    let past : length c.args.kinds.now ≤ c.loop-i.i = omega arith in
    c.loop-i.invariant ∙ ap (name_places 0) (take_all c.loop-i.i c.args.kinds.now past)
