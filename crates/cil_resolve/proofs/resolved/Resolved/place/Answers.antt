use Rattle.cil_resolve.proofs.Common.{rules, of_calls, ◌≡◌, sym, subst, true, is_lt, name_cmp, names_rise}
use Rattle.std.proofs.lemmas.Fn.{always_returns_same}
use Rattle.cil_resolve.proofs.NumberOf.{is-place}
use Rattle.cil_resolve.proofs.resolved.Resolved.place.Goals as goal

pub returns : goal.returns
returns g c =
    let z = c.args.self.now in
    let name = c.args.name.now in
    let same : c.as_slice.result.now ≡ z.names.items = c.as_slice.ensures.value in
    let rise : names_rise c.as_slice.result.now ≡ true = subst (λ l. names_rise l ≡ true) (sym same) z.ordered in
    let point = c.partition_point.ensures.partitioned (λ y. is_lt (name_cmp y name)) (always_returns_same _ _ _ (λ a r f k. search (rules, of_calls))) in
    rw (sym same) (is-place c.as_slice.result.now name c.partition_point.result rise c.partition_point.ensures.bound point)
