use Rattle.cil_optionals.proofs.Common.{◌≡◌, ◌+◌, true, false, not, length, get_or, sym, ap, ◌∙◌, subst, arith, list_all, get_or-replicate, length-replicate, IfOk-weaker, ShowsKept}
use Rattle.cil_optionals.proofs.KeptLemmas.{shows-all}
use Rattle.cil_optionals.proofs.kept.kept_optionals.Goals as goal

pub returns-then-none_is_optional-clause-len : goal.returns-then-none_is_optional-clause-len
returns-then-none_is_optional-clause-len g c =
    let count = c.len-count.ensures in
    IfOk-weaker c.all_marked.result _ _
    (λ marks is. let made : length marks.items ≡ c.len-count.result + 1 = ap length is ∙ length-replicate (c.len-count.result + 1) true in omega (arith, made, count))
    c.all_marked.ensures

pub returns-then-none_is_optional-clause-none : goal.returns-then-none_is_optional-clause-none
returns-then-none_is_optional-clause-none g c =
    IfOk-weaker c.all_marked.result _ _ (λ marks is. ap (λ l. get_or l 0 false) is ∙ get_or-replicate (c.len-count.result + 1) 0 true false (omega arith)) c.all_marked.ensures

pub returns-then-none_is_optional-clause-kept : goal.returns-then-none_is_optional-clause-kept
returns-then-none_is_optional-clause-kept g c =
    let p = c.args.policy.now in
    let none : list_all (λ row. not row.is_optional) p.rows.items ≡ true =
    ap (list_all (λ row. not row.is_optional)) (sym c.as_slice.ensures.value) ∙ sym c.none_is_optional.ensures ∙ c.if-none_is_optional.true in
    IfOk-weaker c.all_marked.result _ _
    (λ marks is all bound nested apart. subst (ShowsKept all p.rows.items) (sym is)
    (shows-all p.names p.lookup.namespaces p.rows.items all bound.stands.rows_are nested none (c.len-count.result + 1) (omega arith)))
    c.all_marked.ensures

pub kept_by_needs-requires : goal.kept_by_needs-requires
kept_by_needs-requires g c =
    let (all, bound, nested, apart) = c.requires in
    let count = c.len-count.ensures in
    let few = c.in_ok-counted_in_32_bits.ensures.few in
    record { ready = (all, record { bound = bound; nested = nested; apart = apart; few = omega (arith, count, few) }) }

pub returns-clause-kept : goal.returns-clause-kept
returns-clause-kept g c =
    let count = c.len-count.ensures in
    let few = c.in_ok-counted_in_32_bits.ensures.few in
    IfOk-weaker c.kept_by_needs.result _ _
    (λ kept shows all bound nested apart. shows all (record { bound = bound; nested = nested; apart = apart; few = omega (arith, count, few) }))
    c.kept_by_needs.ensures.kept
