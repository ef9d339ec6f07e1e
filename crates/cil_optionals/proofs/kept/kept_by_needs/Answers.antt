use Rattle.cil_optionals.proofs.Common.{◌≡◌, ◌<◌, ◌+◌, ◌++◌, false, length, get_or, sym, ap, ◌∙◌, subst, arith, list_all, get_or-take, rows-length, are_met, is_need_below, ShowsKept}
use Rattle.cil_optionals.proofs.KeptLemmas.{rows-there, all-below, shows-kept, shows-taken}
use Rattle.cil_optionals.proofs.kept.kept_by_needs.Goals as goal

pub greatest_set-requires : goal.greatest_set-requires
greatest_set-requires g c =
    let r = c.requires.ready in
    let p = c.args.policy.now in
    let long = rows-length p.names p.lookup.namespaces p.rows.items r.0 r.1.bound.stands.rows_are in
    let count = c.len-count.ensures in
    let needs = c.in_ok-needs.ensures r.0 r.1 in
    let is : c.deref.result.now ≡ needs.providers ++ needs.others = c.deref.ensures.value ∙ needs.are in
    let size : length r.0 + length r.0 + 1 ≡ c.len-count.result + c.len-count.result + 1 = omega (arith, long, count) in
    record {
      below = (λ k. list_all (is_need_below (sym size k)) (is k))
          ∙ all-below r.0 p.rows.items needs.providers needs.others needs.providers_are needs.others_are;
    }

pub returns-clause-none : goal.returns-clause-none
returns-clause-none g c =
    ap (λ l. get_or l 0 false) c.truncate.ensures.items ∙ get_or-take (c.len-count.result + 1) c.in_ok-kept.kept.items 0 false (omega arith) ∙ c.in_ok-kept.ensures.outside

pub returns-clause-kept : goal.returns-clause-kept
returns-clause-kept g c = λ all ready.
    let p = c.args.policy.now in
    let count = c.len-count.ensures in
    let long = rows-length p.names p.lookup.namespaces p.rows.items all ready.bound.stands.rows_are in
    let needs = c.in_ok-needs.ensures all ready in
    let is : c.deref.result.now ≡ needs.providers ++ needs.others = c.deref.ensures.value ∙ needs.are in
    let marks = c.in_ok-kept.kept.items in
    let told = c.in_ok-kept.ensures in
    let all_numbers : length all < c.len-count.result + 1 = omega (arith, long, count) in
    subst (ShowsKept all p.rows.items) (sym c.truncate.ensures.items)
    (shows-taken all p.rows.items marks (c.len-count.result + 1) ready.nested all_numbers
    (shows-kept all p.rows.items (rows-there p.rows.items all long) ready.nested ready.apart ready.bound.once needs.providers needs.others marks
    (record {
      providers_are = needs.providers_are;
      others_are = needs.others_are;
      outside = told.outside;
      met = ap (are_met (λ n. get_or marks n false)) (sym is) ∙ told.met;
      greatest = λ has met n within. told.greatest has (ap (are_met has) is ∙ met) n (omega (arith, within, long, count));
    }) long))
