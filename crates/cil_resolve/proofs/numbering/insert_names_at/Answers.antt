use Rattle.cil_resolve.proofs.Common.{◌∙◌, ◌||◌, fold, sym, ap, on_ok_weaker, with_name, lists_own, there-at, is_numbered_kind}
use Rattle.cil_resolve.proofs.NumberLemmas.{none-brought}
use Rattle.cil_resolve.proofs.numbering.insert_names_at.Goals as goal

pub returns-then-not-brings_names : goal.returns-then-not-brings_names
returns-then-not-brings_names g c policy s is at named =
    ap (fold with_name c.args.names.now)
    (sym (none-brought s (ap (λ k. is_numbered_kind k || lists_own k) (sym (c.kind.ensures policy s is at)) ∙ sym c.brings_names.ensures ∙ c.if-not-brings_names.true)))

pub insert_names-requires : goal.insert_names-requires
insert_names-requires g c =
    let (policy, is, low) = c.requires in
    let (s, at) = there-at policy c.args.i low in
    (policy, (s, c.seen-seen.ensures.seen policy s is at))

pub returns : goal.returns
returns g c =
    on_ok_weaker c.insert_names.result
    (λ brought policy s is at named. brought policy s (c.seen-seen.ensures.seen policy s is at) named)
    c.insert_names.ensures
