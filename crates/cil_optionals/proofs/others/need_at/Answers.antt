use Rattle.cil_optionals.proofs.Common.{◌+◌, ◌&&◌, ap, subst, restricted, references, named_permissions, are_found, are_there, row_optional, Asks, HasUnmet}
use Rattle.cil_optionals.proofs.ProviderLemmas.{row-of}
use Rattle.cil_optionals.proofs.OthersLemmas.{others-skip, others-asks, others-unmet}
use Rattle.cil_optionals.proofs.others.need_at.Goals as goal

pub returns-then-row-eq0-clause-others : goal.returns-then-row-eq0-clause-others
returns-then-row-eq0-clause-others g c = λ all ready permissions are.
    let p = c.args.policy.now in
    let has = row-of p c.args.joined.now.modules.items all c.args.i c.index-row.result.now ready c.requires.within c.index-row.ensures in
    others-skip all p.rows.items c.args.i c.index-row.result.now has.s c.args.needs.now.items ready.nested has.row_at has.at c.if-row-eq0.true are

pub around-requires : goal.around-requires
around-requires g c = record { ready = (c.args.joined.now.modules.items, c.requires.ready.0, c.requires.ready.1); within = c.requires.within }

pub returns-then-has_unmet-clause-others : goal.returns-then-has_unmet-clause-others
returns-then-has_unmet-clause-others g c = λ all ready permissions are.
    let p = c.args.policy.now in
    let row = c.index-row.result.now in
    let has = row-of p c.args.joined.now.modules.items all c.args.i row ready c.requires.within c.index-row.ensures in
    others-unmet all p.rows.items c.args.i row has.s (c.args.i + 1) c.around.new.needs.items ready.nested has.row_at has.at
    (subst (λ l. HasUnmet l row.optional) c.as_slice.ensures.value (c.has_unmet.ensures c.if-has_unmet.true))
    (c.in_ok-around.ensures c.args.joined.now.modules.items all ready are)

pub returns-clause-others : goal.returns-clause-others
returns-clause-others g c = λ all ready permissions are.
    let p = c.args.policy.now in
    let parsed = c.args.joined.now.modules.items in
    let row = c.index-row.result.now in
    let has = row-of p parsed all c.args.i row ready c.requires.within c.index-row.ensures in
    let s = has.s in
    others-asks all p.rows.items c.args.i row s (c.args.i + 1) c.around.new.needs.items c.asked.new.needs.items ready.nested has.row_at has.at c.if-row-eq0.false
    (subst (λ o. Asks all o (λ set. are_found (restricted set all) s.namespace (references s.form) && are_there (restricted set all) s.namespace (named_permissions s.form)) c.around.new.needs.items c.asked.new.needs.items)
    (ap row_optional has.row_at) (c.in_ok-asked.ensures.asks all s ready permissions has.at))
    (c.in_ok-around.ensures parsed all ready are)
