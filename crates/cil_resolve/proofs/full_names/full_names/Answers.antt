use Rattle.cil_resolve.proofs.Common.{◌++◌, ◌∷◌, map, [], arith, sym, ap, ◌∙◌, slice_get_within, full_name_of, naming}
use Rattle.cil_resolve.proofs.NamingLemmas.{naming-there, naming-all}
use Rattle.cil_resolve.proofs.StatementLemmas.{map-one}
use Rattle.cil_resolve.proofs.full_names.full_names.Goals as goal

pub add_statement-requires-clause-is : goal.add_statement-requires-clause-is
add_statement-requires-clause-is g c =
    let (policy, is, places) = c.requires in
    let (s, among, at) = naming-there policy c.args.naming.now c.loop-k.k places c.loop-k-test.true in
    (policy, is, slice_get_within policy _ s at)

pub loop-k-preserved : goal.loop-k-preserved
loop-k-preserved g c =
    let (some, some_is, some_places) = c.requires in
    let k = c.loop-k.k in
    let (t, t_among, t_at) = naming-there some c.args.naming.now k some_places c.loop-k-test.true in
    record {
      closed = ap (λ l. l.1) (c.in_ok-add_statement.ensures some t some_is t_at);
      named = λ policy is places.
          let (s, among, at) = naming-there policy c.args.naming.now k places c.loop-k-test.true in
          c.in_ok-add_statement.ensures policy s is at
          ∙ ap (λ l. (l, [])) (ap (λ l. l.0 ++ full_name_of s ∷ []) (c.loop-k.invariant.named policy is places) ∙ sym (map-one full_name_of (naming policy) k s among));
    }

pub returns : goal.returns
returns g c policy is places =
    let past = c.loop-k-test.false in
    ap (λ l. l.0) (c.loop-k.invariant.named policy is places) ∙ ap (map full_name_of) (naming-all policy c.args.naming.now c.loop-k.k places (omega (arith, past)))
