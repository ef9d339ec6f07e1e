use Rattle.cil_optionals.proofs.Common.{◌≡◌, ◌<◌, ◌+◌, ◌≤◌, ◌∙◌, length, get_or, rules, sym, ap, subst, arith, add-one, rows-length, AreProviders, IsUpTo}
use Rattle.cil_bind.proofs.AboutNamesLemmas.{after_places, place-there, to-place, to-end}
use Rattle.cil_optionals.proofs.AsksLemmas.{kinds-long}
use Rattle.cil_optionals.proofs.PermissionLemmas.{upto-all}
use Rattle.cil_optionals.proofs.ProviderLemmas.{statement-at}
use Rattle.cil_optionals.proofs.ToldLemmas.{place-read, providers-over, upto-over}
use Rattle.cil_optionals.proofs.told.tell_all.Goals as goal

pub loop-k-init : goal.loop-k-init
loop-k-init g c = record {
  providers = c.requires.first;
  up_to = c.requires.none;
  inverse = c.requires.inverse;
}

pub provide-requires-clause-within : goal.provide-requires-clause-within
provide-requires-clause-within g c =
    let p = c.args.policy.now in
    let (all, ready) = c.requires.ready in
    let long = rows-length p.names p.lookup.namespaces p.rows.items all ready.bound.stands.rows_are in
    let kinds = kinds-long p c.args.joined.now.modules.items all ready in
    let low : c.loop-k.k < length p.name_places.items = search rules in
    let less = place-there p.kinds.items p.name_places.items c.loop-k.k ready.bound.name_places low in
    let at = place-read p.name_places.items c.loop-k.k c.index.result.now low c.index.ensures in
    omega (arith, long, kinds, less, at)

pub add-requires : goal.add-requires
add-requires g c =
    let p = c.args.policy.now in
    let (all, ready) = c.requires.ready in
    let long = rows-length p.names p.lookup.namespaces p.rows.items all ready.bound.stands.rows_are in
    let kinds = kinds-long p c.args.joined.now.modules.items all ready in
    let low : c.loop-k.k < length p.name_places.items = search rules in
    let less = place-there p.kinds.items p.name_places.items c.loop-k.k ready.bound.name_places low in
    let at = place-read p.name_places.items c.loop-k.k c.index.result.now low c.index.ensures in
    let (s, here) = statement-at p c.args.joined.now.modules.items all c.index.result.now ready (omega (arith, long, kinds, less, at)) in
    (all, s, ready, here, c.loop-k.invariant.inverse)

pub loop-k-preserved : goal.loop-k-preserved
loop-k-preserved g c =
    let p = c.args.policy.now in
    let parsed = c.args.joined.now.modules.items in
    let places = p.name_places.items in
    let k = c.loop-k.k in
    let low : k < length places = search rules in
    let at = place-read places k c.index.result.now low c.index.ensures in
    let next : get_or places k 0 + 1 ≡ after_places 0 places (k + 1) = ap (after_places 0 places) (sym (add-one k)) in
    record {
      providers = λ all ready.
          let here = to-place (λ i. AreProviders all p.rows.items i c.loop-k.needs.items) p.kinds.items places ready.bound.name_places
          (providers-over p parsed all ready c.loop-k.needs.items) k low (c.loop-k.invariant.providers all ready) in
          subst (λ i. AreProviders all p.rows.items i c.provide.new.needs.items) (ap (λ i. i + 1) at ∙ next)
          (c.in_ok-provide.ensures parsed all ready (subst (λ i. AreProviders all p.rows.items i c.loop-k.needs.items) (sym at) here));
      up_to = λ all ready.
          let here = to-place (λ i. IsUpTo all i c.loop-k.listed) p.kinds.items places ready.bound.name_places
          (upto-over p parsed all ready c.loop-k.listed) k low (c.loop-k.invariant.up_to all ready) in
          let long = rows-length p.names p.lookup.namespaces p.rows.items all ready.bound.stands.rows_are in
          let kinds = kinds-long p parsed all ready in
          let less = place-there p.kinds.items places k ready.bound.name_places low in
          let (s, there) = statement-at p parsed all c.index.result.now ready (omega (arith, long, kinds, less, at)) in
          subst (λ i. IsUpTo all i c.add.new.self) (ap (λ i. i + 1) at ∙ next)
          (c.in_ok-add.ensures.up_to all s ready there (subst (λ i. IsUpTo all i c.loop-k.listed) (sym at) here));
      inverse = c.in_ok-add.ensures.inverse;
    }

pub returns-clause-providers : goal.returns-clause-providers
returns-clause-providers g c = λ all ready.
    let p = c.args.policy.now in
    let parsed = c.args.joined.now.modules.items in
    let end : c.loop-k.k ≡ length p.name_places.items = omega arith in
    subst (λ i. AreProviders all p.rows.items i c.loop-k.needs.items) (kinds-long p parsed all ready)
    (to-end (λ i. AreProviders all p.rows.items i c.loop-k.needs.items) p.kinds.items p.name_places.items ready.bound.name_places
    (providers-over p parsed all ready c.loop-k.needs.items) c.loop-k.k end (c.loop-k.invariant.providers all ready))

pub returns-clause-have : goal.returns-clause-have
returns-clause-have g c = λ all ready.
    let p = c.args.policy.now in
    let parsed = c.args.joined.now.modules.items in
    let end : c.loop-k.k ≡ length p.name_places.items = omega arith in
    let kinds = kinds-long p parsed all ready in
    let past : length all ≤ length p.kinds.items = omega (arith, kinds) in
    upto-all all (length p.kinds.items) c.loop-k.listed past
    (to-end (λ i. IsUpTo all i c.loop-k.listed) p.kinds.items p.name_places.items ready.bound.name_places
    (upto-over p parsed all ready c.loop-k.listed) c.loop-k.k end (c.loop-k.invariant.up_to all ready))
