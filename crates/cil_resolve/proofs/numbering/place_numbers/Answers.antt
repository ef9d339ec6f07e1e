use Rattle.cil_resolve.proofs.Common.{◌≡◌, ◌<◌, ◌∙◌, [], length, get_or, sym, ap, arith, rules, length-set, same_Some, slice_get_within, full_name_of, naming, kind_of}
use Rattle.cil_resolve.proofs.FullNamesLemmas.{kind-numbered}
use Rattle.cil_resolve.proofs.NamingLemmas.{FitsPlace, naming-there, naming-within, fill-next, filled-at, numbered-naming}
use Rattle.cil_resolve.proofs.StatementLemmas.{mapped-at}
use Rattle.cil_resolve.proofs.numbering.place_numbers.Goals as goal

pub place_number-requires : goal.place_number-requires
place_number-requires g c =
    let (policy, is, places, full, are) = c.requires.is in
    let k = c.loop-k.k in
    let (s, among, at) = naming-there policy c.args.naming.now k places c.loop-k-test.true in
    (policy, s, is, at, c.get.ensures ∙ ap (λ l. get_or l k []) full ∙ mapped-at full_name_of (naming policy) k s [] among, are)

pub index_mut-requires : goal.index_mut-requires
index_mut-requires g c =
    let (policy, is, places, full, are) = c.requires.is in
    let low = naming-within policy c.args.naming.now c.loop-k.k places c.loop-k-test.true in
    let long = c.loop-k.invariant.long policy is in
    let below : get_or c.args.naming.now c.loop-k.k 0 < length c.loop-k.places.items = omega (arith, low, long) in
    search rules

pub loop-k-init : goal.loop-k-init
loop-k-init g c = record {
  long = λ policy is.
      let size : c.in_ok-places.places.len ≡ length c.in_ok-places.places.items = c.in_ok-places.places.ok.0 in
      sym size ∙ c.in_ok-places.ensures.len ∙ c.len.ensures policy is;
  placed = λ policy is places full j i low there. absurd (omega (arith, low));
}

pub loop-k-preserved : goal.loop-k-preserved
loop-k-preserved g c =
    let k = c.loop-k.k in
    let place = get_or c.args.naming.now k 0 in
    let found = c.in_ok-number.number in
    record {
      long = λ policy is. length-set c.loop-k.places.items place found ∙ c.loop-k.invariant.long policy is;
      placed = λ policy is places full.
          let (s, among, at) = naming-there policy c.args.naming.now k places c.loop-k-test.true in
          let low = slice_get_within policy place s at in
          let long = c.loop-k.invariant.long policy is in
          fill-next (FitsPlace c.args.names.now policy) 0 c.args.naming.now k found c.loop-k.places.items c.loop-k-test.true (omega (arith, low, long))
          (λ t there numbered. c.in_ok-number.ensures policy t is there
          (c.get.ensures ∙ ap (λ l. get_or l k []) full ∙ mapped-at full_name_of (naming policy) k s [] among ∙ ap full_name_of (same_Some s t (sym at ∙ there))) numbered)
          (c.loop-k.invariant.placed policy is places full);
    }

pub returns-clause-long : goal.returns-clause-long
returns-clause-long g c = c.loop-k.invariant.long

pub returns-clause-have : goal.returns-clause-have
returns-clause-have g c policy is places full i s at numbered =
    let past = c.loop-k-test.false in
    filled-at (FitsPlace c.args.names.now policy) 0 policy c.args.naming.now c.loop-k.k c.loop-k.places.items i s places (omega (arith, past)) (c.loop-k.invariant.placed policy is places full) at
    (numbered-naming (kind_of s.form) (kind-numbered s.form ∙ numbered)) s at numbered
