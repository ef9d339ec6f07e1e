use Rattle.cil_resolve.proofs.Common.{◌≡◌, ◌<◌, ◌∙◌, length, get_or, sym, arith, rules, length-set, types, «Type»}
use Rattle.cil_resolve.proofs.ElementLemmas.{first-declares}
use Rattle.cil_resolve.proofs.NamingLemmas.{FitsElement, naming-within, fill-next, filled-at, type-naming}
use Rattle.cil_resolve.proofs.elements.elements.Goals as goal

pub element_at-requires : goal.element_at-requires
element_at-requires g c =
    let (policy, noted, naming) = c.requires in
    (policy, noted, naming-within policy c.args.naming.now c.loop-k.k naming c.loop-k-test.true)

pub index_mut-requires : goal.index_mut-requires
index_mut-requires g c =
    let (policy, noted, naming) = c.requires in
    let low = naming-within policy c.args.naming.now c.loop-k.k naming c.loop-k-test.true in
    let long = c.loop-k.invariant.long policy noted in
    let below : get_or c.args.naming.now c.loop-k.k 0 < length c.loop-k.elements.items = omega (arith, low, long) in
    search rules

pub loop-k-init : goal.loop-k-init
loop-k-init g c = record {
  long = λ policy noted.
      let size : c.in_ok-elements.elements.len ≡ length c.in_ok-elements.elements.items = c.in_ok-elements.elements.ok.0 in
      sym size ∙ c.in_ok-elements.ensures.len ∙ c.len.ensures policy noted.is;
  made = λ names policy noted faultless naming have j i low there. absurd (omega (arith, low));
}

pub loop-k-preserved : goal.loop-k-preserved
loop-k-preserved g c =
    let k = c.loop-k.k in
    let place = get_or c.args.naming.now k 0 in
    record {
      long = λ policy noted. length-set c.loop-k.elements.items place c.element_at.result ∙ c.loop-k.invariant.long policy noted;
      made = λ names policy noted faultless naming have.
          let low = naming-within policy c.args.naming.now k naming c.loop-k-test.true in
          let long = c.loop-k.invariant.long policy noted in
          fill-next (FitsElement names policy) («Type» 0) c.args.naming.now k c.element_at.result c.loop-k.elements.items c.loop-k-test.true (omega (arith, low, long))
          (λ t there first set. c.element_at.ensures names policy t noted faultless have there first set)
          (c.loop-k.invariant.made names policy noted faultless naming have);
    }

pub returns-clause-long : goal.returns-clause-long
returns-clause-long g c = c.loop-k.invariant.long

pub returns-clause-have : goal.returns-clause-have
returns-clause-have g c names policy noted faultless naming have i s at first set =
    let past = c.loop-k-test.false in
    filled-at (FitsElement names policy) («Type» 0) policy c.args.naming.now c.loop-k.k c.loop-k.elements.items i s naming (omega (arith, past)) (c.loop-k.invariant.made names policy noted faultless naming have) at
    (type-naming s.form (first-declares types policy i s at first)) s at first set
