use Rattle.cil_resolve.proofs.Common.{sym, subst, AreNaming}
use Rattle.cil_resolve.proofs.LoweringLemmas.{lowering-of}
use Rattle.cil_resolve.proofs.lowered.numbered_parts.Goals as goal

pub of-requires-2 : goal.of-requires-2
of-requires-2 g c =
    let (policy, noted, faultless) = c.requires in
    (policy, noted.is, subst (AreNaming policy) (sym c.deref.ensures.value) (c.in_ok-naming.ensures policy noted.is))

pub elements-requires : goal.elements-requires
elements-requires g c =
    let (policy, noted, faultless) = c.requires in
    (policy, noted, subst (AreNaming policy) (sym c.deref-2.ensures.value) (c.in_ok-naming.ensures policy noted.is))

pub parts-requires : goal.parts-requires
parts-requires g c =
    let (policy, noted, faultless) = c.requires in
    let naming = c.in_ok-naming.ensures policy noted.is in
    let numbered = subst (AreNaming policy) (sym c.deref.ensures.value) naming in (
      policy,
      lowering-of _ policy c.deref-3.result.now c.in_ok-elements.elements.items noted faultless (c.in_ok-numbering.ensures.places policy noted.is numbered)
          (c.in_ok-numbering.ensures.long policy noted.is) (c.in_ok-elements.ensures.long policy noted)
          (c.in_ok-numbering.ensures.permissions policy noted.is numbered) c.deref-3.ensures.value
          (c.in_ok-elements.ensures.have c.in_ok-numbering.numbering.names.items policy noted faultless (subst (AreNaming policy) (sym c.deref-2.ensures.value) naming)) c.deref-4.ensures.value,
      naming,
    )

pub returns : goal.returns
returns g c policy noted faultless =
    let naming = c.in_ok-naming.ensures policy noted.is in
    let numbered = subst (AreNaming policy) (sym c.deref.ensures.value) naming in
    c.in_ok-parts.ensures policy
    (lowering-of _ policy c.deref-3.result.now c.in_ok-elements.elements.items noted faultless (c.in_ok-numbering.ensures.places policy noted.is numbered)
    (c.in_ok-numbering.ensures.long policy noted.is) (c.in_ok-elements.ensures.long policy noted)
    (c.in_ok-numbering.ensures.permissions policy noted.is numbered) c.deref-3.ensures.value
    (c.in_ok-elements.ensures.have c.in_ok-numbering.numbering.names.items policy noted faultless (subst (AreNaming policy) (sym c.deref-2.ensures.value) naming)) c.deref-4.ensures.value)
    naming
