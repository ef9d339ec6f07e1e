-- A contract is met at every machine value, if it is met at those by which the parameters' types spell their values. Assumes `Logic`.
use mathlib.Core.Path.{sym, subst}
use seplogic.Ra.Ura.{Ura}
use base.Logic.{ent, via, fst∗, snd∗}
use types.Logic.{Logic, sem}
use contract.Lifetimes.{Lfts}
use contract.Monad.{Fun, fact_use}
use denote.RattleType.{owns}
use denote.Laws.{Are, Ises, Spells, Tellss, all_tell, owns_show, showss, valss}
use denote.Signature.{Signature, types_at}
use denote.Triple.Entry.{Vals, alive, on_entry}
use denote.Triple.Spec.{Spec, triple_of}
use denote.Triple.Statement.{Contract, Triple}

module _ {M : Type 1} {𝓤 : Ura M} (𝓛 : Logic 𝓤) (S : Signature) (c : Spec 𝓤 S) where
  abbrev Whole : Contract 𝓤
  Whole = triple_of 𝓛 S c

  -- the same call with other machine values
  abbrev pub passing : (x : Whole.Ghost) → Vals S x.0.0 → Whole.Ghost
  passing x vss = ((x.0.0, x.0.1, x.0.2, x.0.3, vss), x.1)

  abbrev pub spelt : ((κs : Lfts S.lifetimes) → Spells (types_at S.params κs)) → Whole.Ghost → Whole.Ghost
  spelt spell x = passing x (valss (types_at S.params x.0.0) (spell x.0.0) x.0.3)

  pub met_if_spelt : (run : Fun 𝓤) (spell : (κs : Lfts S.lifetimes) → Spells (types_at S.params κs))
      → ((κs : Lfts S.lifetimes) → Tellss (types_at S.params κs) (Ises (types_at S.params κs)) (spell κs))
      → ((x : Whole.Ghost) → Are (types_at S.params x.0.0) (Ises (types_at S.params x.0.0)) x.0.3 (spelt spell x).0.4
      → ent 𝓤 (Whole.pre (spelt spell x)) (run (Whole.args (spelt spell x)) (Whole.post (spelt spell x)))) → Triple 𝓤 run Whole
  met_if_spelt run spell tells meets x =
      let Rs = types_at S.params x.0.0 in let a = x.0.3 in let requires = (c x.0.0 a).requires x.1 in
      fact_use 𝓤 (Are Rs (Ises Rs) a x.0.4)
      (via 𝓤 (on_entry 𝓛 S x.0.0 x.0.1 a x.0.4) (fst∗ 𝓤 (on_entry 𝓛 S x.0.0 x.0.1 a x.0.4) requires)
      (via 𝓤 (sem 𝓛 (owns Rs a x.0.4)) (snd∗ 𝓤 (alive 𝓛 S x.0.0 x.0.1) (sem 𝓛 (owns Rs a x.0.4))) (owns_show 𝓛 Rs (Ises Rs) (showss 𝓛 Rs) a x.0.4)))
      (λ are. let told = all_tell Rs (Ises Rs) (spell x.0.0) (tells x.0.0) a x.0.4 are in
      subst (λ (vss : Vals S x.0.0). ent 𝓤 (Whole.pre (passing x vss)) (run (Whole.args (passing x vss)) (Whole.post (passing x vss)))) (sym told)
      (meets x (subst (Are Rs (Ises Rs) a) told are)))
