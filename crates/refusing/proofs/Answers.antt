-- What a call's answer shows of its machine value, with all that the call gives back kept. Assumes `Logic`.
use mathlib.Core.List.{[], ◌∷◌}
use seplogic.Ra.Ura.{Ura}
use mir.Val.{Val}
use base.Logic.{SProp, ent, sep, ex, guard, via, fst∗, snd∗, ex_e, guard_i}
use types.Logic.{Logic, sem}
use contract.Monad.{fact, fact_mono, fact_use}
use denote.Laws.{Is, shows}
use denote.RattleType.{RattleType}
use denote.Signature.{Signature, type_at}
use denote.Triple.Entry.{Res, alive}
use denote.Triple.Spec.{Back, Spec, triple_of}
use denote.Triple.Statement.{Contract}

module _ {M : Type 1} {𝓤 : Ura M} (𝓛 : Logic 𝓤) (S : Signature) (c : Spec 𝓤 S) where
  open 𝓛 use {H}

  abbrev Asked : Contract 𝓤
  Asked = triple_of 𝓛 S c

  module _ (x : Asked.Ghost) (v : Val) where
    abbrev Result : RattleType
    Result = type_at S.result x.0.0

    abbrev pub given_back : Res S x.0.0 → SProp 𝓤
    given_back r = sep 𝓤 (Back 𝓛 S x.0 v r) ((c x.0.0 x.0.3).ensures x.1 r)

    -- all that the caller has once the update is made
    abbrev pub Had : SProp 𝓤
    Had = ex 𝓤 given_back

    pub answer_shows : (φ : Type 0) → ((r : Res S x.0.0) → Is Result r (v ∷ []) → φ) → ent 𝓤 (Asked.post x v) (H.⇛ (guard 𝓤 φ Had))
    answer_shows φ told = 𝓛.laws.⇛_mono Had (guard 𝓤 φ Had) (fact_use 𝓤 φ
        (ex_e 𝓤 given_back (λ r. let own = sem 𝓛 (Result.own_val r (v ∷ [])) in
        via 𝓤 (Back 𝓛 S x.0 v r) (fst∗ 𝓤 (Back 𝓛 S x.0 v r) ((c x.0.0 x.0.3).ensures x.1 r))
        (via 𝓤 own (snd∗ 𝓤 (alive 𝓛 S x.0.0 x.0.1) own)
        (via 𝓤 (fact 𝓤 (Is Result r (v ∷ []))) (shows 𝓛 Result r (v ∷ [])) (fact_mono 𝓤 (Is Result r (v ∷ [])) φ (told r))))))
        (guard_i 𝓤 φ Had))

  -- the tokens of the lifetimes are among it
  pub tokens_back : (x : Asked.Ghost) (v : Val) → ent 𝓤 (Had x v) (alive 𝓛 S x.0.0 x.0.1)
  tokens_back x v = let tokens = alive 𝓛 S x.0.0 x.0.1 in
      ex_e 𝓤 (given_back x v) (λ r. via 𝓤 (Back 𝓛 S x.0 v r) (fst∗ 𝓤 (Back 𝓛 S x.0 v r) ((c x.0.0 x.0.3).ensures x.1 r)) (fst∗ 𝓤 tokens (sem 𝓛 ((Result x v).own_val r (v ∷ [])))))
