-- Where attributes depend on themselves, by numbers and by full names.
use Rattle.cil_check.proofs.Common.{◌↔◌, ℕ, List, [], ◌∷◌, Vec, sym, subst, Placed, types, declared_name, sets_of, DependsThrough, DependsOn, IsOnce, LeadsThrough, Leads, HaveOneNames, IsNumbered, AreMentioned, IsGraphOf}
use Rattle.cil_check.proofs.MentionLemmas.{one-name, led-to, mentioned-next, next-mentioned}

module _ {A : Type 0} (policy : List Placed) (graph : List (Vec ℕ A)) (once : IsOnce policy) (named : HaveOneNames policy) (is : IsGraphOf policy graph) where
  leads-through : (between : List ℕ) (a b i k : ℕ) (s t : Placed) → IsNumbered policy a i s → IsNumbered policy b k t → LeadsThrough graph a between b
      → DependsOn (sets_of policy) (declared_name types s) (declared_name types t)
  leads-through [] a b i k s t from to edge = ([], mentioned-next policy once named a b i k s t from to ((is.edges a b).0 edge))
  leads-through (x ∷ between) a b i k s t from to (edge, rest) =
      let mentioned = (is.edges a x).0 edge in
      let there = led-to policy once named mentioned.s.namespace mentioned.mentions.word x mentioned.mentions.other in
      let (names, more) = leads-through between x b there.i k there.s t there.numbered to rest in
      (declared_name types there.s ∷ names, (mentioned-next policy once named a x i there.i s there.s from there.numbered mentioned, more))

  through-leads : (between : List (List ℕ)) (a b i k : ℕ) (s t : Placed) → IsNumbered policy a i s → IsNumbered policy b k t
      → DependsThrough (sets_of policy) (declared_name types s) between (declared_name types t) → Leads graph a b
  through-leads [] a b i k s t from to step =
      let next = next-mentioned policy once named a i s (declared_name types t) from step in
      ([], (is.edges a b).1 (subst (λ n. AreMentioned policy policy a n) (one-name policy once named b next.b k next.k t next.t to next.numbered next.is_named) next.mentioned))
  through-leads (x ∷ between) a b i k s t from to (step, rest) =
      let next = next-mentioned policy once named a i s x from step in
      let (nodes, more) = through-leads between next.b b next.k k next.t t next.numbered to (subst (λ n. DependsThrough (sets_of policy) n between (declared_name types t)) (sym next.is_named) rest) in
      (next.b ∷ nodes, ((is.edges a next.b).1 next.mentioned, more))

  -- An attribute's number leads to another's exactly where the attribute depends on the other.
  pub leads-depends : (a b i k : ℕ) (s t : Placed) → IsNumbered policy a i s → IsNumbered policy b k t
      → Leads graph a b ↔ DependsOn (sets_of policy) (declared_name types s) (declared_name types t)
  leads-depends a b i k s t from to = (λ (between, there). leads-through between a b i k s t from to there, λ (between, there). through-leads between a b i k s t from to there)
