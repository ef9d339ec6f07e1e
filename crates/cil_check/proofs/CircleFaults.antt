-- The first attribute that depends on itself is the first fault of its kind.
use Rattle.cil_check.proofs.Common.{◌≡◌, ℕ, ◌<◌, MatchOption, length, get_or, arith, HaveNumbers, true, cond, List, [], ◌∷◌, take, filter, Option, Some, Vec, Contains, refl, sym, ap, ◌∙◌, subst, Word, type_attribute, Placed, types, declared_name, is_attribute, PolicyFault, circular, IsCircular, IsFaultOf, sets_of, DependsOn, attribute-word, attribute_words, circular_words, circular-listed, depends_on, depends-decided, no-elements, contains-middle, IsOnce, words_in, NumberedWord, AreOrdered, IsLeast, HaveOneNames, AreNodes, Leads, attribute_count, IsNumbered, IsGraphOf, IsSeen, Reads, fault_at, Seen}
use Rattle.std.proofs.Common.{slice_get}
use Rattle.cil_dependence.specs.Dependence.{IsStraight, IsFirst}
use Rattle.cil_check.proofs.CircleLemmas.{leads-depends}
use Rattle.cil_check.proofs.DeclaredLemmas.{contains-at}
use Rattle.cil_check.proofs.GraphLemmas.{number-within, places-many, place-numbered}
use Rattle.cil_check.proofs.LeastLemmas.{NoneFaultyBelow, least-at}
use Rattle.cil_check.proofs.MentionLemmas.{led-to}
use Rattle.cil_check.proofs.NumberLemmas.{count-rises}
use Rattle.cil_check.proofs.SeenLemmas.{seen-word}

module _ {A : Type 0} (policy : List Placed) (graph : List (Vec ℕ A)) (once : IsOnce policy) (named : HaveOneNames policy) (is : IsGraphOf policy graph) where
  -- each edge leads to an attribute
  pub edges-within : AreNodes graph
  edges-within a b edge =
      let mentioned = (is.edges a b).0 edge in
      let to = led-to policy once named mentioned.s.namespace mentioned.mentions.word b mentioned.mentions.other in
      subst (λ n. b < n) (sym is.nodes) (number-within policy b to.i to.s to.numbered)

  -- the number of an attribute that depends on itself leads to itself
  circular-leads : (i : ℕ) (s : Placed) (word : Word) → slice_get policy i ≡ Some s → IsCircular policy s word → Leads graph (attribute_count (take i policy)) (attribute_count (take i policy))
  circular-leads i s word at circle =
      let n = attribute_count (take i policy) in
      let numbered : IsNumbered policy n i s = record { at = at; is = ap (λ f. is_attribute f) circle.declares; number = refl } in
      (leads-depends policy graph once named is n n i i s s numbered numbered).1 circle.depends

  -- where no number leads to itself no attribute depends on itself
  pub straight-faultless : IsStraight graph → (fault : PolicyFault) → IsFaultOf circular policy fault → ⊥
  straight-faultless straight fault f =
      let (i, at) = contains-at policy f.s (subst (λ l. Contains l f.s) (sym f.split) (contains-middle f.before f.s f.after)) in
      straight (attribute_count (take i policy)) (circular-leads i f.s f.word at f.is_faulty)

  -- the first number that leads to itself is that of the first fault
  pub first-circle : (n i : ℕ) (s : Placed) (word : Word) → AreOrdered policy → IsFirst graph n → IsNumbered policy n i s → s.form ≡ type_attribute word → IsLeast (IsFaultOf circular policy) (fault_at circular s word)
  first-circle n i s word ordered first numbered declares = least-at circular policy i s word [] ordered numbered.at none-faulty faulty
    where
      depends : DependsOn (sets_of policy) (declared_name types s) (declared_name types s)
      depends = (leads-depends policy graph once named is n n i i s s numbered numbered).0 first.is.leads

      faulty : circular_words policy s ≡ word ∷ []
      faulty =
          ap (λ f. filter (λ id. depends_on (sets_of policy) (declared_name types s) (declared_name types s)) (attribute_words f)) declares
          ∙ ap (λ b. cond b (word ∷ []) []) ((depends-decided (sets_of policy) (declared_name types s) (declared_name types s)).1 depends)

      none-faulty : NoneFaultyBelow circular policy i
      none-faulty j less t at = no-elements (circular_words policy t) λ w c.
          let circle = (circular-listed policy t w).0 c in
          let low : attribute_count (take j policy) < n = subst (λ m. attribute_count (take j policy) < m) numbered.number (count-rises (λ u. is_attribute u.form) policy j i t at (ap (λ f. is_attribute f) circle.declares) less) in
          first.first (attribute_count (take j policy)) low (circular-leads j t w at circle)

-- the word of an attribute as it is seen
pub attribute-read : {B : Type 0} (seen : Seen B) (policy : List Placed) (s : Placed) (found : Option NumberedWord) → IsSeen seen policy s → is_attribute s.form ≡ true → found ≡ slice_get seen.view.words.now 0
    → (id : Word) × (s.form ≡ type_attribute id) × Reads seen found (Some id)
attribute-read seen policy s found is declares read =
    let (id, form) = attribute-word s.form declares in
    (id, form, subst (λ o. Reads seen o (Some id)) (sym read) (seen-word seen policy s 0 id is (ap (λ f. slice_get (words_in f) 0) form)))

-- the first node that leads to itself is an attribute's, and this is its statement
module _ {A : Type 0} (policy : List Placed) (numbers places : List ℕ) (made graph : List (Vec ℕ A)) (o : Option ℕ) (number : ℕ) where
  pub circle-within : HaveNumbers policy (length policy) numbers places → IsGraphOf policy made → graph ≡ made → MatchOption o (IsStraight graph) (IsFirst graph) → o ≡ Some number → number < length places
  circle-within have is same told found =
      let first = subst (λ x. MatchOption x (IsStraight graph) (IsFirst graph)) found told in
      let within = first.is.within in
      let nodes = is.nodes in
      let many = places-many policy numbers places have in
      let long = ap length same in
      omega (arith, within, nodes, many, long)

  pub circle-at : HaveNumbers policy (length policy) numbers places → IsGraphOf policy made → graph ≡ made → MatchOption o (IsStraight graph) (IsFirst graph) → o ≡ Some number
      → (place : ℕ) → place ≡ get_or places number place → (s : Placed) × IsNumbered policy number place s
  circle-at have is same told found place read = place-numbered policy numbers places number place have (circle-within have is same told found) read
