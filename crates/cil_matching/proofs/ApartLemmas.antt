-- Set statements and rules of a resolved policy stand at spots of their own.
use Rattle.cil_matching.proofs.Common.{◌≡◌, ◌∙◌, ℕ, zero, suc, ◌<◌, inl, inr, List, [], ◌∷◌, map, slice_get, AllPairs, Some, refl, sym, ap, IsStrictlySortedBy, Less, Equal, cases_order, tied_itself, none-some, same_Some, slice_get_within, get_or_from_slice_get, Rule, SetStatement, IsSameRule, IsSameSet, rule_cmp, rule_total, all-at, Spot, spot_cmp, set_spot, rule_spot, AreApart}
use Rattle.cil_resolve.specs.Apart.{StandApart}
use Rattle.cil_matching.proofs.MatchedLemmas.{from-mapped}

-- Set statements that are the same stand at one spot.
pub sets-agree : (s t : SetStatement) → IsSameSet s t → set_spot s ≡ set_spot t
sets-agree s t same = λ i. record { module_name = same.0 i; offset = same.1 i }

pub rules-agree : (r s : Rule) → IsSameRule r s → rule_spot r ≡ rule_spot s
rules-agree r s same = λ i. record { module_name = same.0 i; offset = same.1 i }

-- so they are apart where no two stand in one module at one offset
pub apart-sets : (sets : List SetStatement) → AllPairs StandApart sets → AreApart (map set_spot sets)
apart-sets sets apart i j p first second =
    let (s, here, mine) = from-mapped set_spot sets i p first in
    let (t, there, its) = from-mapped set_spot sets j p second in
    let same : set_spot s ≡ set_spot t = mine ∙ sym its in
    elim (cases_order i j) [
      | inl place ↦ place
      | inr (inl less) ↦ absurd (never i j s t less here there same)
      | inr (inr more) ↦ absurd (never j i t s more there here (sym same))
    ]
  where
    never : (i j : ℕ) (s t : SetStatement) → i < j → slice_get sets i ≡ Some s → slice_get sets j ≡ Some t → set_spot s ≡ set_spot t → ⊥
    never i j s t less here there same =
        let pair = apart i j s less (slice_get_within sets j t there) in
        let one = get_or_from_slice_get sets i s s here in
        let two = get_or_from_slice_get sets j t s there in
        pair (ap (λ (x : SetStatement). x.module_name) one ∙ ap (λ (x : Spot). x.module_name) same ∙ sym (ap (λ (x : SetStatement). x.module_name) two))
        (ap (λ (x : SetStatement). x.at.offset) one ∙ ap (λ (x : Spot). x.offset) same ∙ sym (ap (λ (x : SetStatement). x.at.offset) two))

less-apart : (r s : Rule) → rule_cmp r s ≡ Less → rule_spot r ≡ rule_spot s → ⊥
less-apart r s less same = never (sym (tied_itself rule_total r) ∙ ap (spot_cmp (rule_spot r)) same ∙ less)
  where
    never : Equal ≡ Less → ⊥
    never e = cc

-- rules in order are apart
pub apart-rules : (rules : List Rule) → IsStrictlySortedBy rule_cmp rules → AreApart (map rule_spot rules)
unfolding IsStrictlySortedBy
apart-rules [] ordered i j p first second = absurd (none-some p first)
apart-rules (r ∷ rules) ordered zero zero p first second = refl
apart-rules (r ∷ rules) ordered zero (suc j) p first second =
    let (s, there, its) = from-mapped rule_spot rules j p second in
    absurd (less-apart r s (all-at (λ q. rule_cmp r q ≡ Less) rules j s ordered.0 there) (same_Some (rule_spot r) p first ∙ sym its))
apart-rules (r ∷ rules) ordered (suc i) zero p first second =
    let (s, here, mine) = from-mapped rule_spot rules i p first in
    absurd (less-apart r s (all-at (λ q. rule_cmp r q ≡ Less) rules i s ordered.0 here) (same_Some (rule_spot r) p second ∙ sym mine))
apart-rules (r ∷ rules) ordered (suc i) (suc j) p first second = ap suc (apart-rules rules ordered.1 i j p first second)
