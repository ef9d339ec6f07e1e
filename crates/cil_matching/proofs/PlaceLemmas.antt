-- The places of one policy's rules in another one.
use Rattle.cil_matching.proofs.Common.{◌≡◌, ◌∙◌, ◌↔◌, ℕ, ◌<◌, Bool, true, false, true≢false, List, length, get_or, slice_get, Option, None, Some, IsTrue, refl, sym, ap, subst, arith, IsStrictlySortedBy, Equal, tied_itself, length-map, none-some, same_Some, slice_get-get_or, slice_get_within, Rule, IsSameRule, content_of, rule_cmp, rule_total, meaning_in, SayTheSame, AreNumbers, AreSameAt, AreBefore, IsFoundAt, IsMissedAt, Spot, spot_cmp, rule_spot}
use Rattle.std.specs.Bool.{then_some}
use Rattle.cil_needs.proofs.GreatestLemmas.{all-got}
use Rattle.cil_resolve.specs.Below.{is_rule_below, is_written_below}
use Rattle.cil_resolve.specs.Numbers.{keeps_no_list, rule_of}
use Rattle.cil_resolve.specs.declared.numbered.NumberedRule.{NumberedRule}
use Rattle.cil_resolve.specs.declared.resolved.Resolved.{Resolved}
use Rattle.cil_matching.proofs.ApartLemmas.{rules-agree}
use Rattle.cil_matching.proofs.ContentLemmas.{content-tells, is-below}
use Rattle.cil_matching.proofs.MatchedLemmas.{there-is, to-mapped}
use Rattle.cil_matching.proofs.MergedLemmas.{found-place}
use Rattle.cil_matching.proofs.SpotLemmas.{tied-spots}

-- rules that are the same stand at one spot
same-alike : (r s : Rule) → IsSameRule r s → rule_cmp s r ≡ Equal
same-alike r s same = ap (spot_cmp (rule_spot s)) (rules-agree r s same) ∙ tied_itself rule_total s

pub rule-missed : (olds news : List Rule) (i j : ℕ) → IsMissedAt rule_cmp olds news i j → (k : ℕ) → (◌≡◌ {A = Option ℕ} None (Some k)) ↔ AreSameAt IsSameRule olds news i k
rule-missed olds news i j missed k = (
  λ is. absurd (none-some k is),
  λ same. absurd (missed.never k same.statement same.other same.here same.there (same-alike same.statement same.other same.same)),
)

-- alike rules are the same where they say the same
alike-same : (r s : Rule) → rule_cmp s r ≡ Equal → content_of r ≡ content_of s → IsSameRule r s
alike-same r s alike content =
    let same = tied-spots (rule_spot s) (rule_spot r) alike in
    (sym (ap (λ (p : Spot). p.module_name) same), sym (ap (λ (p : Spot). p.offset) same), content)

module _ (olds news : List Rule) (i j : ℕ) (low : i < length olds) (sorted : IsStrictlySortedBy rule_cmp news) (found : IsFoundAt rule_cmp olds news i j) where
  only-there : (k : ℕ) (same : AreSameAt IsSameRule olds news i k) → k ≡ j
  only-there k same = found-place rule_cmp rule_total olds news i j k same.statement same.other sorted found same.here same.there (same-alike same.statement same.other same.same)

  -- the test of what two rules say, where they stand at one spot
  module _ (test : Bool) (tells : (r s : Rule) → slice_get olds i ≡ Some r → slice_get news j ≡ Some s → IsTrue test ↔ (content_of r ≡ content_of s)) where
    rule-found : test ≡ true → (k : ℕ) → (◌≡◌ {A = Option ℕ} (Some j) (Some k)) ↔ AreSameAt IsSameRule olds news i k
    rule-found passes k = (
      λ is. subst (AreSameAt IsSameRule olds news i) (same_Some j k is) stands,
      λ same. ap Some (sym (only-there k same)),
    )
      where
        stands : AreSameAt IsSameRule olds news i j
        stands =
            let (r, here) = there-is olds i low in
            let (s, there) = there-is news j found.within in
            record { statement = r; other = s; here = here; there = there; same = alike-same r s (found.alike r s here there) ((tells r s here there).0 passes) }

    rule-other : test ≡ false → (k : ℕ) → (◌≡◌ {A = Option ℕ} None (Some k)) ↔ AreSameAt IsSameRule olds news i k
    rule-other fails k = (
      λ is. absurd (none-some k is),
      λ same.
          let there = ap (slice_get news) (sym (only-there k same)) ∙ same.there in
          absurd (true≢false (sym ((tells same.statement same.other same.here there).1 same.same.2) ∙ fails)),
    )

    pub rule-tested : (k : ℕ) → (then_some test j ≡ Some k) ↔ AreSameAt IsSameRule olds news i k
    rule-tested k = by test refl
      where
        by : (b : Bool) → test ≡ b → (then_some b j ≡ Some k) ↔ AreSameAt IsSameRule olds news i k
        by true passes = rule-found passes k
        by false fails = rule-other fails k

-- a rule that is the same as the first that doesn't stand before it
module _ (olds news : List Rule) (i j : ℕ) (sorted : IsStrictlySortedBy rule_cmp news) (before : AreBefore rule_cmp olds news i j) (same : AreSameAt IsSameRule olds news i j) where
  pub same-found : IsFoundAt rule_cmp olds news i j
  same-found = record {
    within = slice_get_within news j same.other same.there;
    before = before;
    alike = λ x y here there.
        let one = same_Some same.statement x (sym same.here ∙ here) in
        let two = same_Some same.other y (sym same.there ∙ there) in
        (λ k. rule_cmp (sym two k) (sym one k)) ∙ same-alike same.statement same.other same.same;
  }

  pub rule-stands : (k : ℕ) → (◌≡◌ {A = Option ℕ} (Some j) (Some k)) ↔ AreSameAt IsSameRule olds news i k
  rule-stands k = (
    λ is. subst (AreSameAt IsSameRule olds news i) (same_Some j k is) same,
    λ other. ap Some (sym (only-there olds news i j (slice_get_within olds i same.statement same.here) sorted same-found k other)),
  )

-- the test of two rules that stand somewhere, by their numbers
pub contents-tell : {A : Type 0} (p q : Resolved A) (numbers : List (Option ℕ)) → AreNumbers p.names.items q.names.items numbers → (i j : ℕ) (x y : NumberedRule A) (test : Bool)
    → slice_get p.rules.items i ≡ Some x → slice_get q.rules.items j ≡ Some y → (IsTrue test ↔ SayTheSame numbers x y)
    → (r s : Rule) → slice_get (meaning_in p).rules i ≡ Some r → slice_get (meaning_in q).rules j ≡ Some s → IsTrue test ↔ (content_of r ≡ content_of s)
contents-tell p q numbers are i j x y test mine its tells r s here there =
    let one : rule_of p.modules.items p.names.items x ≡ r = same_Some (rule_of p.modules.items p.names.items x) r (sym (to-mapped (rule_of p.modules.items p.names.items) p.rules.items i x mine) ∙ here) in
    let two : rule_of q.modules.items q.names.items y ≡ s = same_Some (rule_of q.modules.items q.names.items y) s (sym (to-mapped (rule_of q.modules.items q.names.items) q.rules.items j y its) ∙ there) in
    let low =
    is-below (length p.names.items) x (all-got (is_rule_below (length p.names.items)) p.rules.items i x p.rules_within mine)
    (all-got (is_written_below (length p.names.items)) p.rules.items i x p.written_within mine) in
    let below =
    is-below (length q.names.items) y (all-got (is_rule_below (length q.names.items)) q.rules.items j y q.rules_within its)
    (all-got (is_written_below (length q.names.items)) q.rules.items j y q.written_within its) in
    let (to, from) = content-tells p.names.items q.names.items numbers are p.modules.items q.modules.items x y low below in (
      λ passes. ap content_of (sym one) ∙ to (tells.0 passes) ∙ ap content_of two,
      λ same. tells.1 (from (ap content_of one ∙ same ∙ ap content_of (sym two))),
    )

-- what is read of the rules at a place
pub read-rule : {A : Type 0} (p : Resolved A) (i : ℕ) (x : NumberedRule A) (rules : List (NumberedRule A)) → i < length (meaning_in p).rules → rules ≡ p.rules.items → x ≡ get_or rules i x → slice_get p.rules.items i ≡ Some x
read-rule p i x rules low are is =
    let long = length-map p.rules.items (rule_of p.modules.items p.names.items) in
    slice_get-get_or p.rules.items i x (omega (arith, low, long)) ∙ ap Some (ap (λ l. get_or l i x) (sym are) ∙ sym is)

-- it keeps an expression only where that is no plain list
pub read-no-list : {A : Type 0} (p : Resolved A) (i : ℕ) (x : NumberedRule A) → slice_get p.rules.items i ≡ Some x → keeps_no_list x ≡ true
read-no-list p i x is = all-got keeps_no_list p.rules.items i x p.no_lists is

-- and is the rule there
pub read-is : {A : Type 0} (p : Resolved A) (i : ℕ) (x : NumberedRule A) (rules : List (NumberedRule A)) (r : Rule) → i < length (meaning_in p).rules → rules ≡ p.rules.items → x ≡ get_or rules i x
    → slice_get (meaning_in p).rules i ≡ Some r → rule_of p.modules.items p.names.items x ≡ r
read-is p i x rules r low are is at =
    let image = rule_of p.modules.items p.names.items in
    same_Some (image x) r (sym (to-mapped image p.rules.items i x (read-rule p i x rules low are is)) ∙ at)
