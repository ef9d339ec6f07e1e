-- Counters of accesses brought from one policy to another.
use Rattle.cil_table_updates.proofs.Common.{◌≡◌, ℕ, ◌+◌, ◌≤◌, true, List, length, slice_get, Some, sym, ap, ◌∙◌, subst, arith, length-map, slice_get_within, across, alone, sum_below, ArePlaces, sum-sides, IsSameRule, count_before, is_rule_below, keeps_no_list, rule_of, meaning_in, NumberedRule, Resolved, members_of, reaches_by, AreReplaced, AreApart, HasSoundRules, IsPolicy, Policy}
use Rattle.cil_specs.specs.Rule as spec
use Rattle.cil_matching.specs.Matching.{Matched, AreMatched, AreSameAt}
use Rattle.cil_matching.proofs.MatchedLemmas.{from-mapped}
use Rattle.cil_member_rows.specs.Rows.{count_now}
use Rattle.cil_recorded.specs.Recorded.{State}
use Rattle.cil_table_updates.proofs.PlaceLemmas.{passes-at}
use Rattle.cil_table_updates.proofs.SameLemmas.{same-permits, same-reach, same-rule-kind}

-- statements that are put together have places
pub places-matched : {S : Type 0} (IsSame : S → S → Type 0) (old new : List S) (m : Matched) → AreMatched IsSame old new m → ArePlaces (length old) (length new) m.ahead m.back
places-matched IsSame old new m matched = record {
  to = λ i j is. let at = (matched.ahead i j).0 is in (slice_get_within new j at.other at.there, (matched.back i j).1 at);
  from = λ i j is. let at = (matched.back i j).0 is in (slice_get_within old i at.statement at.here, (matched.ahead i j).1 at);
}

module _ {A : Type 0} (names : List (List ℕ)) (apart : AreApart names) (rows : State) (old new : Policy A) (old_is : IsPolicy names old) (new_is : IsPolicy names new)
    (before : members_of old.members ≡ count_before rows) (now : members_of new.members ≡ count_now rows)
    (old_sound : HasSoundRules old) (new_sound : HasSoundRules new) where
  -- so rules that are put together are the same by symbols
  pub rules-replaced : (m : Matched) → AreMatched IsSameRule (meaning_in old.resolved.now).rules (meaning_in new.resolved.now).rules m → AreReplaced rows old new m
  rules-replaced m matched i j is = record {
    old_rule = one.0;
    new_rule = other.0;
    here = one.1;
    there = other.1;
    kind = same-rule-kind r s names apart old.numbering.now.symbols new.numbering.now.symbols old_is.numbers new_is.numbers one.0 other.0 one_low other_below same;
    reached = λ source t.
        same-reach r s names apart old.numbering.now.symbols new.numbering.now.symbols old_is.numbers new_is.numbers one.0 other.0 one_low other_below same (members_of old.members) source t
        ∙ ap (λ members. reaches_by members new.numbering.now.symbols other.0 source t) before;
    reaches = λ source t. ap (λ members. reaches_by members new.numbering.now.symbols other.0 source t) now;
    written = ap (λ (content : spec.RuleContent). content.permissions) same;
    permits = same-permits r s names apart old.numbering.now.symbols new.numbering.now.symbols old_is.numbers new_is.numbers one.0 other.0 one_low other_below same one_no_list;
  }
    where
      r : Resolved A
      r = old.resolved.now

      s : Resolved A
      s = new.resolved.now

      at : AreSameAt IsSameRule (meaning_in r).rules (meaning_in s).rules i j
      at = (matched.back i j).0 is

      one : (rule : NumberedRule A) × (slice_get r.rules.items i ≡ Some rule) × (rule_of r.modules.items r.names.items rule ≡ at.statement)
      one = from-mapped (rule_of r.modules.items r.names.items) r.rules.items i at.statement at.here

      other : (rule : NumberedRule A) × (slice_get s.rules.items j ≡ Some rule) × (rule_of s.modules.items s.names.items rule ≡ at.other)
      other = from-mapped (rule_of s.modules.items s.names.items) s.rules.items j at.other at.there

      one_low : is_rule_below (length r.names.items) one.0 ≡ true
      one_low = passes-at (is_rule_below (length r.names.items)) r.rules.items i one.0 old_sound.below one.1

      other_below : is_rule_below (length s.names.items) other.0 ≡ true
      other_below = passes-at (is_rule_below (length s.names.items)) s.rules.items j other.0 new_sound.below other.1

      one_no_list : keeps_no_list one.0 ≡ true
      one_no_list = passes-at keeps_no_list r.rules.items i one.0 old_sound.no_lists one.1

      same : spec.content_of (rule_of r.modules.items r.names.items one.0) ≡ spec.content_of (rule_of s.modules.items s.names.items other.0)
      same = ap spec.content_of one.2 ∙ at.same.2 ∙ sym (ap spec.content_of other.2)

  sides : (F : ℕ → ℕ) (m : Matched) → AreMatched IsSameRule (meaning_in old.resolved.now).rules (meaning_in new.resolved.now).rules m
      → sum_below F (length old.resolved.now.rules.items) ≡ sum_below (alone F m.ahead) (length old.resolved.now.rules.items) + sum_below (across F m.back) (length new.resolved.now.rules.items)
  sides F m matched = sum-sides F (length old.resolved.now.rules.items) m.ahead m.back (length new.resolved.now.rules.items) places
    where
      long : length (meaning_in old.resolved.now).rules ≡ length old.resolved.now.rules.items
      long = length-map old.resolved.now.rules.items (rule_of old.resolved.now.modules.items old.resolved.now.names.items)

      wide : length (meaning_in new.resolved.now).rules ≡ length new.resolved.now.rules.items
      wide = length-map new.resolved.now.rules.items (rule_of new.resolved.now.modules.items new.resolved.now.names.items)

      places : ArePlaces (length old.resolved.now.rules.items) (length new.resolved.now.rules.items) m.ahead m.back
      places =
          subst (λ n. ArePlaces n (length new.resolved.now.rules.items) m.ahead m.back) long
          (subst (λ n. ArePlaces (length (meaning_in old.resolved.now).rules) n m.ahead m.back) wide (places-matched IsSameRule (meaning_in old.resolved.now).rules (meaning_in new.resolved.now).rules m matched))

  -- the counters after both passes
  pub counts-new : (F N : ℕ → ℕ) (m : Matched) (start between end : ℕ) → AreMatched IsSameRule (meaning_in old.resolved.now).rules (meaning_in new.resolved.now).rules m
      → start ≡ sum_below F (length old.resolved.now.rules.items)
      → between + sum_below (alone F m.ahead) (length old.resolved.now.rules.items) ≡ start
      → end + sum_below (across F m.back) (length new.resolved.now.rules.items) ≡ between + sum_below N (length new.resolved.now.rules.items)
      → end ≡ sum_below N (length new.resolved.now.rules.items)
  counts-new F N m start between end matched stands taken put = let both = sides F m matched in omega (arith, both, stands, taken, put)

  -- and the rules that go have counters, and so do those that stay
  pub gone-counted : (F : ℕ → ℕ) (m : Matched) (start : ℕ) → AreMatched IsSameRule (meaning_in old.resolved.now).rules (meaning_in new.resolved.now).rules m
      → start ≡ sum_below F (length old.resolved.now.rules.items) → sum_below (alone F m.ahead) (length old.resolved.now.rules.items) ≤ start
  gone-counted F m start matched stands = let both = sides F m matched in omega (arith, both, stands)

  pub stayed-counted : (F : ℕ → ℕ) (m : Matched) (start between : ℕ) → AreMatched IsSameRule (meaning_in old.resolved.now).rules (meaning_in new.resolved.now).rules m
      → start ≡ sum_below F (length old.resolved.now.rules.items) → between + sum_below (alone F m.ahead) (length old.resolved.now.rules.items) ≡ start
      → sum_below (across F m.back) (length new.resolved.now.rules.items) ≤ between
  stayed-counted F m start between matched stands taken = let both = sides F m matched in omega (arith, both, stands, taken)
