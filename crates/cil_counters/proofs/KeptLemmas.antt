-- What is counted by symbols, where names come in the place of names that the policy lacks.
use Rattle.cil_counters.proofs.Common.{◌≡◌, ℕ, ◌+◌, ◌*◌, ◌&&◌, Bool, true, false, List, [], ◌∷◌, length, cond, count_by, bytes_eq, get_or, slice_get, Option, None, Some, is_some, position, refl, sym, ap, ◌∙◌, ◌≤◌, arith, true≢false, list_all, IsDistinct, and_parts, sum_by-cons, slice_get_within, get_or_from_slice_get, bytes_eq-Decides, AreTheSame, has_name, Meaning, is_in, keeps_type, keeps_attribute, HasSoundSets, SetStatement, holds_with, AreNumbersOf, any-position, SymbolKey, is_rule_below, meaning_in, sets_in, Resolved, found-name, AreCounts, AreKept, symbol-name, symbol-some, counted-named, names-apart, AreSymbolsOf, IsCounted, IsCountedBy}
use Rattle.std.proofs.Common.{Contains}
use Rattle.cil_specs.proofs.NamesLemmas.{contains-first, contains-other}
use Rattle.cil_resolve.specs.Consistent.{is_consistent}
use Rattle.cil_resolve.specs.Numbers.{GivesNumbered}
use Rattle.cil_resolve.specs.declared.numbered.NumberedRule.{NumberedRule}
use Rattle.cil_member_updates.specs.Counts.{one_if}
use Rattle.cil_member_updates.specs.Given.{gives, holds, is_of, keeps, of_name}
use Rattle.cil_member_updates.proofs.NameLemmas.{named-by, same-symbol}
use Rattle.cil_counters.specs.declared.policy_symbols.PolicySymbols.{PolicySymbols}
use Rattle.cil_counters.proofs.CountedLemmas.{members-counted}

-- booleans that are true together
alike : (a b : Bool) → (a ≡ true → b ≡ true) → (b ≡ true → a ≡ true) → a ≡ b
alike true b there back = sym (there refl)
alike false true there back = back refl
alike false false there back = refl

-- a name that both lists have symbols for has the same one
symbol-both : (names others : List (List ℕ)) (numbers : List ℕ) (kept : List (List ℕ)) → AreNumbersOf names numbers kept → AreNumbersOf others numbers kept → (n : List ℕ) → has_name kept n ≡ true
    → (s : ℕ) × (slice_get names s ≡ Some n) × (slice_get others s ≡ Some n)
symbol-both names others numbers kept are stay n has = by (position (bytes_eq n) kept) refl
  where
    by : (found : Option ℕ) → position (bytes_eq n) kept ≡ found → (s : ℕ) × (slice_get names s ≡ Some n) × (slice_get others s ≡ Some n)
    by None e = absurd (true≢false (sym has ∙ any-position (bytes_eq n) kept ∙ ap is_some e))
    by (Some k) e =
        let at = found-name kept n k e in
        let some = symbol-some names numbers kept are k (slice_get_within kept k n at) in
        let is = ap Some (get_or_from_slice_get kept k n [] at) in
        (get_or numbers k 0, symbol-name names numbers kept are k (get_or numbers k 0) some ∙ is, symbol-name others numbers kept stay k (get_or numbers k 0) some ∙ is)

-- a test that holds of such names alone holds of a symbol's name where it did
test-stays : (names others : List (List ℕ)) (numbers : List ℕ) (kept : List (List ℕ)) → AreNumbersOf names numbers kept → AreNumbersOf others numbers kept → IsDistinct bytes_eq names → (test : List ℕ → Bool)
    → ((name : List ℕ) → test name ≡ true → has_name kept name ≡ true) → (t : ℕ) → of_name test (slice_get names t) ≡ true → of_name test (slice_get others t) ≡ true
test-stays names others numbers kept are stay distinct test known t passes =
    let (n, at, is) = named-by test (slice_get names t) passes in
    let (s, here, there) = symbol-both names others numbers kept are stay n (known n is) in
    ap (of_name test) (ap (slice_get others) (sym (same-symbol names distinct s t n here at)) ∙ there) ∙ is

module _ (names others : List (List ℕ)) (numbers : List ℕ) (kept : List (List ℕ)) (are : AreNumbersOf names numbers kept) (stay : AreNumbersOf others numbers kept) (distinct : IsDistinct bytes_eq names)
    (apart : IsDistinct bytes_eq others) where
  test-kept : (test : List ℕ → Bool) → ((name : List ℕ) → test name ≡ true → has_name kept name ≡ true) → (t : ℕ) → of_name test (slice_get names t) ≡ of_name test (slice_get others t)
  test-kept test known t = alike (of_name test (slice_get names t)) (of_name test (slice_get others t)) (test-stays names others numbers kept are stay distinct test known t) (test-stays others names numbers kept stay are apart test known t)

  -- so do those that tell the kept types
  pub kept-stay : {A : Type 0} (r : Resolved A) (words : List ℕ) → ((name : List ℕ) → keeps_type (meaning_in r) name ≡ true → has_name kept name ≡ true) → AreKept names r words → AreKept others r words
  unfolding keeps
  kept-stay r words types kept_there w b low = kept_there w b low ∙ ap one_if (test-kept (keeps_type (meaning_in r)) types (64 * w + b))

  module _ (meaning : Meaning) (types : (name : List ℕ) → keeps_type meaning name ≡ true → has_name kept name ≡ true) where
    holds-kept : (s : SetStatement) (t : ℕ) → holds names meaning s t ≡ holds others meaning s t
    unfolding holds
    holds-kept s t = test-kept (is_in meaning s.expr) (λ name is. types name (keeps-type name is)) t
      where
        keeps-type : (name : List ℕ) → is_in meaning s.expr name ≡ true → keeps_type meaning name ≡ true
        keeps-type name is = (and_parts (keeps_type meaning name) (holds_with meaning.sets (length meaning.attributes) s.expr name) is).0

    gives-kept : (s : SetStatement) → has_name kept s.attribute ≡ true → (a t : ℕ) → gives names meaning a t s ≡ gives others meaning a t s
    unfolding is_of
    gives-kept s has a t =
        ap (λ b. b && holds names meaning s t)
        (test-kept (λ name. bytes_eq name s.attribute) (λ name is. ap (has_name kept) ((bytes_eq-Decides name s.attribute).0 is) ∙ has) a)
        ∙ ap (λ b. is_of others s a && b) (holds-kept s t)

    -- so as many of some set statements give
    count-kept : (sets : List SetStatement) → ((s : SetStatement) → Contains sets s → has_name kept s.attribute ≡ true) → (a t : ℕ) → count_by (gives names meaning a t) sets ≡ count_by (gives others meaning a t) sets
    count-kept [] has a t = refl
    count-kept (s ∷ sets) has a t =
        sum_by-cons (λ x. cond (gives names meaning a t x) 1 0) s sets
        ∙ ap (λ b. cond b 1 0 + count_by (gives names meaning a t) sets) (gives-kept s (has s (contains-first s sets)) a t)
        ∙ ap (λ n. cond (gives others meaning a t s) 1 0 + n) (count-kept sets (λ x there. has x (contains-other s sets x there)) a t)
        ∙ sym (sum_by-cons (λ x. cond (gives others meaning a t x) 1 0) s sets)

-- what is counted of a policy stays where its names keep their symbols
counted-kept : {A : Type 0} (names others : List (List ℕ)) (r : Resolved A) (numbers : List ℕ) → AreNumbersOf names numbers r.names.items → AreNumbersOf others numbers r.names.items → IsDistinct bytes_eq names → IsDistinct bytes_eq others
    → HasSoundSets (meaning_in r) → AreTheSame (meaning_in r).sets (sets_in r) → ((name : List ℕ) → keeps_type (meaning_in r) name ≡ true → has_name r.names.items name ≡ true)
    → ((name : List ℕ) → keeps_attribute (meaning_in r) name ≡ true → has_name r.names.items name ≡ true) → list_all (is_rule_below (length r.names.items)) r.rules.items ≡ true → is_consistent (meaning_in r) ≡ true
    → ((rule : NumberedRule A) → Contains r.rules.items rule → GivesNumbered (meaning_in r) r.modules.items r.names.items rule)
    → (members : ℕ → ℕ → ℕ) (counts : SymbolKey → ℕ → ℕ) → IsCounted names r members counts → IsCounted others r members counts
counted-kept names others r numbers are stay distinct apart sound same types attributes below consistent permitted members counts is = record {
  symbols = numbers;
  numbers = stay;
  are_members = all;
  are_counts = λ key t.
      is.are_counts key t
      ∙ sym (counted-named names (names-apart names distinct) r numbers are members (members-counted names r sound same members is.are_members) key t below consistent permitted)
      ∙ counted-named others (names-apart others apart) r numbers stay members (members-counted others r sound same members all) key t below consistent permitted;
}
  where
    all : AreCounts others r members
    all a t =
        is.are_members a t
        ∙ count-kept names others numbers r.names.items are stay distinct apart (meaning_in r) types (sets_in r) (λ s there. attributes s.attribute (sound.own.attributes s ((same s).1 there))) a t

-- and so do the symbols by which it is counted
pub counted-by-kept : {A B : Type 0} (names others : List (List ℕ)) (r : Resolved A) (s : PolicySymbols B) → AreNumbersOf others s.numbering.symbols r.names.items → length names ≤ length others → IsDistinct bytes_eq names → IsDistinct bytes_eq others
    → HasSoundSets (meaning_in r) → AreTheSame (meaning_in r).sets (sets_in r) → ((name : List ℕ) → keeps_type (meaning_in r) name ≡ true → has_name r.names.items name ≡ true)
    → ((name : List ℕ) → keeps_attribute (meaning_in r) name ≡ true → has_name r.names.items name ≡ true) → list_all (is_rule_below (length r.names.items)) r.rules.items ≡ true → is_consistent (meaning_in r) ≡ true
    → ((rule : NumberedRule A) → Contains r.rules.items rule → GivesNumbered (meaning_in r) r.modules.items r.names.items rule)
    → AreSymbolsOf names r s → (members : ℕ → ℕ → ℕ) (counts : SymbolKey → ℕ → ℕ) → IsCounted names r members counts → IsCountedBy others r s members counts
counted-by-kept names others r s stay grown distinct apart sound same types attributes below consistent permitted are members counts is = record {
  symbols = record {
    numbers = stay;
    count = let count = are.count in omega (arith, count, grown);
    kept = kept-stay names others s.numbering.symbols r.names.items are.numbers stay distinct apart r s.kept types are.kept;
  };
  counted = counted-kept names others r s.numbering.symbols are.numbers stay distinct apart sound same types attributes below consistent permitted members counts is;
}
