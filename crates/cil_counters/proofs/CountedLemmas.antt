-- The counters of a policy, when names come and when nothing has a name.
use Rattle.cil_counters.proofs.Common.{◌≡◌, ◌↔◌, ◌||◌, inl, inr, true≢false, ℕ, ◌+◌, ◌<◌, ◌≤◌, ◌^◌, ◌&&◌, Bool, true, false, List, [], ◌∷◌, length, cond, count_by, bytes_eq, nat_lt, slice_get, refl, sym, ap, ◌∙◌, subst, arith, zero-add, IsDistinct, IsTrue, cases_lt, sum_by-cons, slice_get-get_or, slice_get_past, AreTheSame, HasSoundSets, SetStatement, AreNumbersOf, SymbolKey, meaning_in, sets_in, Resolved, AreCounts, atom_of, is_named, name_at, AreMembersOf, count_named, symbols_now, AreReset, AreSettled, AreSymbolsOf, AreTakenBack, IsCounted, IsCountedBy, IsNow, WasBefore}
use Rattle.std.proofs.Math.Bool.{and-false}
use Rattle.cil_specs.specs.Meaning.{Meaning, is_in, gives as rule_gives}
use Rattle.cil_member_updates.specs.Counts.{gives_member}
use Rattle.cil_member_updates.proofs.CountLemmas.{counted-member}
use Rattle.cil_member_updates.specs.Given.{gives, holds, is_of, of_name}
use Rattle.cil_member_rows.specs.Rows as member_rows
use Rattle.cil_keyed_lines.specs.Keyed as access_tables
use Rattle.cil_rule_reach.specs.Named.{AreMembersBy}
use Rattle.cil_counters.specs.declared.counters.Counters.{Counters}
use Rattle.cil_counters.specs.declared.policy_symbols.PolicySymbols.{PolicySymbols}
use Rattle.std.specs.Prelude.{unwrap_or}

none-counted : {X : Type 0} (test : X → Bool) (xs : List X) → ((x : X) → test x ≡ false) → count_by test xs ≡ 0
none-counted test [] none = refl
none-counted test (x ∷ xs) none =
    sum_by-cons (λ y. cond (test y) 1 0) x xs ∙ ap (λ b. cond b 1 0 + count_by test xs) (none x) ∙ zero-add (count_by test xs) ∙ none-counted test xs none

-- whether the set statement makes the type a member, by names
pub gives-by-names : (names : List (List ℕ)) (meaning : Meaning) (a t : ℕ) → a < length names → t < length names → (s : SetStatement) → gives names meaning a t s ≡ gives_member meaning (name_at names a) (name_at names t) s
unfolding is_of holds
gives-by-names names meaning a t a_low t_low s =
    ap (λ n. of_name (λ name. bytes_eq name s.attribute) n && of_name (is_in meaning s.expr) (slice_get names t)) (slice_get-get_or names a [] a_low)
    ∙ ap (λ n. bytes_eq (name_at names a) s.attribute && of_name (is_in meaning s.expr) n) (slice_get-get_or names t [] t_low)

no-attribute : (names : List (List ℕ)) (meaning : Meaning) (a t : ℕ) → length names ≤ a → (s : SetStatement) → gives names meaning a t s ≡ false
unfolding is_of
no-attribute names meaning a t past s = ap (λ n. of_name (λ name. bytes_eq name s.attribute) n && holds names meaning s t) (slice_get_past names a past)

no-type : (names : List (List ℕ)) (meaning : Meaning) (a t : ℕ) → length names ≤ t → (s : SetStatement) → gives names meaning a t s ≡ false
unfolding holds
no-type names meaning a t past s = ap (λ n. is_of names s a && of_name (is_in meaning s.expr) n) (slice_get_past names t past) ∙ and-false (is_of names s a)

module _ {A : Type 0} (names : List (List ℕ)) (r : Resolved A) (sound : HasSoundSets (meaning_in r)) (same : AreTheSame (meaning_in r).sets (sets_in r)) where
  -- what is counted above 0 is a member
  pub members-counted : (counts : ℕ → ℕ → ℕ) → AreCounts names r counts → AreMembersOf names (meaning_in r) counts
  members-counted counts are = record {
    are = λ a t a_low t_low.
        ap (nat_lt 0) (are a t ∙ ap (λ test. count_by test (sets_in r)) (λ i s. gives-by-names names (meaning_in r) a t a_low t_low s i))
        ∙ counted-member (meaning_in r) sound (sets_in r) same (name_at names a) (name_at names t);
    no_attribute = λ a t past. are a t ∙ none-counted (gives names (meaning_in r) a t) (sets_in r) (no-attribute names (meaning_in r) a t past);
    no_type = λ a t past. are a t ∙ none-counted (gives names (meaning_in r) a t) (sets_in r) (no-type names (meaning_in r) a t past);
  }

  -- and so it is by the symbols of the policy's names
  pub members-by : (symbols : List ℕ) (counts : ℕ → ℕ → ℕ) → IsDistinct bytes_eq names → length names < 2 ^ 64 → AreNumbersOf names symbols r.names.items → AreCounts names r counts → AreMembersBy r symbols counts
  members-by symbols counts distinct short numbers are = record { names = names; distinct = distinct; short = short; numbers = numbers; are = members-counted counts are }

-- no rule gives an access where there is none
pub count-none : (names : List (List ℕ)) (meaning : Meaning) (key : SymbolKey) (t : ℕ) → meaning.rules ≡ [] → count_named names meaning key t ≡ 0
count-none names meaning key t no_rules = ap (λ rules. cond (is_named names key t) (count_by (λ rule. rule_gives meaning rule (atom_of names key t)) rules) 0) no_rules ∙ either (is_named names key t)
  where
    either : (b : Bool) → ◌≡◌ {A = ℕ} (cond b 0 0) 0
    either true = refl
    either false = refl

-- nothing is counted of a policy without set statements and rules
pub counted-none : {A : Type 0} (r : Resolved A) (names : List (List ℕ)) (symbols : List ℕ) (members : ℕ → ℕ → ℕ) (counts : SymbolKey → ℕ → ℕ) → AreNumbersOf names symbols r.names.items → sets_in r ≡ [] → (meaning_in r).rules ≡ []
    → ((a t : ℕ) → members a t ≡ 0) → ((key : SymbolKey) (t : ℕ) → counts key t ≡ 0) → IsCounted names r members counts
counted-none r names symbols members counts numbers no_sets no_rules no_members no_accesses = record {
  symbols = symbols;
  numbers = numbers;
  are_members = λ a t. no_members a t ∙ sym (ap (count_by (gives names (meaning_in r) a t)) no_sets);
  are_counts = λ key t. no_accesses key t ∙ sym (count-none names (meaning_in r) key t no_rules);
}

pub none-of : {X : Type 0} (xs : List X) → length xs ≡ 0 → xs ≡ []
none-of [] none = refl
none-of (x ∷ xs) none = absurd (omega (arith, none))

-- some of two have steps where the one or the other has
pub either-steps : (a b : Bool) (m n : ℕ) → (IsTrue a ↔ (0 < m)) → (IsTrue b ↔ (0 < n)) → IsTrue (a || b) ↔ (0 < m + n)
either-steps true b m n one other = (λ _. let some = one.0 refl in omega (arith, some), λ _. refl)
either-steps false b m n one other = (
  λ is. let some = other.0 is in omega (arith, some),
  λ some. elim (cases_lt 0 m) [
    | inl first ↦ absurd (true≢false (sym (one.1 first)))
    | inr none ↦ other.1 (omega (arith, some, none))
  ],
)

-- a policy has the symbols and the counters that it is shown to have
pub counted-with : {A B : Type 0} (r : Resolved A) (names : List (List ℕ)) (s : PolicySymbols B) (members : ℕ → ℕ → ℕ) (counts : SymbolKey → ℕ → ℕ) → AreSymbolsOf names r s → AreCounts names r members
    → ((key : SymbolKey) (t : ℕ) → counts key t ≡ count_named names (meaning_in r) key t) → IsCountedBy names r s members counts
counted-with r names s members counts symbols are_members are_counts = record {
  symbols = symbols;
  counted = record { symbols = s.numbering.symbols; numbers = symbols.numbers; are_members = are_members; are_counts = are_counts };
}

-- what is counted of accesses stays where the access tables and the names do
pub accesses-stay : {A B : Type 0} (r : Resolved A) (old new : Counters B) → new.tables ≡ old.tables → new.names ≡ old.names → ((key : SymbolKey) (t : ℕ) → access_tables.count_now old.tables key t ≡ count_named old.names (meaning_in r) key t)
    → (key : SymbolKey) (t : ℕ) → access_tables.count_now new.tables key t ≡ count_named new.names (meaning_in r) key t
accesses-stay r old new same_tables same_names are key t = ap (λ tables. access_tables.count_now tables key t) same_tables ∙ are key t ∙ ap (λ l. count_named l (meaning_in r) key t) (sym same_names)

-- what is counted of a policy stays where the names, its symbols and the counters do
pub counted-by-alike : {A B : Type 0} (r : Resolved A) (names others : List (List ℕ)) (s t : PolicySymbols B) (members new_members : ℕ → ℕ → ℕ) (counts new_counts : SymbolKey → ℕ → ℕ) → IsCountedBy names r s members counts → others ≡ names → t ≡ s
    → ((a n : ℕ) → new_members a n ≡ members a n) → ((key : SymbolKey) (n : ℕ) → new_counts key n ≡ counts key n) → IsCountedBy others r t new_members new_counts
counted-by-alike r names others s t members new_members counts new_counts is same_names same_symbols same_members same_counts =
    subst (λ l. IsCountedBy l r t new_members new_counts) (sym same_names) (record {
      symbols = subst (AreSymbolsOf names r) (sym same_symbols) is.symbols;
      counted = record {
        symbols = is.counted.symbols;
        numbers = is.counted.numbers;
        are_members = λ a n. same_members a n ∙ is.counted.are_members a n;
        are_counts = λ key n. same_counts key n ∙ is.counted.are_counts key n;
      };
    })

-- counters without steps are those of a policy now, and were before
module _ {A B : Type 0} (r : Resolved A) (names : List (List ℕ)) (s : PolicySymbols B) (members : ℕ → ℕ → ℕ) (counts : SymbolKey → ℕ → ℕ) (c : Counters B) (is : IsCountedBy names r s members counts) (reset : AreReset names s members counts c) where
  reset-now : IsNow r c
  reset-now =
      counted-by-alike r names c.names s (symbols_now c) members (member_rows.count_now c.rows) counts (access_tables.count_now c.tables) is reset.names
      (ap (λ n. unwrap_or n c.policy) reset.next ∙ reset.policy) reset.members reset.accesses

  reset-before : WasBefore r c
  reset-before =
      counted-by-alike r names c.names s c.policy members (member_rows.count_before c.rows) counts (access_tables.count_before c.tables) is reset.names reset.policy reset.members_before
      reset.accesses_before

module _ {A B : Type 0} (r : Resolved A) (old new : Counters B) where
  -- so those that were taken back are those of the policy before the steps
  pub back-now : WasBefore r old → AreTakenBack old new → IsNow r new
  back-now = reset-now r old.names old.policy (member_rows.count_before old.rows) (access_tables.count_before old.tables) new

  pub back-before : WasBefore r old → AreTakenBack old new → WasBefore r new
  back-before = reset-before r old.names old.policy (member_rows.count_before old.rows) (access_tables.count_before old.tables) new

  -- and those that are kept are those of the policy now
  pub settled-now : IsNow r old → AreSettled old new → IsNow r new
  settled-now = reset-now r old.names (symbols_now old) (member_rows.count_now old.rows) (access_tables.count_now old.tables) new

  pub settled-before : IsNow r old → AreSettled old new → WasBefore r new
  settled-before = reset-before r old.names (symbols_now old) (member_rows.count_now old.rows) (access_tables.count_now old.tables) new
