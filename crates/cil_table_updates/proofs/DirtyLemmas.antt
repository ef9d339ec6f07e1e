-- The counters that an update moves are those of accesses that a rule gives in one of the two policies alone.
use Rattle.cil_table_updates.proofs.Common.{◌≡◌, ◌≢◌, ◌⊎◌, ℕ, ◌+◌, ◌<◌, ◌==◌, ◌&&◌, Bool, true, false, List, [], ◌++◌, get_or, length, map, nat_lt, not, slice_get, Option, None, Some, Result, Ok, Err, OnOk, refl, sym, ap, ◌∙◌, subst, inl, inr, arith, true≢false, All, AllPairs, Contains, cases_Bool, cases_eq, eq-eqb, lt-ltb, ltb-true, ne_eqb, length-append, length-map, All-append, All-contains, All-map, Contains-append_left, Contains-append_right, Contains-get_or, none-some, same_Some, slice_get-get_or, slice_get_read, slice_get_within, below, RisesBy, across, alone, sum_below, across-none, across-some, alone-none, alone-some, sum-differs, sum-zero, gives, Meaning, a_type, at_itself, kind_index, Atom, IsSameRule, Rule, SymbolKey, is_rule_below, is_rule_of, rule_of, meaning_in, NumberedRule, atom_of, is_named, name_at, members_of, covers-named, covers-none, differs, one_if, goes, turns, AdjustsAtLeast, AdjustsAtMost, Counter, given, gives_by, AreApart, HasSoundRules, IsPolicy, Policy}
use Rattle.cil_sums.proofs.PairLemmas.{at-most-all, from-mapped as from-map, mapped, pairs-append, pairs-map}
use Rattle.std.proofs.lemmas.Option.{get_or_from_slice_get}
use Rattle.cil_specs.specs.Rule.{of_set}
use Rattle.cil_specs.specs.Statements.{allow}
use Rattle.cil_delta_specs.specs.Dirty.{HasGiver, OnlyOne}
use Rattle.cil_keyed_lines.proofs.KeyedLemmas.{one_kind}
use Rattle.cil_matching.specs.Matching.{AreMatched, AreSameAt, Matched}
use Rattle.cil_matching.specs.Spot as spots
use Rattle.cil_matching.specs.Spot.{rule_spot}
use Rattle.cil_matching.proofs.MatchedLemmas.{from-mapped, to-mapped}
use Rattle.cil_table_updates.proofs.AdjustedLemmas.{and-both, counted-other, counted-some}
use Rattle.cil_table_updates.proofs.GivenLemmas.{and-first, given-rule}
use Rattle.cil_table_updates.proofs.PlaceLemmas.{passes-at}

-- what follows where there is no error, from two facts
pub on-ok-both : {T E P Q R : Type 0} (result : Result T E) → (P → Q → R) → OnOk result P → OnOk result Q → OnOk result R
on-ok-both (Ok value) f p q = f p q
on-ok-both (Err error) f p q = tt

-- ---- rules by their places

-- a rule that stands in for one behind all
pub nowhere : Rule
nowhere = record {
  module_name = [];
  at = record { offset = 0; line = 1; column = 1 };
  kind = allow;
  source = a_type [];
  target = at_itself;
  permissions = of_set [];
}

module _ (rules : List Rule) where
  abbrev pub at-place : ℕ → Rule
  at-place i = get_or rules i nowhere

  pub read-place : (i : ℕ) → i < length rules → slice_get rules i ≡ Some (at-place i)
  read-place i within = slice_get-get_or rules i nowhere within

  has-place : (s : Rule) (has : Contains rules s) → slice_get rules has.0 ≡ Some s
  has-place s has = slice_get_read rules (length rules) has.0 s refl has.1 (sym has.2)

  module _ (apart : spots.AreApart (map rule_spot rules)) where
    same-place : (i k : ℕ) (r s : Rule) → slice_get rules i ≡ Some r → slice_get rules k ≡ Some s → IsSameRule r s → i ≡ k
    same-place i k r s here there same =
        let spot : rule_spot r ≡ rule_spot s = λ n. record { module_name = same.0 n; offset = same.1 n } in
        apart i k (rule_spot s) (to-mapped rule_spot rules i r here ∙ ap Some spot) (to-mapped rule_spot rules k s there)

    same-rule : (i : ℕ) (r s : Rule) → slice_get rules i ≡ Some r → Contains rules s → IsSameRule r s → r ≡ s
    same-rule i r s here has same =
        let place = same-place i has.0 r s here (has-place s has) same in
        same_Some r s (sym here ∙ ap (slice_get rules) place ∙ has-place s has)

turned-same : (r s : Rule) → IsSameRule r s → IsSameRule s r
turned-same r s same = (sym same.0, sym same.1, sym same.2)

joined-same : (r s u : Rule) → IsSameRule r s → IsSameRule s u → IsSameRule r u
joined-same r s u first second = (first.0 ∙ second.0, first.1 ∙ second.1, first.2 ∙ second.2)

-- ---- accesses by their names

module _ (names : List (List ℕ)) (apart : AreApart names) where
  abbrev pub named : Counter → Bool
  named c = is_named names c.key c.target

  abbrev pub atom : Counter → Atom
  atom c = atom_of names c.key c.target

  same-symbol : (s u : ℕ) → nat_lt s (length names) ≡ true → nat_lt u (length names) ≡ true → name_at names s ≡ name_at names u → s ≡ u
  same-symbol s u low below same =
      apart s u (name_at names u) (slice_get-get_or names s [] (ltb-true s (length names) low) ∙ ap Some same) (slice_get-get_or names u [] (ltb-true u (length names) below))

  -- accesses of the same names are those of the same symbols
  one-counter : (c d : Counter) → named c ≡ true → named d ≡ true → atom c ≡ atom d → c ≡ d
  one-counter c d first second same =
      let (ends, words) = and-both (nat_lt c.key.source (length names) && nat_lt c.target (length names)) _ first in
      let (other_ends, other_words) = and-both (nat_lt d.key.source (length names) && nat_lt d.target (length names)) _ second in
      let (source, target) = and-both (nat_lt c.key.source (length names)) _ ends in
      let (other_source, other_target) = and-both (nat_lt d.key.source (length names)) _ other_ends in
      let (class, permission) = and-both (nat_lt c.key.class (length names)) _ words in
      let (other_class, other_permission) = and-both (nat_lt d.key.class (length names)) _ other_words in
      let kinds = one_kind c.key.kind d.key.kind (eq-eqb _ _ (ap (λ a. kind_index a.kind) same)) in
      let sources = same-symbol c.key.source d.key.source source other_source (ap (λ a. a.source) same) in
      let targets = same-symbol c.target d.target target other_target (ap (λ a. a.target) same) in
      let classes = same-symbol c.key.class d.key.class class other_class (ap (λ a. a.the_class) same) in
      let permissions = same-symbol c.key.permission d.key.permission permission other_permission (ap (λ a. a.permission) same) in
      λ n. record {
        key = record { kind = kinds n; source = sources n; class = classes n; permission = permissions n };
        target = targets n;
      }

  -- the same rule and the same access are of one place and one counter
  pub one-pair : (rules : List Rule) (apart_rules : spots.AreApart (map rule_spot rules)) (p q : ℕ × Counter) → p.0 < length rules → q.0 < length rules → named p.1 ≡ true → named q.1 ≡ true
      → IsSameRule (at-place rules p.0) (at-place rules q.0) → atom p.1 ≡ atom q.1 → p ≡ q
  one-pair rules apart_rules p q p_in q_in p_named q_named same same_atom =
      let place = same-place rules apart_rules p.0 q.0 (at-place rules p.0) (at-place rules q.0) (read-place rules p.0 p_in) (read-place rules q.0 q_in) same in
      let counter = one-counter p.1 q.1 p_named q_named same_atom in
      λ n. (place n, counter n)

  -- ---- what a rule gives by names

  module _ {A : Type 0} (p : Policy A) (is : IsPolicy names p) (sound : HasSoundRules p) where
    abbrev meaning : Meaning
    meaning = meaning_in p.resolved.now

    abbrev named-rule : NumberedRule A → Rule
    named-rule = rule_of p.resolved.now.modules.items p.resolved.now.names.items

    by-names : (c : Counter) (i : ℕ) (rule : NumberedRule A) → slice_get p.resolved.now.rules.items i ≡ Some rule → gives_by p c.key c.target rule ≡ (named c && gives meaning (named-rule rule) (atom c))
    by-names c i rule at =
        let below_it = passes-at (is_rule_below (length p.resolved.now.names.items)) p.resolved.now.rules.items i rule sound.below at in
        let declared_it = passes-at (is_rule_of meaning.types meaning.attributes meaning.classes) meaning.rules i (named-rule rule) (and-first _ _ sound.consistent) (to-mapped named-rule p.resolved.now.rules.items i rule at) in
        let within = slice_get_within p.resolved.now.rules.items i rule at in
        let permitted_it = sound.permitted rule (i, within, get_or_from_slice_get p.resolved.now.rules.items i rule rule at) in
        elim (cases_Bool (named c)) [
          | inl is_named_it ↦
              covers-named p.resolved.now names p.numbering.now.symbols apart is.numbers
              (members_of p.members) is.members rule c.key c.target below_it declared_it permitted_it is_named_it
              ∙ sym (ap (λ b. b && gives meaning (named-rule rule) (atom c)) is_named_it)
          | inr unnamed ↦
              covers-none p.resolved.now names p.numbering.now.symbols apart is.numbers
              (members_of p.members) is.members rule c.key c.target below_it unnamed
              ∙ sym (ap (λ b. b && gives meaning (named-rule rule) (atom c)) unnamed)
        ]

    pub given-by-names : (c : Counter) (i : ℕ) (r : Rule) → slice_get meaning.rules i ≡ Some r → given p c.key c.target i ≡ one_if (named c && gives meaning r (atom c))
    given-by-names c i r at =
        let one = from-mapped named-rule p.resolved.now.rules.items i r at in
        given-rule p c.key c.target i one.0 one.1 ∙ ap one_if (by-names c i one.0 one.1) ∙ ap (λ s. one_if (named c && gives meaning s (atom c))) one.2

  -- ---- two policies

  module _ {A : Type 0} (old new : Policy A) (old_is : IsPolicy names old) (new_is : IsPolicy names new) (old_sound : HasSoundRules old) (new_sound : HasSoundRules new)
      (old_apart : spots.AreApart (map rule_spot (meaning_in old.resolved.now).rules)) (new_apart : spots.AreApart (map rule_spot (meaning_in new.resolved.now).rules)) (m : Matched)
      (matched : AreMatched IsSameRule (meaning_in old.resolved.now).rules (meaning_in new.resolved.now).rules m) where
    abbrev was : Meaning
    was = meaning_in old.resolved.now

    abbrev now : Meaning
    now = meaning_in new.resolved.now

    abbrev old_given : Counter → ℕ → ℕ
    old_given c = given old c.key c.target

    abbrev new_given : Counter → ℕ → ℕ
    new_given c = given new c.key c.target

    -- a rule that goes gave the access, and the new policy doesn't have it
    record IsGone (i : ℕ) (c : Counter) : Type 0 where
      unmatched : (j : ℕ) → slice_get m.ahead i ≡ Some (Some j) → ⊥
      is_named : named c ≡ true
      gave : gives was (at-place was.rules i) (atom c) ≡ true

    gone : (i : ℕ) (c : Counter) → i < length was.rules → goes old m i c ≡ true → IsGone i c
    gone i c within is =
        let unmatched : (j : ℕ) → slice_get m.ahead i ≡ Some (Some j) → ⊥ = λ j e. true≢false (sym is ∙ ap (nat_lt 0) (alone-some (old_given c) m.ahead i j e)) in
        let both = counted-some (named c && gives was (at-place was.rules i) (atom c))
        ∙ sym (ap (nat_lt 0) (alone-none (old_given c) m.ahead i unmatched ∙ given-by-names old old_is old_sound c i (at-place was.rules i) (read-place was.rules i within))) ∙ is in
        let parts = and-both (named c) _ both in
        record { unmatched = unmatched; is_named = parts.0; gave = parts.1 }

    gone-dirty : (i : ℕ) (c : Counter) → i < length was.rules → IsGone i c → OnlyOne (HasGiver was (at-place was.rules i) (atom c)) (HasGiver now (at-place was.rules i) (atom c))
    gone-dirty i c within is = inl (
      (at-place was.rules i, Contains-get_or was.rules i nowhere within, (refl, refl, refl), is.gave),
      λ giver. is.unmatched giver.1.0 ((matched.ahead i giver.1.0).1
          (record { statement = at-place was.rules i; other = giver.0; here = read-place was.rules i within; there = has-place now.rules giver.0 giver.1; same = giver.2 })),
    )

    -- a rule of the new policy gives the access in one of the two policies alone
    record IsTurned (j : ℕ) (c : Counter) : Type 0 where
      is_named : named c ≡ true
      dirty : OnlyOne (HasGiver was (at-place now.rules j) (atom c)) (HasGiver now (at-place now.rules j) (atom c))

    placed : (j : ℕ) → ((i : ℕ) × (slice_get m.back j ≡ Some (Some i))) ⊎ ((i : ℕ) → slice_get m.back j ≡ Some (Some i) → ⊥)
    placed j = by (slice_get m.back j) refl
      where
        by : (o : Option (Option ℕ)) → slice_get m.back j ≡ o → ((i : ℕ) × (slice_get m.back j ≡ Some (Some i))) ⊎ ((i : ℕ) → slice_get m.back j ≡ Some (Some i) → ⊥)
        by None is = inr (λ i e. none-some (Some i) (sym is ∙ e))
        by (Some None) is = inr (λ i e. none-some i (same_Some None (Some i) (sym is ∙ e)))
        by (Some (Some i)) is = inl (i, is)

    module _ (j : ℕ) (c : Counter) (within : j < length now.rules) where
      abbrev rule : Rule
      rule = at-place now.rules j

      here : slice_get now.rules j ≡ Some rule
      here = read-place now.rules j within

      new-given : new_given c j ≡ one_if (named c && gives now rule (atom c))
      new-given = given-by-names new new_is new_sound c j rule here

      gives-now : gives now rule (atom c) ≡ true → HasGiver now rule (atom c)
      gives-now is = (rule, Contains-get_or now.rules j nowhere within, (refl, refl, refl), is)

      gives-not-now : gives now rule (atom c) ≡ false → HasGiver now rule (atom c) → ⊥
      gives-not-now none giver = true≢false (sym giver.3 ∙ sym (ap (λ s. gives now s (atom c)) (same-rule now.rules new_apart j rule giver.0 here giver.1 giver.2)) ∙ none)

      came : ((i : ℕ) → slice_get m.back j ≡ Some (Some i) → ⊥) → turns old new m j c ≡ true → IsTurned j c
      came unmatched is =
          let both = counted-other false (named c && gives now rule (atom c)) ∙ sym (ap (λ n. not (0 == n)) new-given) ∙ sym (ap (λ n. not (n == new_given c j)) (across-none (old_given c) m.back j unmatched)) ∙ is in
          let parts = and-both (named c) _ both in
          record {
            is_named = parts.0;
            dirty = inr (
              gives-now parts.1,
              λ giver. unmatched giver.1.0 ((matched.back giver.1.0 j).1
                  (record { statement = giver.0; other = rule; here = has-place was.rules giver.0 giver.1; there = here; same = turned-same rule giver.0 giver.2 })),
            );
          }

      stayed : (i : ℕ) → slice_get m.back j ≡ Some (Some i) → turns old new m j c ≡ true → IsTurned j c
      stayed i place is =
          by (named c) (gives was other.statement (atom c)) (gives now rule (atom c)) refl refl refl
          (counted-other (named c && gives was other.statement (atom c)) (named c && gives now rule (atom c)) ∙ sym (ap (λ n. not (n == one_if (named c && gives now rule (atom c)))) old-given)
          ∙ sym (ap (λ n. not (old_given c i == n)) new-given) ∙ sym (ap (λ n. not (n == new_given c j)) (across-some (old_given c) m.back i j place)) ∙ is)
        where
          other : AreSameAt IsSameRule was.rules now.rules i j
          other = (matched.back i j).0 place

          old-given : old_given c i ≡ one_if (named c && gives was other.statement (atom c))
          old-given = given-by-names old old_is old_sound c i other.statement other.here

          same : IsSameRule rule other.statement
          same =
              let there = same_Some other.other rule (sym other.there ∙ here) in
              turned-same other.statement rule (subst (IsSameRule other.statement) there other.same)

          contains : Contains was.rules other.statement
          contains =
              let at = other.here in
              subst (Contains was.rules) (same_Some (at-place was.rules i) other.statement (sym (read-place was.rules i (slice_get_within was.rules i other.statement at)) ∙ at))
              (Contains-get_or was.rules i nowhere (slice_get_within was.rules i other.statement at))

          by : (n a b : Bool) → named c ≡ n → gives was other.statement (atom c) ≡ a → gives now rule (atom c) ≡ b
              → differs (named c && gives was other.statement (atom c)) (named c && gives now rule (atom c)) ≡ true → IsTurned j c
          by false a b n_is a_is b_is differ = absurd (true≢false (sym differ ∙ ap (λ n. differs (n && gives was other.statement (atom c)) (n && gives now rule (atom c))) n_is))
          by true true true n_is a_is b_is differ =
              absurd (true≢false (sym differ ∙ ap (λ n. differs (n && gives was other.statement (atom c)) (n && gives now rule (atom c))) n_is
              ∙ ap (λ a. differs a (gives now rule (atom c))) a_is ∙ ap (differs true) b_is))
          by true false false n_is a_is b_is differ =
              absurd (true≢false (sym differ ∙ ap (λ n. differs (n && gives was other.statement (atom c)) (n && gives now rule (atom c))) n_is
              ∙ ap (λ a. differs a (gives now rule (atom c))) a_is ∙ b_is))
          by true true false n_is a_is b_is differ = record { is_named = n_is; dirty = inl ((other.statement, contains, same, a_is), gives-not-now b_is) }
          by true false true n_is a_is b_is differ = record {
            is_named = n_is;
            dirty = inr (
              gives-now b_is,
              λ giver. true≢false (sym giver.3 ∙ sym (ap (λ s. gives was s (atom c)) (same-rule was.rules old_apart i other.statement giver.0 other.here giver.1
                  (joined-same other.statement rule giver.0 (turned-same rule other.statement same) giver.2))) ∙ a_is),
            );
          }

      turned : turns old new m j c ≡ true → IsTurned j c
      turned is =
          elim (placed j) [
            | inl at ↦ stayed at.0 at.1 is
            | inr unmatched ↦ came unmatched is
          ]

    -- ---- the two passes

    abbrev old_pair : ℕ × Counter → Rule × Atom
    old_pair p = (at-place was.rules p.0, atom p.1)

    abbrev new_pair : ℕ × Counter → Rule × Atom
    new_pair p = (at-place now.rules p.0, atom p.1)

    abbrev Apart : Rule × Atom → Rule × Atom → Type 0
    Apart p q = ¬ (IsSameRule p.0 q.0 × (p.1 ≡ q.1))

    module _ (before between after : ℕ) (first : RisesBy (below (goes old m) (length was.rules)) before between) (second : RisesBy (below (turns old new m) (length now.rules)) between after) where
      within-old : (p : ℕ × Counter) → Contains first.those p → (p.0 < length was.rules) × IsGone p.0 p.1
      within-old p has =
          let parts = and-both (nat_lt p.0 (length was.rules)) _ ((first.exact p).0 has) in
          let inside = ltb-true p.0 (length was.rules) parts.0 in
          (inside, gone p.0 p.1 inside parts.1)

      within-new : (p : ℕ × Counter) → Contains second.those p → (p.0 < length now.rules) × IsTurned p.0 p.1
      within-new p has =
          let parts = and-both (nat_lt p.0 (length now.rules)) _ ((second.exact p).0 has) in
          let inside = ltb-true p.0 (length now.rules) parts.0 in
          (inside, turned p.0 p.1 inside parts.1)

      abbrev pairs : List (Rule × Atom)
      pairs = map old_pair first.those ++ map new_pair second.those

      abbrev IsDirty : Rule × Atom → Type 0
      IsDirty p = OnlyOne (HasGiver was p.0 p.1) (HasGiver now p.0 p.1)

      each : All IsDirty pairs
      each =
          All-append IsDirty (map old_pair first.those) (map new_pair second.those)
          (All-map IsDirty old_pair first.those (λ k d inside. let p = get_or first.those k d in let is = within-old p (Contains-get_or first.those k d inside) in gone-dirty p.0 p.1 is.0 is.1))
          (All-map IsDirty new_pair second.those (λ k d inside. let p = get_or second.those k d in (within-new p (Contains-get_or second.those k d inside)).1.dirty))

      once : AllPairs Apart pairs
      once =
          pairs-append Apart (map old_pair first.those) (map new_pair second.those)
          (pairs-map old_pair Apart first.those first.once (λ p q p_has q_has apart_pq both.
          let p_is = within-old p p_has in let q_is = within-old q q_has in apart_pq (one-pair was.rules old_apart p q p_is.0 q_is.0 p_is.1.is_named q_is.1.is_named both.0 both.1)))
          (pairs-map new_pair Apart second.those second.once (λ p q p_has q_has apart_pq both.
          let p_is = within-new p p_has in let q_is = within-new q q_has in apart_pq (one-pair now.rules new_apart p q p_is.0 q_is.0 p_is.1.is_named q_is.1.is_named both.0 both.1)))
          (λ x y x_has y_has both.
          let p = from-map old_pair first.those x x_has in
          let q = from-map new_pair second.those y y_has in
          let p_is = within-old p.0 p.1 in
          let q_is = within-new q.0 q.1 in
          let same : IsSameRule (at-place was.rules p.0.0) (at-place now.rules q.0.0) = subst (λ z. IsSameRule z.0 (at-place now.rules q.0.0)) (sym p.2) (subst (λ z. IsSameRule x.0 z.0) (sym q.2) both.0) in
          p_is.1.unmatched q.0.0 ((matched.ahead p.0.0 q.0.0).1
          (record { statement = at-place was.rules p.0.0; other = at-place now.rules q.0.0; here = read-place was.rules p.0.0 p_is.0; there = read-place now.rules q.0.0 q_is.0; same = same })))

      rises-at-most : AdjustsAtMost was now before after
      rises-at-most = record {
        pairs = pairs;
        dirty = record { each = each; once = once };
        at_most = omega (
          arith,
          length-append (map old_pair first.those) (map new_pair second.those),
          length-map first.those old_pair,
          length-map second.those new_pair,
          first.at_most,
          second.at_most,
        );
      }

    -- the places of rules by name are those by symbols
    pub update-at-most : (before between after : ℕ) → RisesBy (below (goes old m) (length old.resolved.now.rules.items)) before between
        → RisesBy (below (turns old new m) (length new.resolved.now.rules.items)) between after → AdjustsAtMost was now before after
    update-at-most before between after first second =
        rises-at-most before between after
        (subst (λ n. RisesBy (below (goes old m) n) before between) (sym (length-map old.resolved.now.rules.items (rule_of old.resolved.now.modules.items old.resolved.now.names.items))) first)
        (subst (λ n. RisesBy (below (turns old new m) n) between after) (sym (length-map new.resolved.now.rules.items (rule_of new.resolved.now.modules.items new.resolved.now.names.items))) second)

-- ---- each counter that isn't what it was is one that moved

module _ {A : Type 0} (old new : Policy A) (m : Matched) (n k before between after : ℕ) (first : RisesBy (below (goes old m) n) before between) (second : RisesBy (below (turns old new m) k) between after)
    (was between_counts is : SymbolKey → ℕ → ℕ)
    (taken : (key : SymbolKey) (t : ℕ) → between_counts key t + sum_below (alone (given old key t) m.ahead) n ≡ was key t)
    (put : (key : SymbolKey) (t : ℕ) → is key t + sum_below (across (given old key t) m.back) k ≡ between_counts key t + sum_below (given new key t) k) where
  abbrev moved : List Counter
  moved = map (λ (p : ℕ × Counter). p.1) first.those ++ map (λ (p : ℕ × Counter). p.1) second.those

  other-moved : (c : Counter) → was c.key c.target ≢ is c.key c.target → Contains moved c
  other-moved c other =
      elim (cases_eq (sum_below (old_alone c) n) 0) [
        | inl none ↦ came none (sum-differs (old_across c) (new_given_at c) k (λ same. other (omega (arith, same, none, taken c.key c.target, put c.key c.target))))
        | inr some ↦ went (sum-differs (old_alone c) (λ i. 0) n (λ same. some (same ∙ sum-zero (λ i. 0) n (λ i within. refl))))
      ]
    where
      old_alone : Counter → ℕ → ℕ
      old_alone d = alone (given old d.key d.target) m.ahead

      old_across : Counter → ℕ → ℕ
      old_across d = across (given old d.key d.target) m.back

      new_given_at : Counter → ℕ → ℕ
      new_given_at d = given new d.key d.target

      went : (i : ℕ) × (i < n) × (old_alone c i ≢ 0) → Contains moved c
      went at =
          let gave : 0 < old_alone c at.0 = positive (old_alone c at.0) at.2 in
          Contains-append_left (map (λ (p : ℕ × Counter). p.1) first.those) (map (λ (p : ℕ × Counter). p.1) second.those) c
          (mapped (λ (p : ℕ × Counter). p.1) first.those (at.0, c) ((first.exact (at.0, c)).1 (ap (λ b. b && goes old m at.0 c) (lt-ltb at.0 n at.1) ∙ lt-ltb 0 (old_alone c at.0) gave)))
        where
          positive : (x : ℕ) → x ≢ 0 → 0 < x
          positive x some = omega (arith, some)

      came : sum_below (old_alone c) n ≡ 0 → (j : ℕ) × (j < k) × (old_across c j ≢ new_given_at c j) → Contains moved c
      came none at =
          Contains-append_right (map (λ (p : ℕ × Counter). p.1) first.those) (map (λ (p : ℕ × Counter). p.1) second.those) c
          (mapped (λ (p : ℕ × Counter). p.1) second.those (at.0, c) ((second.exact (at.0, c)).1 (ap (λ b. b && turns old new m at.0 c) (lt-ltb at.0 k at.1) ∙ ap not (ne_eqb (old_across c at.0) (new_given_at c at.0) at.2))))

  pub rises-at-least : AdjustsAtLeast was is before after
  rises-at-least counters others once =
      let few = at-most-all counters moved once (λ c has. other-moved c (All-contains (λ d. was d.key d.target ≢ is d.key d.target) counters c others has)) in
      omega (
        arith,
        few,
        length-append (map (λ (p : ℕ × Counter). p.1) first.those) (map (λ (p : ℕ × Counter). p.1) second.those),
        length-map first.those (λ (p : ℕ × Counter). p.1),
        length-map second.those (λ (p : ℕ × Counter). p.1),
        first.at_least,
        second.at_least,
      )
