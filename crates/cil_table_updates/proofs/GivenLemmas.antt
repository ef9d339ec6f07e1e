-- What the rules of a policy give, summed up, and by full names.
use Rattle.cil_table_updates.proofs.Common.{◌≡◌, ℕ, zero, suc, ◌+◌, ◌&&◌, Bool, true, false, cond, count_by, length, map, List, [], ◌∷◌, slice_get, Option, Some, refl, sym, ap, ◌∙◌, inl, inr, arith, add-one, zero-add, Contains, list_all, cases_Bool, alone, sum_below, alone-none, sum-more, sum-none, count_of, gives, SymbolKey, is_rule_below, is_consistent, is_rule_of, GivesNumbered, rule_of, meaning_in, NumberedRule, Resolved, atom_of, is_named, AreMembersOf, covers_by, members_of, covers-named, covers-none, one_if, given, gives_by, count_named, AreApart, HasSoundRules, IsPolicy, Policy}
use Rattle.std.specs.Option.{option_map_or}
use Rattle.std.proofs.lemmas.List.Sums.{sum_by-cons}
use Rattle.cil_parse.specs.Lexicon.{AreNumbersOf}

pub and-first : (a b : Bool) → (a && b) ≡ true → a ≡ true
and-first true b e = refl
and-first false b e = e

pub and-second : (a b : Bool) → (a && b) ≡ true → b ≡ true
and-second true b e = e
and-second false true e = refl
and-second false false e = e

-- what a list contains
contains-first : {X : Type 0} (x : X) (xs : List X) → Contains (x ∷ xs) x
contains-first x xs = (0, omega arith, refl)

contains-later : {X : Type 0} (x : X) (xs : List X) (y : X) → Contains xs y → Contains (x ∷ xs) y
contains-later x xs y (k, low, is) = (suc k, omega (arith, low), is)

one-more : {X : Type 0} (p : X → Bool) (x : X) (xs : List X) → count_by p (x ∷ xs) ≡ one_if (p x) + count_by p xs
one-more p x xs = sum_by-cons (λ y. cond (p y) 1 0) x xs

-- the sum over the numbers from the front
sum-front : (f : ℕ → ℕ) (n : ℕ) → sum_below f (suc n) ≡ f 0 + sum_below (λ i. f (suc i)) n
sum-front f zero =
    let none = sum-none f in
    let one = sum-more f 0 in
    let rest = sum-none (λ i. f (suc i)) in
    omega (arith, none, one, rest)
sum-front f (suc n) =
    let before = sum-front f n in
    let left = ap (sum_below f) (sym (add-one (suc n))) ∙ sum-more f (suc n) in
    let right = ap (sum_below (λ i. f (suc i))) (sym (add-one n)) ∙ sum-more (λ i. f (suc i)) n in
    omega (arith, before, left, right)

-- 1 where the one at a place passes, summed up
pub sum-counted : {X : Type 0} (p : X → Bool) (xs : List X) → sum_below (λ i. one_if (option_map_or p (slice_get xs i) false)) (length xs) ≡ count_by p xs
sum-counted p [] = sum-none (λ i. one_if (option_map_or p (slice_get [] i) false))
sum-counted p (x ∷ xs) = sum-front (λ i. one_if (option_map_or p (slice_get (x ∷ xs) i) false)) (length xs) ∙ ap (λ n. one_if (p x) + n) (sum-counted p xs) ∙ sym (one-more p x xs)

pub sum-given : {A : Type 0} (p : Policy A) (key : SymbolKey) (t : ℕ) → sum_below (given p key t) (length p.resolved.now.rules.items) ≡ count_by (gives_by p key t) p.resolved.now.rules.items
unfolding given
sum-given p key t = sum-counted (gives_by p key t) p.resolved.now.rules.items

module _ {A : Type 0} (names : List (List ℕ)) (apart : AreApart names) (r : Resolved A) (symbols : List ℕ) (numbers : AreNumbersOf names symbols r.names.items) (members : ℕ → ℕ → ℕ) (are : AreMembersOf names (meaning_in r) members)
    (key : SymbolKey) (t : ℕ) where
  abbrev covers_it : NumberedRule A → Bool
  covers_it rule = covers_by members symbols rule key t

  abbrev AreBelow : List (NumberedRule A) → Type 0
  AreBelow rules = list_all (is_rule_below (length r.names.items)) rules ≡ true

  -- these give the permissions at their numbers
  abbrev ArePermitted : List (NumberedRule A) → Type 0
  ArePermitted rules = (rule : NumberedRule A) → Contains rules rule → GivesNumbered (meaning_in r) r.modules.items r.names.items rule

  abbrev AreDeclared : List (NumberedRule A) → Type 0
  AreDeclared rules = list_all (is_rule_of (meaning_in r).types (meaning_in r).attributes (meaning_in r).classes) (map (rule_of r.modules.items r.names.items) rules) ≡ true

  named-counts : is_named names key t ≡ true → (rules : List (NumberedRule A)) → AreBelow rules → AreDeclared rules → ArePermitted rules
      → count_by covers_it rules
      ≡ count_by (λ rule. gives (meaning_in r) rule (atom_of names key t))
      (map (rule_of r.modules.items r.names.items) rules)
  named-counts named [] below declared permitted = refl
  named-counts named (rule ∷ rules) below declared permitted =
      one-more covers_it rule rules
      ∙ ap (λ b. one_if b + count_by covers_it rules)
      (covers-named r names symbols apart numbers members are rule key t (and-first _ _ below) (and-first _ _ declared) (permitted rule (contains-first rule rules)) named)
      ∙ ap (λ n. one_if (gives (meaning_in r) (rule_of r.modules.items r.names.items rule) (atom_of names key t)) + n) (named-counts named rules (and-second _ _ below) (and-second _ _ declared) (λ one has. permitted one (contains-later rule rules one has)))
      ∙ sym (one-more (λ one. gives (meaning_in r) one (atom_of names key t)) (rule_of r.modules.items r.names.items rule) (map (rule_of r.modules.items r.names.items) rules))

  unnamed-counts : is_named names key t ≡ false → (rules : List (NumberedRule A)) → AreBelow rules
      → count_by covers_it rules ≡ 0
  unnamed-counts unnamed [] below = refl
  unnamed-counts unnamed (rule ∷ rules) below =
      one-more covers_it rule rules
      ∙ ap (λ b. one_if b + count_by covers_it rules)
      (covers-none r names symbols apart numbers members are rule key t (and-first _ _ below) unnamed)
      ∙ zero-add (count_by covers_it rules) ∙ unnamed-counts unnamed rules (and-second _ _ below)

  -- as many rules give an access by symbols as by names
  pub counted-named : AreBelow r.rules.items → is_consistent (meaning_in r) ≡ true → ArePermitted r.rules.items
      → count_by covers_it r.rules.items ≡ count_named names (meaning_in r) key t
  counted-named below consistent permitted =
      elim (cases_Bool (is_named names key t)) [
        | inl named ↦ named-counts named r.rules.items below (and-first _ _ consistent) permitted ∙ sym (ap (λ b. cond b (count_of (meaning_in r) (atom_of names key t)) 0) named)
        | inr unnamed ↦ unnamed-counts unnamed r.rules.items below ∙ sym (ap (λ b. cond b (count_of (meaning_in r) (atom_of names key t)) 0) unnamed)
      ]

pub given-named : {A : Type 0} (names : List (List ℕ)) (apart : AreApart names) (p : Policy A) (is : IsPolicy names p) (key : SymbolKey) (t : ℕ)
    → HasSoundRules p → sum_below (given p key t) (length p.resolved.now.rules.items) ≡ count_named names (meaning_in p.resolved.now) key t
given-named names apart p is key t sound =
    sum-given p key t ∙ counted-named names apart p.resolved.now p.numbering.now.symbols is.numbers (members_of p.members) is.members key t sound.below sound.consistent sound.permitted

-- what the rule at a place gives
pub given-rule : {A : Type 0} (p : Policy A) (key : SymbolKey) (t i : ℕ) (rule : NumberedRule A) → slice_get p.resolved.now.rules.items i ≡ Some rule → given p key t i ≡ one_if (gives_by p key t rule)
unfolding given
given-rule p key t i rule is = ap (λ r. one_if (option_map_or (gives_by p key t) r false)) is

-- and what it gives where it has no place in the other policy
pub gone-rule : {A : Type 0} (p : Policy A) (key : SymbolKey) (t : ℕ) (places : List (Option ℕ)) (i : ℕ) (rule : NumberedRule A) → slice_get p.resolved.now.rules.items i ≡ Some rule
    → ((j : ℕ) → slice_get places i ≡ Some (Some j) → ⊥) → alone (given p key t) places i ≡ one_if (gives_by p key t rule)
gone-rule p key t places i rule at none = alone-none (given p key t) places i none ∙ given-rule p key t i rule at
