-- An edit leaves a store within its limits, and its texts spell modules.
use Rattle.cil_store_specs.proofs.Common.{◌≡◌, ◌≢◌, ◌∷◌, [], ℕ, ◌+◌, ◌≤◌, ◌==◌, ◌&&◌, ◌||◌, List, Bool, true, false, not, cond, filter, length, bytes_eq, decimal, nat_le, nat_lt, Option, Some, None, if◌then◌else◌, refl, ap, sym, ◌∙◌, subst, true≢false, arith, list_any, sum_by, AllByRecursion, nat_cmp, ordering_then, is_lt, Ordering, Less, Equal, Greater, and_parts, eqb-true, leb-true, ltb-false, not-true, nat_list_cmp_total, tied_itself, list_any-append, sum_by-append, sum_by-cons, exact_bytes, bytes_eq-Decides, name_cmp, all-weaker, all-append, less-is, reversed, Entry, Store, empty, entry_cmp, put_by, put, is_entry, is_installed, has_room, text_bytes, without, without_name, Edit, install, remove, enable, disable, Refusal, by_store, changed, store_refusal, is_module_name, is_priority, HasGoodText, IsTaken, install_of, IsEntryWithinLimits, IsWithinLimits, HasGoodTexts, Call, Reply, Run}
use Rattle.std.proofs.Math.Bool.{or-true}
use Rattle.std.proofs.lemmas.Map.Views.{any-filter_same}
use Rattle.cil_store_specs.proofs.RunLemmas.{run-keeps}
use Rattle.cil_store_specs.proofs.StoreOrder.{entry_total}

-- What holds of each item, of what is left and of what is put in.

all-kept : {X : Type 0} (P Q : X → Type 0) (p : X → Bool) → ((x : X) → P x → p x ≡ true → Q x) → (xs : List X) → AllByRecursion P xs → AllByRecursion Q (filter p xs)
all-kept P Q p f [] all = tt
all-kept P Q p f (x ∷ xs) all = by (p x) refl (all-kept P Q p f xs all.1)
  where
    by : (b : Bool) → p x ≡ b → AllByRecursion Q (filter p xs) → AllByRecursion Q (cond b (x ∷ filter p xs) (filter p xs))
    by true is more = (f x all.0 is, more)
    by false is more = more

all-put : {X : Type 0} (P : X → Type 0) (cmp : X → X → Ordering) (x : X) (xs : List X) → P x → AllByRecursion P xs → AllByRecursion P (put_by cmp x xs)
all-put P cmp x xs here all =
    all-append P (filter (λ o. is_lt (cmp o x)) xs) (x ∷ filter (λ o. is_lt (cmp x o)) xs) (all-kept P P (λ o. is_lt (cmp o x)) (λ o h passes. h) xs all)
    (here, all-kept P P (λ o. is_lt (cmp x o)) (λ o h passes. h) xs all)

-- Where no item passes two tests, and what passes one of them passes a third test, both let through no more than the third.
sums-apart : {X : Type 0} (p q r : X → Bool) (f : X → ℕ) → ((x : X) → p x ≡ true → r x ≡ true) → ((x : X) → q x ≡ true → r x ≡ true) → ((x : X) → p x ≡ true → q x ≡ true → ⊥)
    → (xs : List X) → sum_by f (filter p xs) + sum_by f (filter q xs) ≤ sum_by f (filter r xs)
sums-apart p q r f first second apart [] = omega arith
sums-apart p q r f first second apart (x ∷ xs) = by (p x) (q x) (r x) refl refl refl (sums-apart p q r f first second apart xs)
  where
    by : (a b c : Bool) → p x ≡ a → q x ≡ b → r x ≡ c → sum_by f (filter p xs) + sum_by f (filter q xs) ≤ sum_by f (filter r xs)
        → sum_by f (cond a (x ∷ filter p xs) (filter p xs)) + sum_by f (cond b (x ∷ filter q xs) (filter q xs)) ≤ sum_by f (cond c (x ∷ filter r xs) (filter r xs))
    by true true c d e g more = absurd (apart x d e)
    by true false true d e g more = omega (arith, more, sum_by-cons f x (filter p xs), sum_by-cons f x (filter r xs))
    by true false false d e g more = absurd (true≢false (sym (first x d) ∙ g))
    by false true true d e g more = omega (arith, more, sum_by-cons f x (filter q xs), sum_by-cons f x (filter r xs))
    by false true false d e g more = absurd (true≢false (sym (second x e) ∙ g))
    by false false true d e g more = omega (arith, more, sum_by-cons f x (filter r xs))
    by false false false d e g more = more

pub length-by : {X : Type 0} (xs : List X) → length xs ≡ sum_by (λ x. 1) xs
length-by [] = refl
length-by (x ∷ xs) = omega (arith, length-by xs, sum_by-cons (λ x. 1) x xs)

pub less-filtered : {X : Type 0} (p : X → Bool) (f : X → ℕ) (xs : List X) → sum_by f (filter p xs) ≤ sum_by f xs
less-filtered p f [] = omega arith
less-filtered p f (x ∷ xs) = by (p x) (less-filtered p f xs)
  where
    by : (b : Bool) → sum_by f (filter p xs) ≤ sum_by f xs → sum_by f (cond b (x ∷ filter p xs) (filter p xs)) ≤ sum_by f (x ∷ xs)
    by true more = omega (arith, more, sum_by-cons f x (filter p xs), sum_by-cons f x xs)
    by false more = omega (arith, more, sum_by-cons f x xs)

-- Entries with one put in.

-- one of a name and a priority stands neither before nor behind another of them
tied-entry : (e o : Entry) → is_entry e.name e.priority o ≡ true → entry_cmp o e ≡ Equal
tied-entry e o is =
    let both = and_parts (bytes_eq o.name e.name) (o.priority == e.priority) is in
    let names = (bytes_eq-Decides o.name e.name).0 both.0 in
    let priorities = eqb-true o.priority e.priority both.1 in
    (λ i. ordering_then (name_cmp (names i) e.name) (nat_cmp e.priority (priorities i))) ∙ tied_itself entry_total e

other-entry : (e o : Entry) → entry_cmp o e ≢ Equal → not (is_entry e.name e.priority o) ≡ true
other-entry e o other = by (is_entry e.name e.priority o) refl
  where
    by : (c : Bool) → is_entry e.name e.priority o ≡ c → not (is_entry e.name e.priority o) ≡ true
    by true is = absurd (other (tied-entry e o is))
    by false is = ap not is

-- what a sum counts of entries with one put in
put-sum : (f : Entry → ℕ) (e : Entry) (entries : List Entry) → sum_by f (put e entries) ≤ sum_by f (without e.name e.priority entries) + f e
put-sum f e entries =
    let others = sums-apart (λ o. is_lt (entry_cmp o e)) (λ o. is_lt (entry_cmp e o)) (λ o. not (is_entry e.name e.priority o)) f first second apart entries in
    omega (arith, others, sum_by-append f (filter (λ o. is_lt (entry_cmp o e)) entries) (e ∷ filter (λ o. is_lt (entry_cmp e o)) entries), sum_by-cons f e (filter (λ o. is_lt (entry_cmp e o)) entries))
  where
    first : (o : Entry) → is_lt (entry_cmp o e) ≡ true → not (is_entry e.name e.priority o) ≡ true
    first o less = other-entry e o (λ tied. let same : Less ≡ Equal = sym (less-is (entry_cmp o e) less) ∙ tied in cc)

    second : (o : Entry) → is_lt (entry_cmp e o) ≡ true → not (is_entry e.name e.priority o) ≡ true
    second o less = other-entry e o (λ tied. let same : Greater ≡ Equal = sym (reversed entry_cmp entry_total e o Less (less-is (entry_cmp e o) less)) ∙ tied in cc)

    apart : (o : Entry) → is_lt (entry_cmp o e) ≡ true → is_lt (entry_cmp e o) ≡ true → ⊥
    apart o less more = let same : Greater ≡ Less = sym (reversed entry_cmp entry_total e o Less (less-is (entry_cmp e o) more)) ∙ less-is (entry_cmp o e) less in cc

-- a name that is installed stays so
installed-put : (e : Entry) (entries : List Entry) (name : List ℕ) → is_installed name entries ≡ true → is_installed name (put e entries) ≡ true
installed-put e entries name there =
    list_any-append named (filter before entries) (e ∷ filter behind entries) ∙ by (name_cmp name e.name) refl
  where
    named : Entry → Bool
    named = λ o. bytes_eq o.name name

    before : Entry → Bool
    before = λ o. is_lt (entry_cmp o e)

    behind : Entry → Bool
    behind = λ o. is_lt (entry_cmp e o)

    by : (c : Ordering) → name_cmp name e.name ≡ c → (list_any named (filter before entries) || (named e || list_any named (filter behind entries))) ≡ true
    by Less is =
        ap (λ b. b || (named e || list_any named (filter behind entries)))
        (any-filter_same named before true (λ o same. ap (λ m. is_lt (ordering_then (name_cmp m e.name) (nat_cmp e.priority o.priority))) ((bytes_eq-Decides o.name name).0 same) ∙ ap (λ c. is_lt (ordering_then c (nat_cmp e.priority o.priority))) is) entries ∙ there)
    by Equal is =
        ap (λ b. list_any named (filter before entries) || (b || list_any named (filter behind entries))) ((bytes_eq-Decides e.name name).1 (sym (exact_bytes name e.name is)))
        ∙ or-true (list_any named (filter before entries))
    by Greater is =
        let less : name_cmp e.name name ≡ Less = reversed name_cmp nat_list_cmp_total name e.name Greater is in
        ap (λ b. list_any named (filter before entries) || (named e || b))
        (any-filter_same named behind true (λ o same. ap (λ m. is_lt (ordering_then (name_cmp e.name m) (nat_cmp o.priority e.priority))) ((bytes_eq-Decides o.name name).0 same) ∙ ap (λ c. is_lt (ordering_then c (nat_cmp o.priority e.priority))) less) entries ∙ there)
        ∙ ap (λ b. list_any named (filter before entries) || b) (or-true (named e)) ∙ or-true (list_any named (filter before entries))

-- one of another name than what is left out
installed-without : (name : List ℕ) (priority : ℕ) (entries : List Entry) (other : List ℕ) → bytes_eq other name ≡ false → is_installed other entries ≡ true → is_installed other (without name priority entries) ≡ true
installed-without name priority entries other apart there =
    any-filter_same (λ o. bytes_eq o.name other) (λ o. not (is_entry name priority o)) true
    (λ o same. ap (λ b. not (b && (o.priority == priority))) (ap (λ m. bytes_eq m name) ((bytes_eq-Decides o.name other).0 same) ∙ apart)) entries
    ∙ there

-- What an edit that isn't refused fulfils.

passes : (b : Bool) (rest : Option Refusal) (refusal : Refusal) → (if b then rest else Some refusal) ≡ None → (b ≡ true) × (rest ≡ None)
passes true rest refusal none = (refl, none)
passes false rest refusal none = absurd (cc)

fails : (b : Bool) (rest : Option Refusal) (refusal : Refusal) → (if b then Some refusal else rest) ≡ None → (b ≡ false) × (rest ≡ None)
fails true rest refusal none = absurd (cc)
fails false rest refusal none = (refl, none)

-- an install that isn't refused
pub record Fits (store : Store) (e : Entry) : Type 0 where
  pub name : is_module_name e.name ≡ true
  pub priority : is_priority e.priority ≡ true
  pub text : nat_lt 16777216 (length e.text) ≡ false
  pub room : has_room e.name e.priority (length e.text) store.entries ≡ true

pub fits : (store : Store) (e : Entry) → store_refusal store (install e.name e.priority e.text) ≡ None → Fits store e
fits store e none =
    let name = passes (is_module_name e.name) _ _ none in
    let priority = passes (is_priority e.priority) _ _ name.1 in
    let text = fails (nat_lt 16777216 (length e.text)) _ _ priority.1 in
    record { name = name.0; priority = priority.0; text = text.0; room = (passes (has_room e.name e.priority (length e.text) store.entries) None _ text.1).0 }

-- and one that fulfils it isn't
pub not-refused : (store : Store) (e : Entry) → Fits store e → store_refusal store (install e.name e.priority e.text) ≡ None
not-refused store e fits = λ i.
    if fits.name i then (if fits.priority i then (if fits.text i then Some (by_store 34 e.name) else if fits.room i then None else Some (by_store 33 e.name)) else Some (by_store 31 (decimal e.priority)))
    else Some (by_store 30 e.name)

-- a disable that isn't refused
pub names-installed : (store : Store) (name : List ℕ) → store_refusal store (disable name) ≡ None → is_installed name store.entries ≡ true
names-installed store name none = (passes (is_installed name store.entries) None _ (passes (is_module_name name) _ _ none).1).0

-- Edits keep the limits.

install-within : (store : Store) (e : Entry) → IsWithinLimits store → Fits store e → IsWithinLimits (changed store (install e.name e.priority e.text))
install-within store e is fits =
    let room = and_parts (nat_le (length (without e.name e.priority store.entries) + 1) 4096) (nat_le (text_bytes (without e.name e.priority store.entries) + length e.text) 67108864) fits.room in
    let entry : IsEntryWithinLimits e = record { name = fits.name; priority = fits.priority; text = ltb-false 16777216 (length e.text) fits.text } in
    record {
      each = all-put IsEntryWithinLimits entry_cmp e store.entries entry is.each;
      count = omega (arith, put-sum (λ o. 1) e store.entries, length-by (put e store.entries), length-by (without e.name e.priority store.entries), leb-true (length (without e.name e.priority store.entries) + 1) 4096 room.0);
      bytes = omega (arith, put-sum (λ o. length o.text) e store.entries, leb-true (text_bytes (without e.name e.priority store.entries) + length e.text) 67108864 room.1);
      disabled = all-weaker (λ name. is_installed name store.entries ≡ true) (λ name. is_installed name (put e store.entries) ≡ true) (λ name there. installed-put e store.entries name there) store.disabled is.disabled;
    }

remove-within : (store : Store) (name : List ℕ) (priority : ℕ) → IsWithinLimits store → IsWithinLimits (changed store (remove name priority))
remove-within store name priority is = record {
  each = all-kept IsEntryWithinLimits IsEntryWithinLimits (λ o. not (is_entry name priority o)) (λ o h passes. h) store.entries is.each;
  count = omega (arith, less-filtered (λ o. not (is_entry name priority o)) (λ o. 1) store.entries, length-by (without name priority store.entries), length-by store.entries, is.count);
  bytes = omega (arith, less-filtered (λ o. not (is_entry name priority o)) (λ o. length o.text) store.entries, is.bytes);
  disabled = by (is_installed name (without name priority store.entries)) refl;
}
  where
    Was : List ℕ → Type 0
    Was = λ other. is_installed other store.entries ≡ true

    Stays : List ℕ → Type 0
    Stays = λ other. is_installed other (without name priority store.entries) ≡ true

    by : (b : Bool) → is_installed name (without name priority store.entries) ≡ b → AllByRecursion Stays (if b then store.disabled else without_name name store.disabled)
    by true there = all-weaker Was Stays (λ other was. same other was (bytes_eq other name) refl) store.disabled is.disabled
      where
        same : (other : List ℕ) → Was other → (b : Bool) → bytes_eq other name ≡ b → Stays other
        same other was true e = ap (λ n. is_installed n (without name priority store.entries)) ((bytes_eq-Decides other name).0 e) ∙ there
        same other was false e = installed-without name priority store.entries other e was
    by false gone = all-kept Was Stays (λ o. not (bytes_eq o name)) (λ other was apart. installed-without name priority store.entries other (not-true (bytes_eq other name) apart) was) store.disabled is.disabled

pub changed-within : (store : Store) (edit : Edit) → IsWithinLimits store → store_refusal store edit ≡ None → IsWithinLimits (changed store edit)
changed-within store (install name priority text) is none = let e : Entry = record { name = name; priority = priority; text = text } in install-within store e is (fits store e none)
changed-within store (remove name priority) is none = remove-within store name priority is
changed-within store (enable name) is none = record {
  each = is.each;
  count = is.count;
  bytes = is.bytes;
  disabled = all-kept (λ o. is_installed o store.entries ≡ true) (λ o. is_installed o store.entries ≡ true) (λ o. not (bytes_eq o name)) (λ o h passes. h) store.disabled is.disabled;
}
changed-within store (disable name) is none = record {
  each = is.each;
  count = is.count;
  bytes = is.bytes;
  disabled = all-put (λ o. is_installed o store.entries ≡ true) name_cmp name store.disabled (names-installed store name none) is.disabled;
}

pub empty-within : IsWithinLimits empty
empty-within = record { each = tt; count = omega arith; bytes = omega arith; disabled = tt }

pub taken-within : (store new : Store) (edit : Edit) → IsWithinLimits store → IsTaken store edit new → IsWithinLimits new
taken-within store new edit is taken = subst IsWithinLimits (sym taken.is) (changed-within store edit is taken.not_refused)

pub run-within : (old new : Store) (calls : List Call) (replies : List Reply) → IsWithinLimits old → Run old calls replies new → IsWithinLimits new
run-within = run-keeps IsWithinLimits taken-within

-- And each text spells a module.

pub empty-texts : HasGoodTexts empty
empty-texts = tt

pub taken-texts : (store new : Store) (edit : Edit) → HasGoodTexts store → IsTaken store edit new → HasGoodTexts new
taken-texts store new edit are taken = subst HasGoodTexts (sym taken.is) (by edit taken.good_text)
  where
    Has : Entry → Type 0
    Has = λ e. HasGoodText (install_of e)

    by : (e : Edit) → HasGoodText e → HasGoodTexts (changed store e)
    by (install name priority text) good = all-put Has entry_cmp (record { name = name; priority = priority; text = text }) store.entries good are
    by (remove name priority) good = all-kept Has Has (λ o. not (is_entry name priority o)) (λ o h passes. h) store.entries are
    by (enable name) good = are
    by (disable name) good = are

pub run-texts : (old new : Store) (calls : List Call) (replies : List Reply) → HasGoodTexts old → Run old calls replies new → HasGoodTexts new
run-texts = run-keeps HasGoodTexts taken-texts
