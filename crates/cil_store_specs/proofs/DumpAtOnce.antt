-- The edits of a dump, made at once.
use Rattle.cil_store_specs.proofs.Common.{◌≡◌, ◌⊎◌, inl, inr, ◌∷◌, ◌++◌, [], ℕ, ◌+◌, ◌≤◌, List, Bool, true, false, not, ◌||◌, cond, filter, map, length, nat_le, nat_lt, bytes_eq, Some, None, if◌then◌else◌, refl, ap, sym, ◌∙◌, subst, append_assoc, length-append, true≢false, arith, sum_by, list_any, AllByRecursion, IsStrictlySortedBy, Less, Equal, le-leb, le-ltb, nat_list_cmp_total, tied_itself, append-nil, length-map, sum_by-append, sum_by-cons, bytes_eq-Decides, Changes, name_cmp, Meaning, all-weaker, both_true, Entry, Store, IsStore, empty, entry_cmp, is_entry, is_installed, text_bytes, without, IsEntryWithinLimits, IsWithinLimits, HasGoodTexts, Edit, by_store, disable, install_of, HasGoodText, AreTaken, IsMeaningOf, for_memory, accepts, refuses, NextOfAll, all_good, Next, at_once, held_bytes, is_too_long, is_module_name, a_batch, Reply, changed_by, refused, accepted, rejected, lists, prints, tells_violations, tells_dropped, out_of_memory, Step, dump_edits}
use Rattle.std.proofs.Math.Nat.{min-le_left}
use Rattle.std.proofs.lemmas.List.Filters.{length-filter_both}
use Rattle.std.proofs.lemmas.Map.Views.{any-filter_same}
use Rattle.cil_store_specs.proofs.StoreOrder.{entry_total, empty-ordered}
use Rattle.cil_store_specs.proofs.PutLemmas.{put-last, all-before}
use Rattle.cil_store_specs.proofs.LimitLemmas.{Fits, not-refused, length-by, less-filtered}
use Rattle.cil_store_specs.proofs.OneAtOnce.{next-same}
use Rattle.cil_store_specs.proofs.DumpScript.{installed-name}

-- an entry for which entries have room in their limits
fits-behind : (before more : List Entry) (e : Entry) → IsEntryWithinLimits e → length (before ++ e ∷ more) ≤ 4096 → text_bytes (before ++ e ∷ more) ≤ 67108864 → Fits (record { entries = before; disabled = [] }) e
fits-behind before more e is count bytes = record {
  name = is.name;
  priority = is.priority;
  text = le-ltb 16777216 (length e.text) is.text;
  room = both_true (nat_le (length (without e.name e.priority before) + 1) 4096) (nat_le (text_bytes (without e.name e.priority before) + length e.text) 67108864)
      (le-leb (length (without e.name e.priority before) + 1) 4096 (omega (arith, count, length-append before (e ∷ more), fewer (λ o. 1), length-by before, length-by (without e.name e.priority before))))
      (le-leb (text_bytes (without e.name e.priority before) + length e.text) 67108864 (omega (arith, bytes, sum_by-append (λ o. length o.text) before (e ∷ more), sum_by-cons (λ o. length o.text) e more, fewer (λ o. length o.text))));
}
  where
    fewer : (f : Entry → ℕ) → sum_by f (without e.name e.priority before) ≤ sum_by f before
    fewer f = less-filtered (λ o. not (is_entry e.name e.priority o)) f before

taken-installs : (before more : List Entry) → IsStrictlySortedBy entry_cmp (before ++ more) → AllByRecursion IsEntryWithinLimits more → AllByRecursion (λ e. HasGoodText (install_of e)) more
    → length (before ++ more) ≤ 4096 → text_bytes (before ++ more) ≤ 67108864 → AreTaken (record { entries = before; disabled = [] }) (map install_of more) (record { entries = before ++ more; disabled = [] })
taken-installs before [] sorted within good count bytes = ap (λ es. record { entries = es; disabled = [] }) (append-nil before)
taken-installs before (e ∷ more) sorted within good count bytes =
    let next = append_assoc before (e ∷ []) more in (
      record { entries = before ++ e ∷ []; disabled = [] },
      record {
        not_refused = not-refused (record { entries = before; disabled = [] }) e (fits-behind before more e within.0 count bytes);
        good_text = good.0;
        is = ap (λ es. record { entries = es; disabled = [] }) (sym (put-last entry_cmp entry_total e before (all-before entry_cmp entry_total before e more sorted)));
      },
      subst (λ es. AreTaken (record { entries = before ++ e ∷ []; disabled = [] }) (map install_of more) (record { entries = es; disabled = [] })) next
          (taken-installs (before ++ e ∷ []) more (subst (IsStrictlySortedBy entry_cmp) (sym next) sorted) within.1 good.1 (subst (λ es. length es ≤ 4096) (sym next) count) (subst (λ es. text_bytes es ≤ 67108864) (sym next) bytes)),
    )

-- what is asked of a name that is disabled
abbrev MayBeDisabled : List Entry → List ℕ → Type 0
MayBeDisabled entries name = (is_module_name name ≡ true) × (is_installed name entries ≡ true)

taken-disables : (entries : List Entry) (before more : List (List ℕ)) → IsStrictlySortedBy name_cmp (before ++ more) → AllByRecursion (MayBeDisabled entries) more
    → AreTaken (record { entries = entries; disabled = before }) (map disable more) (record { entries = entries; disabled = before ++ more })
taken-disables entries before [] sorted may = ap (λ ns. record { entries = entries; disabled = ns }) (append-nil before)
taken-disables entries before (name ∷ more) sorted may =
    let next = append_assoc before (name ∷ []) more in (
      record { entries = entries; disabled = before ++ name ∷ [] },
      record {
        not_refused = λ i. if may.0.0 i then (if may.0.1 i then None else Some (by_store 32 name)) else Some (by_store 30 name);
        good_text = tt;
        is = ap (λ ns. record { entries = entries; disabled = ns }) (sym (put-last name_cmp nat_list_cmp_total name before (all-before name_cmp nat_list_cmp_total before name more sorted)));
      },
      subst (λ ns. AreTaken (record { entries = entries; disabled = before ++ name ∷ [] }) (map disable more) (record { entries = entries; disabled = ns })) next
          (taken-disables entries (before ++ name ∷ []) more (subst (IsStrictlySortedBy name_cmp) (sym next) sorted) may.1),
    )

taken-both : (old mid new : Store) (first second : List Edit) → AreTaken old first mid → AreTaken mid second new → AreTaken old (first ++ second) new
taken-both old mid new [] second a b = subst (λ s. AreTaken s second new) a b
taken-both old mid new (edit ∷ first) second (next, taken, a) b = (next, taken, taken-both next mid new first second a b)

-- The edits of a dump are taken in turn from an empty store on, and lead to the store that was dumped.
pub taken-of-dump : (store : Store) → IsStore store → IsWithinLimits store → HasGoodTexts store → AreTaken empty (dump_edits store) store
taken-of-dump store is within good =
    taken-both empty (record { entries = store.entries; disabled = [] }) store (map install_of store.entries) (map disable store.disabled)
    (taken-installs [] store.entries is.entries within.each good within.count within.bytes)
    (taken-disables store.entries [] store.disabled is.disabled (all-weaker (λ name. is_installed name store.entries ≡ true) (MayBeDisabled store.entries) (λ name there. (installed-name store.entries name within.each there, there)) store.disabled within.disabled))

-- A dump is never too long.

-- a list with some that pass a test has fewer that don't
fewer-others : {X : Type 0} (p : X → Bool) (xs : List X) → list_any p xs ≡ true → length (filter (λ x. not (p x)) xs) + 1 ≤ length xs
fewer-others p [] some = absurd (true≢false (sym some))
fewer-others p (x ∷ xs) some = by (p x) some (fewer-others p xs)
  where
    by : (b : Bool) → (b || list_any p xs) ≡ true → (list_any p xs ≡ true → length (filter (λ y. not (p y)) xs) + 1 ≤ length xs)
        → length (cond (not b) (x ∷ filter (λ y. not (p y)) xs) (filter (λ y. not (p y)) xs)) + 1 ≤ length (x ∷ xs)
    by true is more = omega (arith, length-filter_both p (λ y. not (p y)) (λ y. refl) xs)
    by false is more = omega (arith, more is)

-- names that ascend, each of them of an entry, are no more than the entries
names-few : (names : List (List ℕ)) (entries : List Entry) → IsStrictlySortedBy name_cmp names → AllByRecursion (λ name. is_installed name entries ≡ true) names → length names ≤ length entries
unfolding IsStrictlySortedBy
names-few [] entries sorted there = omega arith
names-few (name ∷ names) entries sorted there =
    omega (arith, names-few names (filter (λ e. not (bytes_eq e.name name)) entries) sorted.1 (others names sorted.0 there.1), fewer-others (λ e. bytes_eq e.name name) entries there.0)
  where
    others : (more : List (List ℕ)) → AllByRecursion (λ other. name_cmp name other ≡ Less) more → AllByRecursion (λ other. is_installed other entries ≡ true) more
        → AllByRecursion (λ other. is_installed other (filter (λ e. not (bytes_eq e.name name)) entries) ≡ true) more
    others [] behind are = tt
    others (other ∷ more) behind are = (
      any-filter_same (λ e. bytes_eq e.name other) (λ e. not (bytes_eq e.name name)) true (λ e same. ap (λ n. not (bytes_eq n name)) ((bytes_eq-Decides e.name other).0 same) ∙ ap not (apart (bytes_eq other name) refl)) entries ∙ are.0,
      others more behind.1 are.1,
    )
      where
        apart : (b : Bool) → bytes_eq other name ≡ b → bytes_eq other name ≡ false
        apart true same =
            let tied : Less ≡ Equal = sym behind.0 ∙ ap (name_cmp name) ((bytes_eq-Decides other name).0 same) ∙ tied_itself nat_list_cmp_total name in
            absurd cc
        apart false is = is

-- what the texts of its edits count
installs-held : (entries : List Entry) → sum_by held_bytes (map install_of entries) ≤ text_bytes entries
installs-held [] = omega arith
installs-held (e ∷ entries) =
    omega (arith, installs-held entries, min-le_left (length e.text) 16777217, sum_by-cons held_bytes (install_of e) (map install_of entries), sum_by-cons (λ o. length o.text) e entries)

disables-held : (names : List (List ℕ)) → sum_by held_bytes (map disable names) ≡ 0
disables-held [] = refl
disables-held (name ∷ names) = omega (arith, disables-held names, sum_by-cons held_bytes (disable name) (map disable names))

pub dump-is-short : (store : Store) → IsStore store → IsWithinLimits store → is_too_long (dump_edits store) ≡ false
dump-is-short store is within = λ i. few i || small i
  where
    few : nat_lt 8192 (length (dump_edits store)) ≡ false
    few = le-ltb 8192 (length (dump_edits store)) (omega (
      arith,
      length-append (map install_of store.entries) (map disable store.disabled),
      length-map store.entries install_of,
      length-map store.disabled disable,
      names-few store.disabled store.entries is.disabled within.disabled,
      within.count,
    ))

    small : nat_lt 67108864 (sum_by held_bytes (dump_edits store)) ≡ false
    small = le-ltb 67108864 (sum_by held_bytes (dump_edits store)) (omega (arith, sum_by-append held_bytes (map install_of store.entries) (map disable store.disabled), installs-held store.entries, disables-held store.disabled, within.bytes))

-- So made at once they are accepted, where that store means something.
dump-at-once : (store : Store) (meaning : Meaning) → IsStore store → IsWithinLimits store → HasGoodTexts store → IsMeaningOf store meaning → NextOfAll empty (dump_edits store) (accepts store)
dump-at-once store meaning is within good means = all_good store meaning (taken-of-dump store is within good) means refl

-- And so is the batch of them.
pub dump-accepted : (store : Store) (meaning : Meaning) → IsStore store → IsWithinLimits store → HasGoodTexts store → IsMeaningOf store meaning → Next empty (dump_edits store) (accepts store)
dump-accepted store meaning is within good means = at_once (dump-is-short store is within) (dump-at-once store meaning is within good means)

-- A call of an engine with that batch leads from the empty store to the one that was dumped, or else memory runs out.
pub dump-step : (store new : Store) (meaning : Meaning) (reply : Reply) → IsStore store → IsWithinLimits store → HasGoodTexts store → IsMeaningOf store meaning → Step empty (a_batch (dump_edits store)) reply new
    → ((changes : Changes) × (reply ≡ changed_by changes) × (new ≡ store)) ⊎ ((reply ≡ refused for_memory) × (new ≡ empty))
dump-step store new meaning reply is within good means (accepted edits changes asked told made) =
    let same : edits ≡ dump_edits store = cc in
    let one : accepts new ≡ accepts store = next-same empty (dump_edits store) (accepts new) (accepts store) empty-ordered (subst (λ es. Next empty es (accepts new)) same made.next) (dump-accepted store meaning is within good means) in
    inl (changes, told, cc one)
dump-step store new meaning reply is within good means (rejected edits refusal asked told next kept) =
    let same : edits ≡ dump_edits store = cc in
    let one : refuses refusal ≡ accepts store = next-same empty (dump_edits store) (refuses refusal) (accepts store) empty-ordered (subst (λ es. Next empty es (refuses refusal)) same next) (dump-accepted store meaning is within good means) in
    absurd cc one
dump-step store new meaning reply is within good means (lists rows asked told are same) = absurd cc
dump-step store new meaning reply is within good means (prints rows asked told are same) = absurd cc
dump-step store new meaning reply is within good means (tells_violations violations asked told are same) = absurd cc
dump-step store new meaning reply is within good means (tells_dropped dropped asked told are same) = absurd cc
dump-step store new meaning reply is within good means (out_of_memory told same) = inr (told, same)
