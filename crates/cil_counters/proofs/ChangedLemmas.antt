-- The changes between two policies by full names, told by their counters.
use Rattle.cil_counters.proofs.Common.{◌≡◌, ◌↔◌, ℕ, ◌<◌, ◌&&◌, Bool, true, not, cond, List, [], length, map, get_or, nat_lt, slice_get, slice_index, Some, refl, sym, ap, subst, ◌∙◌, inl, inr, arith, IsTrue, IsStrictlySortedBy, and_from, and_parts, both_ways, cases_Bool, cases_lt, lt-ltb, ltb-true, not-true, get_or_from_slice_get, slice_get-get_or, slice_get_within, count_of, is_in_table, AreAtoms, all_from_contains, any-map, any_from, any_from_map, any_to, contains_from, contains_to, SymbolKey, meaning_in, Resolved, symbol-name, symbol-some, atom_of, is_named, name_at, and-first, and-second, IsCounted, AreRanks}
use Rattle.std.proofs.Common.{Contains}
use Rattle.cil_specs.specs.Rule as spec
use Rattle.cil_accesses.specs.declared.access.AccessNumbers.{AccessNumbers}
use Rattle.cil_accesses.specs.Chunks.{numbers_cmp}
use Rattle.cil_accesses.specs.Renumbered.{IsWithin}
use Rattle.cil_rules.specs.Atoms.{atom_at, AreNumbered}
use Rattle.cil_rules.proofs.AtomLemmas.{atoms-ordered}
use Rattle.cil_rules.proofs.TableLemmas.{table-numbered, IsNamed}
use Rattle.cil_symbol_changes.specs.Counts.{has_risen}
use Rattle.cil_symbol_changes.specs.Numbered.{access_by, ArePresentNumbered, IsNew, IsNumbered}
use Rattle.cil_counters.proofs.ToldLemmas.{all-named}

-- an access has symbols
pub record IsByKey (symbols : List (List ℕ)) (a : spec.Atom) : Type 0 where
  pub key : SymbolKey
  pub target : ℕ
  pub listed : is_named symbols key target ≡ true
  pub same : atom_of symbols key target ≡ a

module _ {A : Type 0} (symbols : List (List ℕ)) (r : Resolved A) (members : ℕ → ℕ → ℕ) (counts : SymbolKey → ℕ → ℕ) (is : IsCounted symbols r members counts) where
  -- a counter tells how many rules give the access of its names
  pub counted-atom : (key : SymbolKey) (t : ℕ) → is_named symbols key t ≡ true → counts key t ≡ count_of (meaning_in r) (atom_of symbols key t)
  counted-atom key t listed = is.are_counts key t ∙ ap (λ b. cond b (count_of (meaning_in r) (atom_of symbols key t)) 0) listed

  -- and is 0 where there are no such names
  pub counted-listed : (key : SymbolKey) (t : ℕ) → 0 < counts key t → is_named symbols key t ≡ true
  counted-listed key t some =
      elim (cases_Bool (is_named symbols key t)) [
        | inl listed ↦ listed
        | inr other ↦
            let none : counts key t ≡ 0 = is.are_counts key t ∙ ap (λ b. cond b (count_of (meaning_in r) (atom_of symbols key t)) 0) other in
            absurd (omega (arith, none, some))
      ]

  symbol-at : (n : ℕ) → n < length r.names.items → slice_get symbols (get_or is.symbols n 0) ≡ Some (name_at r.names.items n)
  symbol-at n low = symbol-name symbols is.symbols r.names.items is.numbers n (get_or is.symbols n 0) (symbol-some symbols is.symbols r.names.items is.numbers n low)

  -- an access of the table has symbols
  pub table-key : (a : spec.Atom) → IsTrue (is_in_table (meaning_in r) a) → IsByKey symbols a
  table-key a there =
      let (n, within, same) = table-numbered r a there in
      let source = symbol-at n.source within.source in
      let target = symbol-at n.target within.target in
      let class = symbol-at n.class within.the_class in
      let permission = symbol-at n.permission within.permission in
      let s : ℕ = get_or is.symbols n.source 0 in
      let t : ℕ = get_or is.symbols n.target 0 in
      let c : ℕ = get_or is.symbols n.class 0 in
      let p : ℕ = get_or is.symbols n.permission 0 in
      let source_is = get_or_from_slice_get symbols s (name_at r.names.items n.source) [] source in
      let target_is = get_or_from_slice_get symbols t (name_at r.names.items n.target) [] target in
      let class_is = get_or_from_slice_get symbols c (name_at r.names.items n.class) [] class in
      let permission_is = get_or_from_slice_get symbols p (name_at r.names.items n.permission) [] permission in
      record {
        key = record { kind = n.kind; source = s; class = c; permission = p };
        target = t;
        listed =
            all-named symbols (record { kind = n.kind; source = s; class = c; permission = p }) t (slice_get_within symbols s (name_at r.names.items n.source) source) (slice_get_within symbols t (name_at r.names.items n.target) target)
            (slice_get_within symbols c (name_at r.names.items n.class) class) (slice_get_within symbols p (name_at r.names.items n.permission) permission);
        same = (λ i. record { kind = (atom_at r.names.items n).kind; source = source_is i; target = target_is i; the_class = class_is i; permission = permission_is i }) ∙ same;
      }

-- the symbols of an access stand for names
pub record AreLow (symbols : List (List ℕ)) (key : SymbolKey) (t : ℕ) : Type 0 where
  pub source : key.source < length symbols
  pub target : t < length symbols
  pub the_class : key.class < length symbols
  pub permission : key.permission < length symbols

pub are-low : (symbols : List (List ℕ)) (key : SymbolKey) (t : ℕ) → is_named symbols key t ≡ true → AreLow symbols key t
are-low symbols key t named =
    let n = length symbols in
    let ends = and-first (nat_lt key.source n && nat_lt t n) (nat_lt key.class n && nat_lt key.permission n) named in
    let others = and-second (nat_lt key.source n && nat_lt t n) (nat_lt key.class n && nat_lt key.permission n) named in
    record {
      source = ltb-true key.source n (and-first (nat_lt key.source n) (nat_lt t n) ends);
      target = ltb-true t n (and-second (nat_lt key.source n) (nat_lt t n) ends);
      the_class = ltb-true key.class n (and-first (nat_lt key.class n) (nat_lt key.permission n) others);
      permission = ltb-true key.permission n (and-second (nat_lt key.class n) (nat_lt key.permission n) others);
    }

module _ {A : Type 0} (symbols : List (List ℕ)) (numbers : List ℕ) (r : Resolved A) (ranks : AreRanks symbols r.names.items numbers) where
  abbrev names : List (List ℕ)
  names = r.names.items

  -- the number at a symbol is a place of its name
  record IsRanked (s : ℕ) : Type 0 where
    has_number : s < length numbers
    within : slice_index numbers s < length names
    named : name_at names (slice_index numbers s) ≡ name_at symbols s

  ranked-symbol : (s : ℕ) → s < length symbols → IsNamed names (name_at symbols s) → IsRanked s
  ranked-symbol s low named =
      let (k, within, is) = named in
      let there = ranks.places k s (name_at symbols s) (slice_get-get_or names k [] within ∙ ap Some is) (slice_get-get_or symbols s [] low) in
      record {
        has_number = let long = ranks.long in omega (arith, long, low);
        within = omega (arith, there, within);
        named = ap (name_at names) there ∙ is;
      }

  -- an access by symbols has the same names by their numbers
  pub record IsKnown (key : SymbolKey) (t : ℕ) : Type 0 where
    pub numbered : IsNumbered numbers key t
    pub within : IsWithin (length names) (access_by numbers key t)
    pub named : atom_at names (access_by numbers key t) ≡ atom_of symbols key t

  -- so has one of the table
  pub table-known : (key : SymbolKey) (t : ℕ) → is_named symbols key t ≡ true → is_in_table (meaning_in r) (atom_of symbols key t) ≡ true → IsKnown key t
  table-known key t listed there =
      let (n, places, same) = table-numbered r (atom_of symbols key t) there in
      let low = are-low symbols key t listed in
      let source = ranked-symbol key.source low.source (n.source, places.source, ap (λ a. a.source) same) in
      let target = ranked-symbol t low.target (n.target, places.target, ap (λ a. a.target) same) in
      let class = ranked-symbol key.class low.the_class (n.class, places.the_class, ap (λ a. a.the_class) same) in
      let permission = ranked-symbol key.permission low.permission (n.permission, places.permission, ap (λ a. a.permission) same) in
      record {
        numbered = record { source = source.has_number; among = target.has_number; the_class = class.has_number; permission = permission.has_number };
        within = record { source = source.within; target = target.within; the_class = class.within; permission = permission.within };
        named = λ i. record { kind = (atom_of symbols key t).kind; source = source.named i; target = target.named i; the_class = class.named i; permission = permission.named i };
      }

  -- and one that is counted
  pub counted-known : (members : ℕ → ℕ → ℕ) (counts : SymbolKey → ℕ → ℕ) → IsCounted symbols r members counts → (key : SymbolKey) (t : ℕ) → 0 < counts key t → IsKnown key t
  counted-known members counts is key t some =
      let listed = counted-listed symbols r members counts is key t some in
      table-known key t listed (lt-ltb 0 (count_of (meaning_in r) (atom_of symbols key t)) (subst (λ n. 0 < n) (counted-atom symbols r members counts is key t listed) some))

-- The counters that rose from 0 are those of the accesses that pass a test. These are counted, and of a table.
pub record AreTold (symbols : List (List ℕ)) (table test : spec.Atom → Bool) (counts was now : SymbolKey → ℕ → ℕ) : Type 0 where
  pub counted : (key : SymbolKey) (t : ℕ) → 0 < now key t → 0 < counts key t
  pub within : (a : spec.Atom) → IsTrue (test a) → IsTrue (table a)
  pub risen : (key : SymbolKey) (t : ℕ) → is_named symbols key t ≡ true → has_risen (was key t) (now key t) ≡ test (atom_of symbols key t)

risen-from : (was now : ℕ) → was ≡ 0 → 0 < now → has_risen was now ≡ true
risen-from was now absent present = and_from (nat_lt 0 now) (not (nat_lt 0 was)) (lt-ltb 0 now present) (ap (λ n. not (nat_lt 0 n)) absent)

risen-parts : (was now : ℕ) → has_risen was now ≡ true → (was ≡ 0) × (0 < now)
risen-parts was now risen =
    let (is, isnt) = and_parts (nat_lt 0 now) (not (nat_lt 0 was)) risen in
    (elim (cases_lt 0 was) [ inl some ↦ absurd (both_ways (nat_lt 0 was) (not-true (nat_lt 0 was) isnt) (lt-ltb 0 was some)) | inr past ↦ omega (arith, past) ], ltb-true 0 now is)

module _ {A : Type 0} (symbols : List (List ℕ)) (numbers : List ℕ) (r : Resolved A) (ranks : AreRanks symbols r.names.items numbers) (members : ℕ → ℕ → ℕ) (counts : SymbolKey → ℕ → ℕ) (is_counted : IsCounted symbols r members counts) where
  known : (key : SymbolKey) (t : ℕ) → 0 < counts key t → IsKnown symbols numbers r ranks key t
  known = counted-known symbols numbers r ranks members counts is_counted

  -- what is counted has numbers
  pub present-numbered : ArePresentNumbered numbers counts
  present-numbered key t some = (known key t some).numbered

  module _ (was now : SymbolKey → ℕ → ℕ) (test : spec.Atom → Bool) (told : AreTold symbols (is_in_table (meaning_in r)) test counts was now)
      (found : List AccessNumbers) (ordered : IsStrictlySortedBy numbers_cmp found) (exact : (n : AccessNumbers) → Contains found n ↔ IsNew numbers was now n) where
    pub found-numbered : AreNumbered r.names.items found
    found-numbered = record {
      names_ordered = r.ordered;
      ordered = ordered;
      within = all_from_contains (IsWithin (length r.names.items)) found (λ n h.
          let one = (exact n).0 h in
          subst (IsWithin (length r.names.items)) (sym one.same) (known one.key one.target (told.counted one.key one.target one.present)).within);
    }

    to-test : (a : spec.Atom) → Contains (map (atom_at r.names.items) found) a → IsTrue (test a)
    to-test a h =
        let (k, n, low, at, same) = any_from (λ n. atom_at r.names.items n ≡ a) found (any_from_map (atom_at r.names.items) (λ b. b ≡ a) found (contains_to (map (atom_at r.names.items) found) a h)) in
        let one = (exact n).0 (k, low, at) in
        let some = told.counted one.key one.target one.present in
        let atom : atom_of symbols one.key one.target ≡ a = sym (known one.key one.target some).named ∙ ap (atom_at r.names.items) (sym one.same) ∙ same in
        let listed = counted-listed symbols r members counts is_counted one.key one.target some in
        subst (λ x. IsTrue (test x)) atom (sym (told.risen one.key one.target listed) ∙ risen-from (was one.key one.target) (now one.key one.target) one.absent one.present)

    from-test : (a : spec.Atom) → IsTrue (test a) → Contains (map (atom_at r.names.items) found) a
    from-test a passes =
        let by = table-key symbols r members counts is_counted a (told.within a passes) in
        let (absent, present) = risen-parts (was by.key by.target) (now by.key by.target) (told.risen by.key by.target by.listed ∙ ap test by.same ∙ passes) in
        let n : AccessNumbers = access_by numbers by.key by.target in
        let one : IsNew numbers was now n = record { key = by.key; target = by.target; absent = absent; present = present; same = refl } in
        let stands = (exact n).1 one in
        let same : atom_at r.names.items n ≡ a = (known by.key by.target (told.counted by.key by.target present)).named ∙ by.same in
        contains_from (map (atom_at r.names.items) found) a (any-map (atom_at r.names.items) (λ b. b ≡ a) found (any_to (λ m. atom_at r.names.items m ≡ a) found (stands.0, n, stands.1, stands.2, same)))

    -- what is found by the counters is what passes the test
    pub found-atoms : AreAtoms test (map (atom_at r.names.items) found)
    found-atoms = record { ordered = atoms-ordered r.names.items found found-numbered; exact = λ a. (to-test a, from-test a) }

-- ---- from an old policy to a new one

-- what came to the table
abbrev pub comes : {A : Type 0} → (old new : Resolved A) → spec.Atom → Bool
comes old new a = is_in_table (meaning_in new) a && not (is_in_table (meaning_in old) a)

module _ {A : Type 0} (symbols : List (List ℕ)) (old new : Resolved A) (old_members new_members : ℕ → ℕ → ℕ) (was now : SymbolKey → ℕ → ℕ) (old_counted : IsCounted symbols old old_members was) (new_counted : IsCounted symbols new new_members now) where
  -- a counter rose from 0 where the access of its names came to the table
  pub come-risen : (key : SymbolKey) (t : ℕ) → is_named symbols key t ≡ true → has_risen (was key t) (now key t) ≡ comes old new (atom_of symbols key t)
  come-risen key t named =
      ap (λ n. has_risen n (now key t)) (counted-atom symbols old old_members was old_counted key t named)
      ∙ ap (has_risen (count_of (meaning_in old) (atom_of symbols key t))) (counted-atom symbols new new_members now new_counted key t named)

  come-told : AreTold symbols (is_in_table (meaning_in new)) (comes old new) now was now
  come-told = record { counted = λ key t some. some; within = λ a come. (and_parts (is_in_table (meaning_in new) a) (not (is_in_table (meaning_in old) a)) come).0; risen = come-risen }

  -- what is found by the counters came to the table
  module _ (numbers : List ℕ) (ranks : AreRanks symbols new.names.items numbers) (found : List AccessNumbers) (ordered : IsStrictlySortedBy numbers_cmp found) (exact : (n : AccessNumbers) → Contains found n ↔ IsNew numbers was now n) where
    pub come-numbered : AreNumbered new.names.items found
    come-numbered = found-numbered symbols numbers new ranks new_members now new_counted was now (comes old new) come-told found ordered exact

    pub come-atoms : AreAtoms (comes old new) (map (atom_at new.names.items) found)
    come-atoms = found-atoms symbols numbers new ranks new_members now new_counted was now (comes old new) come-told found ordered exact
