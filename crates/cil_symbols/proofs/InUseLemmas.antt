-- Symbols in use, and names that come in the place of others.
use Rattle.cil_symbols.proofs.Common.{◌≡◌, ◌∙◌, ℕ, ◌+◌, ◌-◌, ◌<◌, ◌≤◌, suc, Bool, true, false, List, [], ◌∷◌, ◌++◌, length, map, cond, take, set, get_or, slice_get, Option, None, Some, IfSome, inl, inr, is_some, position, bytes_eq, refl, sym, ap, subst, arith, true≢false, if◌then◌else◌, length-append, length-map, length-set, map-set, set-append_left, is_none, sum_by-append, sum_by-cons, none-some, slice_get_within, slice_get-get_or, get_or_from_slice_get, same_Some, has_name, AreNumbersOf, any-position, get-append, get-set_same, get-set_other, used_in, AreUsedBelow, IsUsed, found-name, has_name-texts, same, texts}
use Rattle.std.specs.List.{count_by, swap_remove}
use Rattle.std.proofs.Math.Seq.{take-append_seam, get_or-append_seam}
use Rattle.std.proofs.lemmas.Bool.{cases_eq, cases_lt}
use Rattle.std.proofs.lemmas.List.Folds.{list_any_at}
use Rattle.std.proofs.lemmas.Slice.Eq.{bytes_eq-Decides}
use Rattle.indexmap.specs.IndexSet.{insert_key}
pub use Rattle.cil_optionals.proofs.ListedLemmas.{missing, with-new}

-- what stands last takes the place of another
swap-last : {X : Type 0} (xs : List X) (y : X) (i : ℕ) (d : X) → i < length xs → swap_remove (xs ++ y ∷ []) i d ≡ set xs i y
swap-last {X = X} xs y i d low =
    ap (λ n. take n (set ys i (get_or ys n d))) long
    ∙ ap (λ z. take (length xs) (set ys i z)) (get_or-append_seam xs y [] d)
    ∙ ap (take (length xs)) (set-append_left xs (y ∷ []) i y low)
    ∙ ap (λ n. take n (set xs i y ++ y ∷ [])) (sym (length-set xs i y))
    ∙ take-append_seam (set xs i y) (y ∷ [])
  where
    ys : List X
    ys = xs ++ y ∷ []

    long : length ys - 1 ≡ length xs
    long = let len = length-append xs (y ∷ []) in omega (arith, len)

-- a new name that is put in, and then takes the place of another
pub reused : {K : Type 0} (text : K → List ℕ) (names : List K) (name : K) (i : ℕ) (more : List K) (gone : Option K) (others : List K) → i < length (texts text names) → has_name (texts text names) (text name) ≡ false
    → more ≡ insert_key (same text) names name → gone ≡ slice_get more i → IfSome gone (λ k. others ≡ swap_remove more i k) → texts text others ≡ set (texts text names) i (text name)
reused {K} text names name i more gone others within new is_more at by_swap = by gone at by_swap
  where
    low : i < length names
    low = subst (λ n. i < n) (length-map names text) within

    keys : more ≡ names ++ name ∷ []
    keys = is_more ∙ ap (λ b. if b then names else names ++ name ∷ []) (has_name-texts text names (text name) ∙ new)

    there : slice_get more i ≡ Some (get_or names i name)
    there = ap (λ l. slice_get l i) keys ∙ get-append names (name ∷ []) i (get_or names i name) (slice_get-get_or names i name low)

    by : (o : Option K) → o ≡ slice_get more i → IfSome o (λ k. others ≡ swap_remove more i k) → texts text others ≡ set (texts text names) i (text name)
    by None e swapped = absurd (none-some (get_or names i name) (e ∙ there))
    by (Some k) e swapped = ap (texts text) (swapped ∙ ap (λ l. swap_remove l i k) keys ∙ swap-last names name i k low) ∙ map-set text names i name

-- a name that is found has a mark, where there are as many as names
pub found-within : (names : List (List ℕ)) (name : List ℕ) (n : ℕ) (marks : List Bool) → position (bytes_eq name) names ≡ Some n → length marks ≡ length names → n < length marks
found-within names name n marks is long = omega (arith, slice_get_within names n name (found-name names name n is), long)

pub now-used : (marks : List Bool) (i : ℕ) → i < length marks → IsUsed (set marks i true) i
now-used marks i low = get-set_same marks i (get_or marks i false) true (slice_get-get_or marks i false low)

-- a symbol that is in use stays so where another comes to be
pub still-used : (marks : List Bool) (i s : ℕ) → i < length marks → IsUsed marks s → IsUsed (set marks i true) s
still-used marks i s low used = elim (cases_eq s i) [
  | inl is ↦ subst (λ n. IsUsed (set marks i true) n) (sym is) (now-used marks i low)
  | inr other ↦ get-set_other marks i s true other ∙ used
]

pub used-push : (marks : List Bool) (s : ℕ) → IsUsed marks s → IsUsed (marks ++ true ∷ []) s
used-push marks s used = get-append marks (true ∷ []) s true used

-- nor does one that isn't in use change that
pub used-past : (marks : List Bool) (s : ℕ) → IsUsed marks s → IsUsed (marks ++ false ∷ []) s
used-past marks s used = get-append marks (false ∷ []) s true used

-- where all symbols are in use, there are as many as are
pub all-used : (marks : List Bool) → AreUsedBelow marks (length marks) → used_in marks ≡ length marks
all-used [] all = refl
all-used (mark ∷ marks) all =
    sum_by-cons (λ m. cond m 1 0) mark marks
    ∙ ap (λ m. cond {A = ℕ} m 1 0 + used_in marks) (same_Some mark true (all 0 (omega arith)))
    ∙ ap (λ n. 1 + n) (all-used marks (λ s low. all (suc s) (omega (arith, low))))
    ∙ omega arith

-- numbers stay those of names where what they number stays
pub numbers-kept : (names others : List (List ℕ)) (numbers : List ℕ) (some : List (List ℕ)) → AreNumbersOf names numbers some
    → ((k s : ℕ) → slice_get numbers k ≡ Some s → slice_get others s ≡ slice_get names s) → AreNumbersOf others numbers some
numbers-kept names others numbers some are kept = mapped numbers kept ∙ are
  where
    mapped : (ns : List ℕ) → ((k s : ℕ) → slice_get ns k ≡ Some s → slice_get others s ≡ slice_get names s) → map (slice_get others) ns ≡ map (slice_get names) ns
    mapped [] stay = refl
    mapped (n ∷ ns) stay = ap (λ x. x ∷ map (slice_get others) ns) (stay 0 n refl) ∙ ap (λ l. slice_get names n ∷ l) (mapped ns (λ k s at. stay (suc k) s at))

-- not more places can have a mark than there are
pub below-within : (marks : List Bool) (n : ℕ) → AreUsedBelow marks n → n ≤ length marks
below-within marks n below = elim (cases_lt (length marks) n) [
  | inl past ↦ let low = slice_get_within marks (length marks) true (below (length marks) past) in omega (arith, low)
  | inr within ↦ within
]

-- where all symbols are in use, one more makes one more in use
pub used-all : (marks : List Bool) → AreUsedBelow marks (length marks) → used_in (marks ++ true ∷ []) ≡ length marks + 1
used-all marks all = sum_by-append (λ mark. cond {A = ℕ} mark 1 0) marks (true ∷ []) ∙ ap (λ n. n + 1) (all-used marks all)

-- what has a place isn't found nowhere
pub nowhere : (names : List (List ℕ)) (s : ℕ) (name : List ℕ) → position (bytes_eq name) names ≡ None → slice_get names s ≡ Some name → ⊥
nowhere names s name none at =
    let among = list_any_at (bytes_eq name) names s [] (slice_get_within names s name at) ((bytes_eq-Decides name (get_or names s [])).1 (sym (get_or_from_slice_get names s name [] at))) in
    true≢false (sym among ∙ any-position (bytes_eq name) names ∙ ap is_some none)

-- as many marks are set as places hold a number
pub marks-count : (locals : List (Option ℕ)) → used_in (map is_some locals) + count_by is_none locals ≡ length locals
marks-count [] = refl
marks-count (None ∷ locals) =
    let rest = marks-count locals in
    let marks = sum_by-cons (λ m. cond {A = ℕ} m 1 0) false (map is_some locals) in
    let none = sum_by-cons (λ l. cond {A = ℕ} (is_none l) 1 0) None locals in
    omega (arith, rest, marks, none)
marks-count (Some k ∷ locals) =
    let rest = marks-count locals in
    let marks = sum_by-cons (λ m. cond {A = ℕ} m 1 0) true (map is_some locals) in
    let none = sum_by-cons (λ l. cond {A = ℕ} (is_none l) 1 0) (Some k) locals in
    omega (arith, rest, marks, none)
