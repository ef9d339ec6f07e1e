-- Names of a policy by their numbers among names that stay.
use Rattle.cil_symbols.proofs.Common.{◌≡◌, ℕ, ◌<◌, Bool, true, false, List, [], ◌∷◌, ◌++◌, length, fold, slice_get, Option, None, Some, IsTrue, refl, sym, ap, ◌∙◌, append-nil, append_assoc, if◌then◌else◌, option_map, none-some, same_Some, slice_get-map, slice_get_within, get_or_from_slice_get, has_name, with_name, AreNumbersOf, AreApart}
use Rattle.cil_specs.specs.Report.{names_rise}
use Rattle.cil_resolve.proofs.RisingNames.{same-number}

-- With a name more come, or none.
pub name-more : (names : List (List ℕ)) (name : List ℕ) → (more : List (List ℕ)) × (with_name names name ≡ names ++ more)
name-more names name = by (has_name names name)
  where
    by : (b : Bool) → (more : List (List ℕ)) × ((if b then names else names ++ name ∷ []) ≡ names ++ more)
    by true = ([], sym (append-nil names))
    by false = (name ∷ [], refl)

-- the same with many names
pub names-more : (names some : List (List ℕ)) → (more : List (List ℕ)) × (fold with_name names some ≡ names ++ more)
names-more names [] = ([], sym (append-nil names))
names-more names (name ∷ some) =
    let (first, is) = name-more names name in
    let (rest, last) = names-more (with_name names name) some in
    (first ++ rest, last ∙ ap (λ l. l ++ rest) is ∙ append_assoc names first rest)

pub grown-by : (old new some : List (List ℕ)) → new ≡ fold with_name old some → (more : List (List ℕ)) × (new ≡ old ++ more)
grown-by old new some is = let (more, grown) = names-more old some in (more, is ∙ grown)

-- what has the number of a name is the name
pub number-at : (all : List (List ℕ)) (numbers : List ℕ) (names : List (List ℕ)) (k s : ℕ) → AreNumbersOf all numbers names → slice_get numbers k ≡ Some s
    → (name : List ℕ) × (slice_get names k ≡ Some name) × (slice_get all s ≡ Some name)
number-at all numbers names k s are at = by (slice_get names k) refl
  where
    both : Some (slice_get all s) ≡ option_map Some (slice_get names k)
    both =
        sym (slice_get-map (slice_get all) numbers k ∙ ap (option_map (slice_get all)) at)
        ∙ ap (λ l. slice_get l k) are ∙ slice_get-map Some names k

    by : (o : Option (List ℕ)) → slice_get names k ≡ o → (name : List ℕ) × (slice_get names k ≡ Some name) × (slice_get all s ≡ Some name)
    by None e = absurd (none-some (slice_get all s) (sym (both ∙ ap (option_map Some) e)))
    by (Some name) e = (name, e, same_Some (slice_get all s) (Some name) (both ∙ ap (option_map Some) e))

-- so it is one of the names
pub number-below : (all : List (List ℕ)) (numbers : List ℕ) (names : List (List ℕ)) (k s : ℕ) → AreNumbersOf all numbers names → slice_get numbers k ≡ Some s → s < length all
number-below all numbers names k s are at = let (name, here, there) = number-at all numbers names k s are at in slice_get_within all s name there

-- and names that rise have distinct numbers
pub numbers-apart : (all : List (List ℕ)) (numbers : List ℕ) (names : List (List ℕ)) → AreNumbersOf all numbers names → IsTrue (names_rise names) → AreApart numbers
numbers-apart all numbers names are rise j k s first second =
    let (one, at_j, is_one) = number-at all numbers names j s are first in
    let (two, at_k, is_two) = number-at all numbers names k s are second in
    let same = same_Some one two (sym is_one ∙ is_two) in
    same-number names j k rise (slice_get_within names j one at_j) (slice_get_within names k two at_k)
    (get_or_from_slice_get names j one [] at_j ∙ same ∙ sym (get_or_from_slice_get names k two [] at_k))
