-- Names that stand one behind the other.
use Rattle.cil_resolve.proofs.Common.{none-some, same_Some}
use Rattle.std.proofs.Common.{◌≡◌, ◌≤◌, ◌<◌, ◌+◌, map, get_or, ℕ, zero, suc, List, [], ◌∷◌, ◌++◌, length, take, drop, slice_get, Some, refl, sym, ap, ◌∙◌, arith, append-nil, append_assoc, length-append}
use Rattle.std.specs.List.{flat_map}
use Rattle.cil_names.specs.declared.name.Name.{Name}
use Rattle.std.proofs.Math.Seq.{take-append_seam, drop-append_seam}
use Rattle.cil_check.proofs.AskedLemmas.{drop-at}

-- all bytes of names
abbrev pub bytes_in : List (List ℕ) → List ℕ
bytes_in names = flat_map (λ name. name) names

-- the bytes of one more name
pub bytes-next : (names : List (List ℕ)) (i : ℕ) (name : List ℕ) → slice_get names i ≡ Some name → bytes_in (take (i + 1) names) ≡ bytes_in (take i names) ++ name
bytes-next [] i name at = absurd (none-some name at)
bytes-next (x ∷ names) zero name at = append-nil x ∙ same_Some x name at
bytes-next (x ∷ names) (suc i) name at =
    let e : suc i + 1 ≡ suc (i + 1) = omega arith in
    ap (λ n. bytes_in (take n (x ∷ names))) e ∙ ap (λ l. x ++ l) (bytes-next names i name at) ∙ sym (append_assoc x (bytes_in (take i names)) name)

-- A text is the first of those that are left, and the others stand behind it.
module _ {X : Type 0} (f : X → List ℕ) (xs : List X) (i : ℕ) (x : X) (at : slice_get xs i ≡ Some x) where
  pub text-within : length (f x) ≤ length (flat_map f (drop i xs))
  text-within =
      let long = ap (λ l. length (flat_map f l)) (drop-at xs i x at) ∙ length-append (f x) (flat_map f (drop (i + 1) xs)) in
      omega arith

  pub text-first : take (length (f x)) (flat_map f (drop i xs)) ≡ f x
  text-first = ap (λ l. take (length (f x)) (flat_map f l)) (drop-at xs i x at) ∙ take-append_seam (f x) (flat_map f (drop (i + 1) xs))

  pub texts-behind : drop (length (f x)) (flat_map f (drop i xs)) ≡ flat_map f (drop (i + 1) xs)
  texts-behind = ap (λ l. drop (length (f x)) (flat_map f l)) (drop-at xs i x at) ∙ drop-append_seam (f x) (flat_map f (drop (i + 1) xs))

-- what the item of an index is mapped to
pub item-mapped : {X Y : Type 0} (f : X → Y) (xs : List X) (i : ℕ) (d : X) → i < length xs → slice_get (map f xs) i ≡ Some (f (get_or xs i d))
item-mapped f [] i d low = absurd (omega arith)
item-mapped f (x ∷ xs) zero d low = refl
item-mapped f (x ∷ xs) (suc i) d low = item-mapped f xs i d (omega (arith, low))

-- the text of a name
abbrev pub text-in : Name → List ℕ
text-in name = name.text.now

-- what is read behind the end of names
abbrev pub no_name : Name
no_name = record { text = record { ref_ptr = (0, 0); now = [] } }
