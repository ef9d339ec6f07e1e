-- The symbols of a policy's names.
use Rattle.cil_member_updates.proofs.Common.{◌≡◌, ◌<◌, ◌||◌, ℕ, suc, Bool, true, false, List, [], ◌∷◌, length, map, Option, Some, bytes_eq, get_or, option_map, slice_get, refl, sym, ap, ◌∙◌, subst, arith, length-map, list_any, IsDistinct, same_Some, slice_get_within, slice_get-get_or, get_or_from_slice_get, bytes_eq-Decides, has_name, contains-mapped, AreNumbersOf}
use Rattle.std.proofs.Common.{Contains, true≢false}
use Rattle.cil_symbols.proofs.NumberLemmas.{number-at}
use Rattle.cil_member_updates.proofs.NameLemmas.{same-symbol}

-- the place of a name
find-name : (name : List ℕ) (xs : List (List ℕ)) → list_any (bytes_eq name) xs ≡ true → (k : ℕ) × (k < length xs) × (get_or xs k [] ≡ name)
find-name name [] any = absurd (true≢false (sym any))
find-name name (x ∷ xs) any = by (λ more. find-name name xs more) (bytes_eq name x) refl any
  where
    by : (list_any (bytes_eq name) xs ≡ true → (k : ℕ) × (k < length xs) × (get_or xs k [] ≡ name)) → (b : Bool) → bytes_eq name x ≡ b → (b || list_any (bytes_eq name) xs) ≡ true
        → (k : ℕ) × (k < length (x ∷ xs)) × (get_or (x ∷ xs) k [] ≡ name)
    by next true e more = (0, omega arith, sym ((bytes_eq-Decides name x).0 e))
    by next false e more = let (k, within, is) = next more in (suc k, omega (arith, within), is)

module _ (symbols : List (List ℕ)) (numbers : List ℕ) (names : List (List ℕ)) (are : AreNumbersOf symbols numbers names) where
  -- a number has as many symbols as names
  pub numbers-long : length numbers ≡ length names
  numbers-long = sym (length-map numbers (slice_get symbols)) ∙ ap length are ∙ length-map names Some

  -- the name of the symbol of a number
  pub symbol-name : (k s : ℕ) → slice_get numbers k ≡ Some s → slice_get symbols s ≡ Some (get_or names k [])
  symbol-name k s at = let (name, here, there) = number-at symbols numbers names k s are at in there ∙ ap Some (sym (get_or_from_slice_get names k name [] here))

  pub symbol-within : (k s : ℕ) → slice_get numbers k ≡ Some s → k < length names
  symbol-within k s at = let (name, here, there) = number-at symbols numbers names k s are at in slice_get_within names k name here

  -- a number has a symbol
  pub symbol-some : (k : ℕ) → k < length names → slice_get numbers k ≡ Some (get_or numbers k 0)
  symbol-some k within = slice_get-get_or numbers k 0 (let long = numbers-long in omega (arith, long, within))

  -- a symbol's name has the number
  pub number-some : IsDistinct bytes_eq symbols → (t : ℕ) (name : List ℕ) → slice_get symbols t ≡ Some name → has_name names name ≡ true → (k : ℕ) × (slice_get numbers k ≡ Some t)
  number-some distinct t name at has =
      let (k, within, is) = find-name name names has in
      let some = symbol-some k within in
      (k, some ∙ ap Some (same-symbol symbols distinct (get_or numbers k 0) t name (symbol-name k (get_or numbers k 0) some ∙ ap Some is) at))

  -- a name has a symbol
  pub symbol-of : (name : List ℕ) → has_name names name ≡ true → (t : ℕ) × (slice_get symbols t ≡ Some name)
  symbol-of name has =
      let (k, within, is) = find-name name names has in
      (get_or numbers k 0, symbol-name k (get_or numbers k 0) (symbol-some k within) ∙ ap Some is)

-- what is read of one and the same
pub read-at : {X : Type 0} (f : ℕ → List ℕ) (g : X → List ℕ) (xs : List X) (i : ℕ) (d : X) → i < length xs → (found : Option ℕ) → option_map f found ≡ option_map g (slice_get xs i) → (k : ℕ) → found ≡ Some k → f k ≡ g (get_or xs i d)
read-at f g xs i d within found same k is =
    same_Some (f k) (g (get_or xs i d)) (sym (ap (option_map f) is) ∙ same ∙ ap (option_map g) (slice_get-get_or xs i d within))

-- what stands in a list has a place there
pub place-of : {X Y : Type 0} (f : X → Y) (xs : List X) (d : X) (ys : List Y) (y : Y) → map f xs ≡ ys → Contains ys y → (m : ℕ) × (m < length xs) × (f (get_or xs m d) ≡ y)
place-of f xs d ys y is there =
    let found = contains-mapped f xs y (subst (λ l. Contains l y) (sym is) there) in
    let (m, within, same) = found.1 in
    let alike = same_Some (get_or xs m d) (get_or xs m found.0) (sym (slice_get-get_or xs m d within) ∙ slice_get-get_or xs m found.0 within) in
    (m, within, ap f (alike ∙ same) ∙ found.2)
