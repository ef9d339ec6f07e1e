-- Full names tell a name and its namespace, where the names in them have no dots.
use Rattle.cil_check.proofs.Common.{◌≡◌, ℕ, Bool, true, false, ◌&&◌, ◌||◌, ◌==◌, nat_le, List, [], ◌∷◌, ◌++◌, get_or, drop, length, refl, sym, ap, ◌∙◌, true≢false, AllByRecursion, list_any, list_all, begins_name, is_name_byte, is_name, full_name, first_true, second_true, any-middle, IsName}
use Rattle.cil_text.proofs.NameLemmas.{no-dot}

abbrev pub has_dot : List ℕ → Bool
has_dot text = list_any (λ b. b == 46) text

-- bytes of names are no dots
bytes-dotless : (bytes : List ℕ) → list_all is_name_byte bytes ≡ true → has_dot bytes ≡ false
bytes-dotless [] all = refl
bytes-dotless (b ∷ bytes) all =
    ap (λ c. c || has_dot bytes) (no-dot is_name_byte refl b (first_true (is_name_byte b) (list_all is_name_byte bytes) all))
    ∙ bytes-dotless bytes (second_true (is_name_byte b) (list_all is_name_byte bytes) all)

pub name-dotless : (text : List ℕ) → is_name text ≡ true → has_dot text ≡ false
name-dotless [] is = refl
name-dotless (b ∷ bytes) is =
    ap (λ c. c || has_dot bytes) (no-dot begins_name refl b (first_true (begins_name b) (list_all is_name_byte bytes && nat_le (length (b ∷ bytes)) 2048) is))
    ∙ bytes-dotless bytes
    (first_true (list_all is_name_byte bytes) (nat_le (length (b ∷ bytes)) 2048) (second_true (begins_name b) (list_all is_name_byte bytes && nat_le (length (b ∷ bytes)) 2048) is))

-- what has a dot in it
dotted : (a x y : List ℕ) → x ≡ a ++ 46 ∷ y → has_dot x ≡ false → ⊥
dotted a x y is none = true≢false (sym (ap has_dot is ∙ any-middle (λ b. b == 46) a 46 y refl) ∙ none)

-- the last dot parts a text
parted : (a b x y : List ℕ) → has_dot x ≡ false → has_dot y ≡ false → a ++ 46 ∷ x ≡ b ++ 46 ∷ y → (a ≡ b) × (x ≡ y)
parted [] [] x y p q e = (refl, ap (drop 1) e)
parted [] (c ∷ b) x y p q e = absurd (dotted b x y (ap (drop 1) e) p)
parted (c ∷ a) [] x y p q e = absurd (dotted a y x (sym (ap (drop 1) e)) q)
parted (c ∷ a) (d ∷ b) x y p q e =
    let rest = parted a b x y p q (ap (drop 1) e) in
    let head : c ≡ d = ap (λ l. get_or l 0 c) e in
    (λ k. head k ∷ rest.0 k, rest.1)

pub full-name-same : (namespace others : List (List ℕ)) (name other : List ℕ) → AllByRecursion IsName namespace → AllByRecursion IsName others → IsName name → IsName other
    → full_name namespace name ≡ full_name others other → (namespace ≡ others) × (name ≡ other)
full-name-same [] [] x y a b p q e = (refl, e)
full-name-same [] (j ∷ others) x y a b p q e = absurd (dotted (full_name others j) x y e (name-dotless x p))
full-name-same (i ∷ namespace) [] x y a b p q e = absurd (dotted (full_name namespace i) y x (sym e) (name-dotless y q))
full-name-same (i ∷ namespace) (j ∷ others) x y a b p q e =
    let cut = parted (full_name namespace i) (full_name others j) x y (name-dotless x p) (name-dotless y q) e in
    let rest = full-name-same namespace others i j a.1 b.1 a.0 b.0 cut.0 in
    (λ k. rest.1 k ∷ rest.0 k, cut.1)

-- a full name isn't empty
pub full-name-some : (namespace : List (List ℕ)) (name : List ℕ) → IsName name → full_name namespace name ≡ [] → ⊥
full-name-some [] [] is e = true≢false (sym is)
full-name-some [] (b ∷ name) is e = cc e
full-name-some (i ∷ namespace) name is e = by (full_name namespace i) e
  where
    by : (a : List ℕ) → a ++ 46 ∷ name ≡ [] → ⊥
    by [] e = cc e
    by (b ∷ a) e = cc e
