-- The parts of a reference.
use Rattle.cil_text.proofs.Common.{◌≡◌, ℕ, Bool, not, ◌&&◌, ◌||◌, ◌==◌, true, false, cond, nat_le, List, [], ◌∷◌, length, Some, None, if◌then◌else◌, refl, sym, ap, ◌∙◌, list_all, list_any, slice_split, onto_first, eqb-true, bad_name, reserved, Role, declared, referred, begins_name, is_name_byte, is_name, is_reserved, components, is_spelt, name_fault, first_true, second_true, without_dot}
use Rattle.std.proofs.Common.{true≢false}
use Rattle.std.proofs.lemmas.List.Splits.{slice_split-cons_no}

-- they are what the text behind a leading dot is split into
pub components_split : (text : List ℕ) → slice_split (λ c. c == 46) (without_dot text) ≡ components text
components_split [] = refl
components_split (b ∷ bytes) =
    elim (b == 46) as (λ v. slice_split (λ c. c == 46) (cond v bytes (b ∷ bytes)) ≡ cond v (slice_split (λ c. c == 46) bytes) (slice_split (λ c. c == 46) (b ∷ bytes))) [ true ↦ refl | false ↦ refl ]

-- a byte of a name is no dot
pub no-dot : (p : ℕ → Bool) → p 46 ≡ false → (b : ℕ) → p b ≡ true → (b == 46) ≡ false
no-dot p none b is = by (b == 46) refl
  where
    by : (c : Bool) → (b == 46) ≡ c → c ≡ false
    by false e = refl
    by true e = absurd (true≢false (sym is ∙ ap p (eqb-true b 46 e) ∙ none))

whole : (bytes : List ℕ) → list_all is_name_byte bytes ≡ true → slice_split (λ c. c == 46) bytes ≡ bytes ∷ []
whole [] all = refl
whole (b ∷ bytes) all =
    slice_split-cons_no (λ c. c == 46) b bytes (no-dot is_name_byte refl b (first_true (is_name_byte b) (list_all is_name_byte bytes) all))
    ∙ ap (onto_first b) (whole bytes (second_true (is_name_byte b) (list_all is_name_byte bytes) all))

pub name-one : (text : List ℕ) → is_name text ≡ true → components text ≡ text ∷ []
name-one [] is = absurd (true≢false (sym is))
name-one (b ∷ bytes) is =
    let first = no-dot begins_name refl b (first_true (begins_name b) (list_all is_name_byte bytes && nat_le (length (b ∷ bytes)) 2048) is) in
    let others = first_true (list_all is_name_byte bytes) (nat_le (length (b ∷ bytes)) 2048) (second_true (begins_name b) (list_all is_name_byte bytes && nat_le (length (b ∷ bytes)) 2048) is) in
    ap (λ c. cond c (slice_split (λ c. c == 46) bytes) (slice_split (λ c. c == 46) (b ∷ bytes))) first
    ∙ slice_split-cons_no (λ c. c == 46) b bytes first ∙ ap (onto_first b) (whole bytes others)

spelt-name : (role : Role) (text : List ℕ) → is_name text ≡ true → is_spelt role text ≡ true
spelt-name declared text is = is
spelt-name referred text is = ap (list_all is_name) (name-one text is) ∙ ap (λ b. b && true) is

-- a name is at fault only where it is reserved
pub fault-name : (role : Role) (text : List ℕ) → is_name text ≡ true → name_fault role text ≡ (if is_reserved text then Some reserved else None)
fault-name role text is =
    ap (λ b. if not b then Some bad_name else if list_any is_reserved (components text) then Some reserved else None) (spelt-name role text is)
    ∙ ap (λ parts. if list_any is_reserved parts then Some reserved else None) (name-one text is)
    ∙ by (is_reserved text)
  where
    by : (b : Bool) → (if b || false then Some reserved else None) ≡ (if b then Some reserved else None)
    by true = refl
    by false = refl
