-- Numbers, each once, up to 33 of them.
use Rattle.cil_check.proofs.Common.{◌≡◌, inl, inr, ℕ, ◌+◌, ◌<◌, ◌≤◌, ◌==◌, ◌||◌, nat_lt, Bool, true, false, List, [], ◌∷◌, ◌++◌, length, take, map, fold, bytes_eq, Some, refl, sym, ap, ◌∙◌, arith, if◌then◌else◌, list_any, IsDistinct, cases_lt, lt-ltb, le-ltb, map-append, take_all, take-append-le, length-take-le, fold-append, slice_get_within, get_or_from_slice_get, has_name, with_name, distinct, AreNumbersOf, with_number}
use Rattle.std.proofs.Common.{length-append, slice_get}
use Rattle.cil_check.proofs.PermissionLemmas.{number-same}
use Rattle.cil_check.proofs.WordLemmas.{has-fold}
use Rattle.cil_bind.proofs.WordLemmas.{numbers-long}

-- where there is no room nothing is taken up
pub fold-over : (keys numbers : List ℕ) → nat_lt 32 (length keys) ≡ true → fold with_number keys numbers ≡ keys
fold-over keys [] over = refl
fold-over keys (n ∷ numbers) over =
    ap (λ l. fold with_number l numbers) (ap (λ b. if b || list_any (λ k. n == k) keys then keys else keys ++ n ∷ []) over) ∙ fold-over keys numbers over

-- a number is among others where its name is among theirs
number-has : (names : List (List ℕ)) (n : ℕ) (x : List ℕ) → IsDistinct bytes_eq names → slice_get names n ≡ Some x → (keys : List ℕ) (list : List (List ℕ)) → AreNumbersOf names keys list
    → list_any (λ k. n == k) keys ≡ has_name list x
number-has names n x distinct at [] [] are = refl
number-has names n x distinct at [] (y ∷ list) are = cc
number-has names n x distinct at (k ∷ keys) [] are = cc
number-has names n x distinct at (k ∷ keys) (y ∷ list) are =
    let head : slice_get names k ≡ Some y = cc in
    let rest : map (slice_get names) keys ≡ map {A = List ℕ} Some list = cc in
    ap (λ b. b || list_any (λ j. n == j) keys) (number-same names n k y distinct (slice_get_within names n x at) head ∙ ap (λ l. bytes_eq l y) (get_or_from_slice_get names n x [] at))
    ∙ ap (λ b. bytes_eq x y || b) (number-has names n x distinct at keys list rest)

-- one more name
count-one : (names : List (List ℕ)) (keys : List ℕ) (list : List (List ℕ)) (n : ℕ) (x : List ℕ) → IsDistinct bytes_eq names → slice_get names n ≡ Some x → AreNumbersOf names keys (take 33 list)
    → AreNumbersOf names (with_number keys n) (take 33 (with_name list x))
count-one names keys list n x distinct at are = elim (cases_lt (length list) 33) [
  | inl less ↦
      let all : take 33 list ≡ list = take_all 33 list (omega arith) in
      let full : AreNumbersOf names keys list = are ∙ ap (map Some) all in
      let long = numbers-long names keys list full in
      let room : nat_lt 32 (length keys) ≡ false = le-ltb 32 (length keys) (omega (arith, less, long)) in
      ap (λ b. map (slice_get names) (if b || list_any (λ k. n == k) keys then keys else keys ++ n ∷ [])) room
      ∙ ap (λ b. map (slice_get names) (if b then keys else keys ++ n ∷ [])) (number-has names n x distinct at keys list full)
      ∙ by (has_name list x) full less
  | inr past ↦
      let size : length (take 33 list) ≡ 33 = length-take-le 33 list past in
      let long = numbers-long names keys (take 33 list) are in
      let over : nat_lt 32 (length keys) ≡ true = lt-ltb 32 (length keys) (omega (arith, size, long)) in
      ap (λ b. map (slice_get names) (if b || list_any (λ k. n == k) keys then keys else keys ++ n ∷ [])) over ∙ are ∙ ap (map Some) (kept (has_name list x) past)
]
  where
    by : (b : Bool) → AreNumbersOf names keys list → length list < 33 → map (slice_get names) (if b then keys else keys ++ n ∷ []) ≡ map Some (take 33 (if b then list else list ++ x ∷ []))
    by true full less = full ∙ ap (map Some) (sym (take_all 33 list (omega arith)))
    by false full less =
        let size : length (list ++ x ∷ []) ≡ length list + 1 = length-append list (x ∷ []) in
        map-append (slice_get names) keys (n ∷ []) ∙ ap (λ l. l ++ slice_get names n ∷ []) full ∙ ap (λ o. map Some list ++ o ∷ []) at ∙ sym (map-append Some list (x ∷ []))
        ∙ ap (map Some) (sym (take_all 33 (list ++ x ∷ []) (omega (arith, size, less))))

    kept : (b : Bool) → 33 ≤ length list → take 33 list ≡ take 33 (if b then list else list ++ x ∷ [])
    kept true past = refl
    kept false past = sym (take-append-le 33 list (x ∷ []) past)

-- more names
pub count-all : (names : List (List ℕ)) (keys numbers : List ℕ) (list more : List (List ℕ)) → IsDistinct bytes_eq names → AreNumbersOf names numbers more → AreNumbersOf names keys (take 33 list)
    → AreNumbersOf names (fold with_number keys numbers) (take 33 (fold with_name list more))
count-all names keys [] list [] distinct numbered are = are
count-all names keys [] list (x ∷ more) distinct numbered are = cc
count-all names keys (n ∷ numbers) list [] distinct numbered are = cc
count-all names keys (n ∷ numbers) list (x ∷ more) distinct numbered are =
    let head : slice_get names n ≡ Some x = cc in
    let rest : map (slice_get names) numbers ≡ map {A = List ℕ} Some more = cc in
    count-all names (with_number keys n) numbers (with_name list x) more distinct rest (count-one names keys list n x distinct head are)

-- to take up names is to take them up each once
fold-fold : (list earlier more : List (List ℕ)) → fold with_name list (fold with_name earlier more) ≡ fold with_name (fold with_name list earlier) more
fold-fold list earlier [] = refl
fold-fold list earlier (x ∷ more) = fold-fold list (with_name earlier x) more ∙ ap (λ l. fold with_name l more) (one (has_name earlier x) refl)
  where
    one : (b : Bool) → has_name earlier x ≡ b → fold with_name list (if b then earlier else earlier ++ x ∷ []) ≡ with_name (fold with_name list earlier) x
    one true e =
        let there : has_name (fold with_name list earlier) x ≡ true = has-fold list earlier x ∙ ap (λ b. has_name list x || b) e ∙ or-true (has_name list x) in
        sym (ap (λ b. if b then fold with_name list earlier else fold with_name list earlier ++ x ∷ []) there)
      where
        or-true : (b : Bool) → (b || true) ≡ true
        or-true true = refl
        or-true false = refl
    one false e = fold-append with_name list earlier (x ∷ [])

pub fold-distinct : (list more : List (List ℕ)) → fold with_name list (distinct more) ≡ fold with_name list more
fold-distinct list more = fold-fold list [] more

-- there are too many where the first of them are
pub over-same : (names : List (List ℕ)) (keys : List ℕ) (list : List (List ℕ)) → AreNumbersOf names keys (take 33 list) → nat_lt 32 (length keys) ≡ nat_lt 32 (length list)
over-same names keys list are = elim (cases_lt (length list) 33) [
  | inl less ↦
      let long = numbers-long names keys (take 33 list) are in
      let all : take 33 list ≡ list = take_all 33 list (omega arith) in
      ap (nat_lt 32) (long ∙ ap length all)
  | inr past ↦
      let long = numbers-long names keys (take 33 list) are in
      let size : length (take 33 list) ≡ 33 = length-take-le 33 list past in
      lt-ltb 32 (length keys) (omega (arith, long, size)) ∙ sym (lt-ltb 32 (length list) (omega (arith, past)))
]
