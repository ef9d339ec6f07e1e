-- Names, and their numbers.
use Rattle.cil_resolve.proofs.Common.{◌≡◌, ◌⊎◌, inl, inr, set, append_assoc, ℕ, ◌+◌, ◌<◌, ◌==◌, zero, suc, Bool, true, false, ◌||◌, nat_lt, List, [], ◌∷◌, ◌++◌, length, get_or, take, map, flat_map, fold, Contains, Option, Some, bytes_eq, refl, sym, ap, ◌∙◌, subst, true≢false, arith, eq-eqb, if◌then◌else◌, list_all, list_any, AllByRecursion, IsDistinct, or-false, or-true, cases_order, get_or_append_left, get_or_push, get_or-set_same, get_or-set_other, bytes_eq-refl, bytes_eq-true, distinct-place, lt-ltb, none-some, same_Some, slice_get_within, get_or_from_slice_get, list_any-append, fold-append, bytes_eq-Decides, Word, Placed, has_name, with_name, distinct, texts, own_permissions, both_true, first_true, second_true, kind_of, lists_own, none-listed, has-distinct, has-fold, is_numbered, is_numbered_kind, full_name_of, names_with, names_of, AreNamesOf, listed_names, number_in, AreNumbersIn, HavePermissionsOf}
use Rattle.std.proofs.Common.{add-one, slice_get, eqb-true}
use Rattle.cil_bind.proofs.PositionLemmas.{take-next}
use Rattle.std.proofs.lemmas.List.Quantifiers.{position-Some}
use Rattle.cil_resolve.proofs.FullNamesLemmas.{kind-numbered}
use Rattle.cil_resolve.proofs.ListLemmas.{any-of-flat}
use Rattle.cil_resolve.proofs.StatementLemmas.{map-one}

-- the name of a number
pub number-is : (names : List (List ℕ)) (name : List ℕ) (n : ℕ) → number_in names name ≡ Some n → (n < length names) × (get_or names n [] ≡ name)
number-is names name n is = let at = position-Some (bytes_eq name) names n [] is in (at.0, sym (bytes_eq-true name (get_or names n []) at.1))

-- the names of numbers
pub numbers-are : (names some : List (List ℕ)) (numbers : List ℕ) → AreNumbersIn names some numbers → map (λ n. get_or names n []) numbers ≡ some
numbers-are names [] [] are = refl
numbers-are names [] (n ∷ numbers) are = cc
numbers-are names (x ∷ some) [] are = cc
numbers-are names (x ∷ some) (n ∷ numbers) are =
    let first : Some n ≡ number_in names x = cc in
    let rest : map {B = Option ℕ} Some numbers ≡ map (number_in names) some = cc in
    let head = (number-is names x n (sym first)).1 in
    let more = numbers-are names some numbers rest in
    λ j. head j ∷ more j

pub numbers-below : (names some : List (List ℕ)) (numbers : List ℕ) → AreNumbersIn names some numbers → list_all (λ n. nat_lt n (length names)) numbers ≡ true
numbers-below names [] [] are = refl
numbers-below names [] (n ∷ numbers) are = cc
numbers-below names (x ∷ some) [] are = cc
numbers-below names (x ∷ some) (n ∷ numbers) are =
    let first : Some n ≡ number_in names x = cc in
    let rest : map {B = Option ℕ} Some numbers ≡ map (number_in names) some = cc in
    both_true (nat_lt n (length names)) (list_all (λ m. nat_lt m (length names)) numbers) (lt-ltb n (length names) (number-is names x n (sym first)).0) (numbers-below names some numbers rest)

-- a number is among others if its name is among theirs
pub number-among : (names some : List (List ℕ)) (numbers : List ℕ) (x : List ℕ) (n : ℕ) → AreNumbersIn names some numbers → number_in names x ≡ Some n → list_any (λ k. k == n) numbers ≡ has_name some x
number-among names [] [] x n are is = refl
number-among names [] (k ∷ numbers) x n are is = cc
number-among names (y ∷ some) [] x n are is = cc
number-among names (y ∷ some) (k ∷ numbers) x n are is =
    let first : Some k ≡ number_in names y = cc in
    let rest : map {B = Option ℕ} Some numbers ≡ map (number_in names) some = cc in
    ap (λ b. b || list_any (λ m. m == n) numbers) (by (k == n) (bytes_eq x y) refl refl (sym first)) ∙ ap (λ b. bytes_eq x y || b) (number-among names some numbers x n rest is)
  where
    by : (b d : Bool) → (k == n) ≡ b → bytes_eq x y ≡ d → number_in names y ≡ Some k → (k == n) ≡ bytes_eq x y
    by true true e f here = e ∙ sym f
    by false false e f here = e ∙ sym f
    by true false e f here =
        absurd (true≢false (sym ((bytes_eq-Decides x y).1 (sym (number-is names x n is).1 ∙ ap (λ m. get_or names m []) (sym (eqb-true k n e)) ∙ (number-is names y k here).1)) ∙ f))
    by false true e f here = absurd (true≢false (sym (eq-eqb k n (sym (same_Some n k (sym is ∙ ap (number_in names) (bytes_eq-true x y f) ∙ here)))) ∙ e))

-- with one more
pub numbers-push : (names some : List (List ℕ)) (numbers : List ℕ) (x : List ℕ) (n : ℕ) → AreNumbersIn names some numbers → number_in names x ≡ Some n → AreNumbersIn names (some ++ x ∷ []) (numbers ++ n ∷ [])
numbers-push names some numbers x n are is = map-last (λ m. Some m) numbers n ∙ (λ j. are j ++ sym is j ∷ []) ∙ sym (map-last (number_in names) some x)
  where
    map-last : {X Y : Type 0} (f : X → Y) (xs : List X) (z : X) → map f (xs ++ z ∷ []) ≡ map f xs ++ f z ∷ []
    map-last f [] z = refl
    map-last f (y ∷ xs) z = ap (λ l. f y ∷ l) (map-last f xs z)

-- with one more, if it is new
pub numbers-with : (names some : List (List ℕ)) (numbers : List ℕ) (x : List ℕ) (n : ℕ) → AreNumbersIn names some numbers → number_in names x ≡ Some n
    → AreNumbersIn names (with_name some x) (if list_any (λ k. k == n) numbers then numbers else numbers ++ n ∷ [])
numbers-with names some numbers x n are is = by (list_any (λ k. k == n) numbers) (number-among names some numbers x n are is)
  where
    by : (b : Bool) → b ≡ has_name some x → AreNumbersIn names (with_name some x) (if b then numbers else numbers ++ n ∷ [])
    by true e = subst (λ b. AreNumbersIn names (if b then some else some ++ x ∷ []) numbers) e are
    by false e = subst (λ b. AreNumbersIn names (if b then some else some ++ x ∷ []) (numbers ++ n ∷ [])) e (numbers-push names some numbers x n are is)

-- one word more of some
pub words-fold : (old : List (List ℕ)) (list : List Word) (i : ℕ) (w : Word) → slice_get list i ≡ Some w → fold with_name old (texts (take (i + 1) list)) ≡ with_name (fold with_name old (texts (take i list))) w.text
words-fold old list i w at = ap (fold with_name old) (map-one (λ v. v.text) list i w at) ∙ fold-append with_name old (texts (take i list)) (w.text ∷ [])

-- one name more of some
pub names-fold : (old list : List (List ℕ)) (i : ℕ) (x : List ℕ) → slice_get list i ≡ Some x → fold with_name old (take (i + 1) list) ≡ with_name (fold with_name old (take i list)) x
names-fold old list i x at = ap (λ n. fold with_name old (take n list)) (add-one i) ∙ ap (fold with_name old) (take-next list i x at) ∙ fold-append with_name old (take i list) (x ∷ [])

-- a name that is put in behind others, which may have it
with-behind : (old more : List (List ℕ)) (x : List ℕ) → fold with_name old (with_name more x) ≡ with_name (fold with_name old more) x
with-behind old more x = by (has_name more x) refl
  where
    by : (b : Bool) → has_name more x ≡ b → fold with_name old (with_name more x) ≡ with_name (fold with_name old more) x
    by true e =
        let all = fold with_name old more in
        let there : has_name all x ≡ true = has-fold old more x ∙ ap (λ b. has_name old x || b) e ∙ or-true (has_name old x) in
        ap (λ b. fold with_name old (if b then more else more ++ x ∷ [])) e ∙ sym (ap (λ b. if b then all else all ++ x ∷ []) there)
    by false e = ap (λ b. fold with_name old (if b then more else more ++ x ∷ [])) e ∙ fold-append with_name old more (x ∷ [])

-- The numbers at some places stand for names: the one at a place.
pub name-there : {X : Type 0} (words : List X) (numbers : List ℕ) (names : List X) (i : ℕ) → map (slice_get words) numbers ≡ map Some names → i < length numbers
    → (x : X) × (slice_get names i ≡ Some x) × (slice_get words (get_or numbers i 0) ≡ Some x)
name-there words [] names i same within = absurd (omega (arith, within))
name-there words (n ∷ numbers) [] i same within = cc
name-there words (n ∷ numbers) (x ∷ names) zero same within =
    let head : slice_get words n ≡ Some x = cc in
    (x, refl, head)
name-there {X = X} words (n ∷ numbers) (x ∷ names) (suc i) same within =
    let rest : map (slice_get words) numbers ≡ map {B = Option X} Some names = cc in
    name-there words numbers names i rest (omega (arith, within))

-- a name at a place is among them
pub name-among : (names : List (List ℕ)) (i : ℕ) (x : List ℕ) → slice_get names i ≡ Some x → has_name names x ≡ true
name-among [] i x at = absurd (none-some x at)
name-among (y ∷ names) zero x at = ap (λ b. b || has_name names x) (ap (bytes_eq x) (same_Some y x at) ∙ bytes_eq-refl x)
name-among (y ∷ names) (suc i) x at = ap (λ b. bytes_eq x y || b) (name-among names i x at) ∙ or-true (bytes_eq x y)

-- Names that are put in each once, or all: it is the same.
pub fold-distinct : (old list : List (List ℕ)) → fold with_name old (distinct list) ≡ fold with_name old list
fold-distinct old list = from [] list
  where
    from : (so_far list : List (List ℕ)) → fold with_name old (fold with_name so_far list) ≡ fold with_name (fold with_name old so_far) list
    from so_far [] = refl
    from so_far (x ∷ list) = from (with_name so_far x) list ∙ ap (λ names. fold with_name names list) (with-behind old so_far x)

-- names that are put in one after the other, and then in order
pub names-sorted : (policy : List Placed) (names sorted : List (List ℕ)) → names ≡ distinct (names_of policy) → ((name : List ℕ) → has_name sorted name ≡ has_name names name) → AreNamesOf policy sorted
names-sorted policy names sorted is same name = same name ∙ ap (λ l. has_name l name) is ∙ has-distinct (names_of policy) name

-- a name of one of the statements
pub named-in : (f : Placed → List (List ℕ)) (policy : List Placed) (s : Placed) (name : List ℕ) → Contains policy s → has_name (f s) name ≡ true → has_name (flat_map f policy) name ≡ true
named-in f policy s name there has = any-of-flat (bytes_eq name) f policy s there has

-- the full name that a statement brings
pub full-named : (s : Placed) → is_numbered s.form ≡ true → has_name (names_with s) (full_name_of s) ≡ true
full-named s e =
    ap (λ b. has_name ((if b then full_name_of s ∷ [] else []) ++ texts (own_permissions s.form)) (full_name_of s)) e ∙ ap (λ b. b || has_name (texts (own_permissions s.form)) (full_name_of s)) (bytes_eq-refl (full_name_of s))

-- and the permissions that it lists
pub own-named : (s : Placed) (name : List ℕ) → has_name (texts (own_permissions s.form)) name ≡ true → has_name (names_with s) name ≡ true
own-named s name has =
    list_any-append (bytes_eq name) (if is_numbered s.form then full_name_of s ∷ [] else []) (texts (own_permissions s.form))
    ∙ ap (λ b. has_name (if is_numbered s.form then full_name_of s ∷ [] else []) name || b) has ∙ or-true (has_name (if is_numbered s.form then full_name_of s ∷ [] else []) name)

-- the names of a policy have those of its permissions
pub has-words : (names : List (List ℕ)) (words : List Word) → ((name : List ℕ) → has_name (texts words) name ≡ true → has_name names name ≡ true) → AllByRecursion (λ w. has_name names w.text ≡ true) words
has-words names [] each = tt
has-words names (w ∷ words) each =
    (each w.text (ap (λ b. b || has_name (texts words) w.text) (bytes_eq-refl w.text)), has-words names words (λ name has. each name (ap (λ b. bytes_eq name w.text || b) has ∙ or-true (bytes_eq name w.text))))

-- a word more
has-last : (before : List (List ℕ)) (list : List Word) (i : ℕ) (w : Word) (name : List ℕ) → slice_get list i ≡ Some w
    → has_name (before ++ texts (take (i + 1) list)) name ≡ (has_name (before ++ texts (take i list)) name || bytes_eq name w.text)
has-last before list i w name at =
    ap (λ l. has_name (before ++ l) name) (map-one (λ v. v.text) list i w at) ∙ ap (λ l. has_name l name) (sym (append_assoc before (texts (take i list)) (w.text ∷ [])))
    ∙ list_any-append (bytes_eq name) (before ++ texts (take i list)) (w.text ∷ []) ∙ ap (λ b. has_name (before ++ texts (take i list)) name || b) (or-false (bytes_eq name w.text))

-- the number of one more permission is noted
pub note-next : (all names before : List (List ℕ)) (list : List Word) (i : ℕ) (w : Word) (m v : ℕ) (old : List ℕ) → IsDistinct bytes_eq all → length old ≡ length all → slice_get list i ≡ Some w → slice_get all m ≡ Some w.text
    → number_in names w.text ≡ Some v → HavePermissionsOf all names (before ++ texts (take i list)) old → HavePermissionsOf all names (before ++ texts (take (i + 1) list)) (set old m v)
note-next all names before list i w m v old unique long at here is so_far n name there has = by (cases_order n m)
  where
    low : m < length old
    low = let l = slice_get_within all m w.text here in omega (arith, l, long)

    same : n ≡ m → number_in names name ≡ Some (get_or (set old m v) n 0)
    same e =
        ap (number_in names) (same_Some name w.text (sym there ∙ ap (slice_get all) e ∙ here)) ∙ is
        ∙ ap Some (sym (ap (λ k. get_or (set old m v) k 0) e ∙ get_or-set_same old m v 0 low))

    other : ((n ≡ m) → ⊥) → number_in names name ≡ Some (get_or (set old m v) n 0)
    other apart = before-it (bytes_eq name w.text) refl (sym (has-last before list i w name at) ∙ has)
      where
        before-it : (b : Bool) → bytes_eq name w.text ≡ b → (has_name (before ++ texts (take i list)) name || bytes_eq name w.text) ≡ true → number_in names name ≡ Some (get_or (set old m v) n 0)
        before-it true e any =
            absurd (apart (distinct-place all n m unique (slice_get_within all n name there) (slice_get_within all m w.text here)
            (get_or_from_slice_get all n name [] there ∙ bytes_eq-true name w.text e ∙ sym (get_or_from_slice_get all m w.text [] here))))
        before-it false e any =
            so_far n name there (sym (or-false (has_name (before ++ texts (take i list)) name)) ∙ ap (λ b. has_name (before ++ texts (take i list)) name || b) (sym e) ∙ any)
            ∙ ap Some (sym (get_or-set_other old m n v 0 apart))

    by : (n ≡ m) ⊎ ((n < m) ⊎ (m < n)) → number_in names name ≡ Some (get_or (set old m v) n 0)
    by (inl e) = same e
    by (inr (inl less)) = other (λ e. omega (arith, less, e))
    by (inr (inr more)) = other (λ e. omega (arith, more, e))

-- the numbers of full names, for the first places
abbrev pub HavePlacesBelow : List (List ℕ) → List Placed → ℕ → List ℕ → Type 0
HavePlacesBelow names policy i places = (k : ℕ) (s : Placed) → k < i → slice_get policy k ≡ Some s → is_numbered s.form ≡ true → number_in names (full_name_of s) ≡ Some (get_or places k 0)

-- that of one more
pub place-next : (names : List (List ℕ)) (policy : List Placed) (i v : ℕ) (s : Placed) (old : List ℕ) → length old ≡ i → slice_get policy i ≡ Some s
    → (is_numbered s.form ≡ true → number_in names (full_name_of s) ≡ Some v) → HavePlacesBelow names policy i old → HavePlacesBelow names policy (i + 1) (old ++ v ∷ [])
place-next names policy i v s old long at is so_far k t low there numbered = by (cases_order k i)
  where
    by : (k ≡ i) ⊎ ((k < i) ⊎ (i < k)) → number_in names (full_name_of t) ≡ Some (get_or (old ++ v ∷ []) k 0)
    by (inl e) =
        let one : t ≡ s = same_Some t s (sym there ∙ ap (slice_get policy) e ∙ at) in
        ap (λ u. number_in names (full_name_of u)) one ∙ is (ap (λ u. is_numbered u.form) (sym one) ∙ numbered) ∙ ap Some (sym (ap (λ n. get_or (old ++ v ∷ []) n 0) e ∙ get_or_push old v 0 i long))
    by (inr (inl less)) = so_far k t less there numbered ∙ ap Some (sym (get_or_append_left old (v ∷ []) 0 k (omega (arith, less, long))))
    by (inr (inr more)) = absurd (omega (arith, more, low))

-- the text of one of the words passes
pub text-passes : (p : List ℕ → Bool) (list : List Word) (i : ℕ) (w : Word) → list_all p (texts list) ≡ true → slice_get list i ≡ Some w → p w.text ≡ true
text-passes p [] i w all at = absurd (none-some w at)
text-passes p (v ∷ list) zero w all at = ap (λ u. p u.text) (sym (same_Some v w at)) ∙ first_true (p v.text) (list_all p (texts list)) all
text-passes p (v ∷ list) (suc i) w all at = text-passes p list i w (second_true (p v.text) (list_all p (texts list)) all) at

-- a statement of another kind brings no name
pub none-brought : (s : Placed) → (is_numbered_kind (kind_of s.form) || lists_own (kind_of s.form)) ≡ false → names_with s ≡ []
none-brought s is = by (is_numbered_kind (kind_of s.form)) (lists_own (kind_of s.form)) (sym (kind-numbered s.form)) (none-listed s.form) is
  where
    by : (numbered listing : Bool) → is_numbered s.form ≡ numbered → (listing ≡ false → own_permissions s.form ≡ []) → (numbered || listing) ≡ false → names_with s ≡ []
    by true listing _ _ is = absurd (true≢false is)
    by false listing numbered none is =
        ap (λ b. (if b then full_name_of s ∷ [] else []) ++ texts (own_permissions s.form)) numbered ∙ ap texts (none is)
