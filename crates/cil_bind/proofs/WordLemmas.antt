-- The words of modules in one numbering.
use Rattle.cil_bind.proofs.Common.{◌≡◌, ℕ, zero, suc, ◌+◌, ◌<◌, Bool, true, List, [], ◌∷◌, ◌++◌, map, length, get_or, take, drop, Some, None, All, Vec, Contains, bytes_eq, refl, sym, ap, ◌∙◌, subst, add-one, arith, inl, inr, true≢false, IsTrue, IsDistinct, list_any, length-map, map-append, Contains-get_or, Any-from_list_any, list_any_at, none-some, same_Some, slice_get-get_or, Word, Form, block, Placed, block_name, is_word, is_block, has_block, same_namespace, both_true, first_true, second_true, one-namespace, AreNumbersOf, names_of, word_at, named, namespace_at, path_of, AreOpened, AreWithin, Stands, AreWorded, NamedModule, Row}
use Rattle.std.proofs.Common.{slice_get}
use Rattle.cil_lookup.proofs.NamespaceLemmas.{bytes_eq-refl, bytes_eq-true}
use Rattle.cil_bind.proofs.PositionLemmas.{take-next}
use Rattle.cil_bind.proofs.DeclareLemmas.{named-once, same_namespace-refl}
use Rattle.cil_bind.proofs.ScopeLemmas.{get-is, space-within}
use Rattle.cil_bind.proofs.PlaceLemmas.{row-there}

get-more : (xs ys : List (List ℕ)) (n : ℕ) (x : List ℕ) → slice_get xs n ≡ Some x → slice_get (xs ++ ys) n ≡ Some x
get-more [] ys n x e = absurd (none-some x e)
get-more (z ∷ xs) ys zero x e = e
get-more (z ∷ xs) ys (suc n) x e = get-more xs ys n x e

get-or-at : (xs : List (List ℕ)) (i : ℕ) → i < length xs → slice_get xs i ≡ Some (get_or xs i [])
get-or-at xs i low = slice_get-get_or xs i [] low

-- numbers of names, one by one
numbers-more : (all more : List (List ℕ)) (numbers : List ℕ) (names : List (List ℕ)) → AreNumbersOf all numbers names → AreNumbersOf (all ++ more) numbers names
numbers-more all more [] [] e = refl
numbers-more all more [] (n ∷ names) e = cc
numbers-more all more (w ∷ numbers) [] e = cc
numbers-more all more (w ∷ numbers) (n ∷ names) e =
    let first = get-more all more w n (ap (λ l. get_or l 0 None) e) in
    let rest = numbers-more all more numbers names (ap (drop 1) e) in
    λ i. first i ∷ rest i

pub numbers-next : (all all' : List (List ℕ)) (numbers : List ℕ) (names : List (List ℕ)) (i n : ℕ) → AreNumbersOf all numbers (take i names) → (more : List (List ℕ)) × (all' ≡ all ++ more) → i < length names
    → slice_get all' n ≡ Some (get_or names i []) → AreNumbersOf all' (numbers ++ n ∷ []) (take (i + 1) names)
numbers-next all all' numbers names i n so_far kept low at =
    let next : take (i + 1) names ≡ take i names ++ get_or names i [] ∷ [] = rw add-one (take-next names i (get_or names i []) (get-or-at names i low)) in
    let before = subst (λ l. AreNumbersOf l numbers (take i names)) (sym kept.1) (numbers-more all kept.0 numbers (take i names) so_far) in
    map-append (slice_get all') numbers (n ∷ []) ∙ (λ j. before j ++ at j ∷ []) ∙ sym (map-append Some (take i names) (get_or names i [] ∷ [])) ∙ ap (map Some) (sym next)

pub numbers-long : (all : List (List ℕ)) (numbers : List ℕ) (names : List (List ℕ)) → AreNumbersOf all numbers names → length numbers ≡ length names
numbers-long all numbers names e = sym (length-map numbers (slice_get all)) ∙ ap length e ∙ length-map names Some

number-at : (all : List (List ℕ)) (numbers : List ℕ) (names : List (List ℕ)) (k : ℕ) (name : List ℕ) → AreNumbersOf all numbers names → slice_get names k ≡ Some name → word_at all (get_or numbers k 0) ≡ name
number-at all [] [] k name e at = absurd (none-some name at)
number-at all [] (n ∷ names) k name e at = cc
number-at all (w ∷ numbers) [] k name e at = cc
number-at all (w ∷ numbers) (n ∷ names) zero name e at = (get-is all w n (ap (λ l. get_or l 0 None) e)).1 ∙ same_Some n name at
number-at all (w ∷ numbers) (n ∷ names) (suc k) name e at = number-at all numbers names k name (ap (drop 1) e) at

pub numbers-within : (all : List (List ℕ)) (numbers : List ℕ) (names : List (List ℕ)) → AreNumbersOf all numbers names → AreWithin all numbers
numbers-within all [] names e = tt
numbers-within all (w ∷ numbers) [] e = cc
numbers-within all (w ∷ numbers) (n ∷ names) e = ((get-is all w n (ap (λ l. get_or l 0 None) e)).0, numbers-within all numbers names (ap (drop 1) e))

-- the names between the dots of a text, by the numbers of the module and those of all
pub parts-are : (all names : List (List ℕ)) (words path : List ℕ) (parts : List (List ℕ)) → AreNumbersOf all words names → AreNumbersOf names path parts → parts ≡ path_of all words path
parts-are all names words [] [] nums e = refl
parts-are all names words [] (p ∷ parts) nums e = cc
parts-are all names words (k ∷ path) [] nums e = cc
parts-are all names words (k ∷ path) (p ∷ parts) nums e =
    let first = number-at all words names k p nums (ap (λ l. get_or l 0 None) e) in
    let rest = parts-are all names words path parts nums (ap (drop 1) e) in
    λ i. sym first i ∷ rest i

pub path-within : (names : List (List ℕ)) (words path : List ℕ) (parts : List (List ℕ)) → length words ≡ length names → AreNumbersOf names path parts → All (λ k. k < length words) path
path-within names words path parts long e = λ i d low. subst (λ n. get_or path i d < n) (sym long) (at path parts i d e low)
  where
    at : (path : List ℕ) (parts : List (List ℕ)) (i d : ℕ) → AreNumbersOf names path parts → i < length path → get_or path i d < length names
    at [] parts i d e low = absurd (omega arith)
    at (k ∷ path) [] i d e low = cc
    at (k ∷ path) (p ∷ parts) zero d e low = (get-is names k p (ap (λ l. get_or l 0 None) e)).0
    at (k ∷ path) (p ∷ parts) (suc i) d e low = at path parts i d (ap (drop 1) e) (omega arith)

-- the modules up to the next
worded-more : {A : Type 0} (all more : List (List ℕ)) (words : List (Vec ℕ A)) (modules : List (NamedModule A)) → AreWorded all words modules → AreWorded (all ++ more) words modules
worded-more all more [] [] e = tt
worded-more all more [] (m ∷ modules) e = e
worded-more all more (w ∷ words) [] e = e
worded-more all more (w ∷ words) (m ∷ modules) e = (numbers-more all more w.items (names_of m.«module».now) e.0, worded-more all more words modules e.1)

pub worded-grows : {A : Type 0} (all all' : List (List ℕ)) (words : List (Vec ℕ A)) (modules : List (NamedModule A)) → AreWorded all words modules → (more : List (List ℕ)) × (all' ≡ all ++ more) → AreWorded all' words modules
worded-grows all all' words modules e kept = subst (λ l. AreWorded l words modules) (sym kept.1) (worded-more all kept.0 words modules e)

worded-push : {A : Type 0} (all : List (List ℕ)) (words : List (Vec ℕ A)) (modules : List (NamedModule A)) (w : Vec ℕ A) (m : NamedModule A) → AreWorded all words modules → AreNumbersOf all w.items (names_of m.«module».now)
    → AreWorded all (words ++ w ∷ []) (modules ++ m ∷ [])
worded-push all [] [] w m e is = (is, tt)
worded-push all [] (n ∷ modules) w m e is = absurd e
worded-push all (v ∷ words) [] w m e is = absurd e
worded-push all (v ∷ words) (n ∷ modules) w m e is = (e.0, worded-push all words modules w m e.1 is)

pub worded-next : {A : Type 0} (all all' : List (List ℕ)) (words : List (Vec ℕ A)) (modules : List (NamedModule A)) (i : ℕ) (w : Vec ℕ A) (m : NamedModule A) → AreWorded all words (take i modules) → (more : List (List ℕ)) × (all' ≡ all ++ more)
    → i < length modules → m ≡ get_or modules i m → AreNumbersOf all' w.items (names_of m.«module».now) → AreWorded all' (words ++ w ∷ []) (take (i + 1) modules)
worded-next all all' words modules i w m so_far kept low here is =
    let next : take (i + 1) modules ≡ take i modules ++ m ∷ [] = rw add-one (take-next modules i m (slice_get-get_or modules i m low ∙ ap Some (sym here))) in
    subst (AreWorded all' (words ++ w ∷ [])) (sym next) (worded-push all' words (take i modules) w m (worded-grows all all' words (take i modules) so_far kept) is)

-- the block of a form
block-named : (form : Form) (name : List ℕ) → is_word name (block_name form) ≡ true → (id : Word) × (form ≡ block id) × (id.text ≡ name)
block-named (block id) name e = (id, refl, bytes_eq-true id.text name e)
block-named _ name e = absurd (true≢false (sym e))

-- a namespace is there where a block opens it
pub stands-opened : (names spaces : List (List ℕ)) (rows : List Row) (policy : List Placed) → Stands names spaces rows policy → AreOpened names spaces policy
stands-opened names spaces rows policy stands n w low small = (to, from)
  where
    space : List ℕ
    space = w ∷ get_or spaces n []

    test : Placed → Bool
    test = is_block (namespace_at names spaces n) (word_at names w)

    to : Contains spaces (w ∷ get_or spaces n []) → IsTrue (has_block policy (namespace_at names spaces n) (word_at names w))
    to there = elim (stands.opened_by (w ∷ get_or spaces n []) there) [
      | inl none ↦ absurd (let l : suc (length (get_or spaces n [])) ≡ 0 = ap length none in omega arith)
      | inr by ↦ opened by.0 by.1 by.2 by.3 by.4
    ]
      where
        opened : (s : Placed) (id : Word) → Contains policy s → s.form ≡ block id → named names (w ∷ get_or spaces n []) ≡ id.text ∷ s.namespace → list_any (is_block (namespace_at names spaces n) (word_at names w)) policy ≡ true
        opened s id (i, within, is) form e =
            list_any_at (is_block (namespace_at names spaces n) (word_at names w)) policy i s within
            (ap (is_block (namespace_at names spaces n) (word_at names w)) is
            ∙ both_true (is_word (word_at names w) (block_name s.form)) (same_namespace s.namespace (namespace_at names spaces n))
            (ap (λ f. is_word (word_at names w) (block_name f)) form ∙ ap (λ t. bytes_eq t (word_at names w)) (sym (ap (λ l. get_or l 0 []) e)) ∙ bytes_eq-refl (word_at names w))
            (ap (λ m. same_namespace m (namespace_at names spaces n)) (sym (ap (drop 1) e)) ∙ same_namespace-refl (namespace_at names spaces n)))

    from : IsTrue (has_block policy (namespace_at names spaces n) (word_at names w)) → Contains spaces (w ∷ get_or spaces n [])
    from any =
        let found = Any-from_list_any (is_block (namespace_at names spaces n) (word_at names w)) policy any in
        here found.0 found.1 found.2 found.3 found.4
      where
        here : (i : ℕ) (s : Placed) → i < length policy → get_or policy i s ≡ s → is_block (namespace_at names spaces n) (word_at names w) s ≡ true → Contains spaces (w ∷ get_or spaces n [])
        here i s within is passes =
            let at : slice_get policy i ≡ Some s = slice_get-get_or policy i s within ∙ ap Some is in
            let row = row-there names spaces rows policy i s stands.rows_are at in
            let id = block-named s.form (word_at names w) (first_true (is_word (word_at names w) (block_name s.form)) (same_namespace s.namespace (namespace_at names spaces n)) passes) in
            let same = one-namespace s.namespace (namespace_at names spaces n) (second_true (is_word (word_at names w) (block_name s.form)) (same_namespace s.namespace (namespace_at names spaces n)) passes) in
            let inner = row.2.inside id.0 id.1 in
            let e : named names (get_or spaces row.0.inside []) ≡ named names (w ∷ get_or spaces n []) = inner.1 ∙ (λ j. id.2 j ∷ same j) in
            let numbers = named-once names spaces (get_or spaces row.0.inside []) (w ∷ get_or spaces n []) stands.numbered (space-within names spaces row.0.inside stands.numbered inner.0) (small, space-within names spaces n stands.numbered low) e in
            subst (Contains spaces) numbers (Contains-get_or spaces row.0.inside [] inner.0)

-- the words of the module of an index
pub worded-at : {A : Type 0} (all : List (List ℕ)) (words : List (Vec ℕ A)) (modules : List (NamedModule A)) (i : ℕ) (w : Vec ℕ A) (m : NamedModule A) → AreWorded all words modules → i < length modules → w ≡ get_or words i w → m ≡ get_or modules i m
    → AreNumbersOf all w.items (names_of m.«module».now)
worded-at all [] [] i w m are low a b = absurd (omega arith)
worded-at all [] (n ∷ modules) i w m are low a b = absurd are
worded-at all (v ∷ words) [] i w m are low a b = absurd are
worded-at all (v ∷ words) (n ∷ modules) zero w m are low a b =
    subst (λ x. AreNumbersOf all x.items (names_of m.«module».now)) (sym a) (subst (λ x. AreNumbersOf all v.items (names_of x.«module».now)) (sym b) are.0)
worded-at all (v ∷ words) (n ∷ modules) (suc i) w m are low a b = worded-at all words modules i w m are.1 (omega arith) a b

pub worded-long : {A : Type 0} (all : List (List ℕ)) (words : List (Vec ℕ A)) (modules : List (NamedModule A)) → AreWorded all words modules → length words ≡ length modules
worded-long all [] [] are = refl
worded-long all [] (n ∷ modules) are = absurd are
worded-long all (v ∷ words) [] are = absurd are
worded-long all (v ∷ words) (n ∷ modules) are = ap suc (worded-long all words modules are.1)

pub none-distinct : (names : List (List ℕ)) → names ≡ [] → IsDistinct bytes_eq names
unfolding IsDistinct
none-distinct names e = subst (IsDistinct bytes_eq) (sym e) tt
