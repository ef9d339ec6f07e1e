-- Classes of too many permissions.
use Rattle.cil_check.proofs.Common.{◌≡◌, ℕ, ◌+◌, ◌<◌, ◌≤◌, nat_lt, Bool, true, false, List, [], ◌∷◌, ◌++◌, length, take, filter, fold, map, cond, Some, bytes_eq, get_or, refl, sym, ap, ◌∙◌, append-nil, add-one, option_to_list, IsDistinct, slice_get-get_or, take_all, fold-append, flat_map-append, Word, Form, class, rule, anonymous, itself, the_named, Placed, classes, declared_in, texts, distinct, with_name, listed_by, own_permissions, has_too_many, too_many_words, kind_of, AreNumbersOf, IsFirstOf, with_number, list_at, names_listed, HasInherited, word_if, HaveWords, take-next}
use Rattle.std.proofs.Common.{slice_get}
use Rattle.cil_parse.specs.declared.row.StatementKind.TheVariants as kinds
use Rattle.cil_check.proofs.PositionLemmas.{all-at}
use Rattle.cil_check.proofs.SeenLemmas.{there-at}
use Rattle.cil_check.proofs.PermissionLemmas.{words-at}
use Rattle.cil_check.proofs.MissingLemmas.{all-permissions}
use Rattle.cil_check.proofs.FewLemmas.{count-all, fold-distinct, over-same}

-- the permissions of a class's own are counted
pub count-own : (names : List (List ℕ)) (policy : List Placed) (lists : List (List ℕ)) (i : ℕ) (s : Placed) (few : List ℕ) → IsDistinct bytes_eq names → HaveWords names policy lists → slice_get policy i ≡ Some s
    → few ≡ fold with_number [] (get_or lists i []) → AreNumbersOf names few (take 33 (distinct (texts (own_permissions s.form))))
count-own names policy lists i s few alone have at is =
    let own = texts (own_permissions s.form) in
    ap (map (slice_get names)) is ∙ count-all names [] (get_or lists i []) [] (distinct own) alone (words-at names policy lists i s have at).1 refl
    ∙ ap (λ l. map Some (take 33 l)) (fold-distinct [] own)

-- the place of a common that is noted
pub common-there : (policy : List Placed) (noted : List ℕ × List (List ℕ)) (items : List ℕ) (owner i : ℕ) → HasInherited policy noted → items ≡ list_at noted owner → i < length items
    → (u : Placed) × (slice_get policy (get_or items i 0) ≡ Some u)
common-there policy noted items owner i has is within =
    there-at policy (get_or items i 0)
    (all-at (λ k. k < length policy) (list_at noted owner) i (get_or items i 0) (has.within owner) (ap (λ l. slice_get l i) (sym is) ∙ slice_get-get_or items i 0 within))

-- and those of one common more
pub count-next : (names : List (List ℕ)) (policy : List Placed) (lists : List (List ℕ)) (items : List ℕ) (i : ℕ) (u : Placed) (first : List (List ℕ)) (old new : List ℕ) → IsDistinct bytes_eq names
    → HaveWords names policy lists → i < length items → slice_get policy (get_or items i 0) ≡ Some u → new ≡ fold with_number old (get_or lists (get_or items i 0) [])
    → AreNumbersOf names old (take 33 (fold with_name first (names_listed policy (take i items)))) → AreNumbersOf names new (take 33 (fold with_name first (names_listed policy (take (i + 1) items))))
count-next names policy lists items i u first old new alone have within at is so_far =
    ap (map (slice_get names)) is
    ∙ count-all names old (get_or lists m []) (fold with_name first (names_listed policy (take i items))) (distinct own) alone (words-at names policy lists m u have at).1 so_far
    ∙ ap (λ l. map Some (take 33 l)) (fold-distinct (fold with_name first (names_listed policy (take i items))) own ∙ sym (fold-append with_name first (names_listed policy (take i items)) own)
    ∙ ap (fold with_name first) (sym more))
  where
    m : ℕ
    m = get_or items i 0

    own : List (List ℕ)
    own = texts (own_permissions u.form)

    more : names_listed policy (take (i + 1) items) ≡ names_listed policy (take i items) ++ own
    more =
        ap (λ k. names_listed policy (take k items)) (add-one i) ∙ ap (names_listed policy) (take-next items i m (slice_get-get_or items i 0 within))
        ∙ flat_map-append (λ k. listed_by (slice_get policy k)) (take i items) (m ∷ []) ∙ ap (λ l. names_listed policy (take i items) ++ l) (append-nil (listed_by (slice_get policy m)))
        ∙ ap (λ o. names_listed policy (take i items) ++ listed_by o) at

-- all of them are
pub count-end : (names : List (List ℕ)) (policy : List Placed) (noted : List ℕ × List (List ℕ)) (i k : ℕ) (s : Placed) (few : List ℕ) → HasInherited policy noted → slice_get policy i ≡ Some s → IsFirstOf classes policy i
    → length (list_at noted i) ≤ k → AreNumbersOf names few (take 33 (fold with_name (distinct (texts (own_permissions s.form))) (names_listed policy (take k (list_at noted i)))))
    → nat_lt 32 (length few) ≡ has_too_many policy s
count-end names policy noted i k s few has at first past counted =
    over-same names few (fold with_name (distinct own) (names_listed policy (take k (list_at noted i)))) counted
    ∙ ap (λ l. nat_lt 32 (length (fold with_name (distinct own) (names_listed policy l)))) (take_all k (list_at noted i) past)
    ∙ ap (λ l. nat_lt 32 (length l)) (sym (fold-append with_name [] own (names_listed policy (list_at noted i))))
    ∙ ap (λ l. nat_lt 32 (length (distinct l))) (sym (all-permissions policy noted i s has at first))
  where
    own : List (List ℕ)
    own = texts (own_permissions s.form)

-- statements by their kinds
pub form-class : (form : Form) → kind_of form ≡ kinds.Class → (id : Word) × (permissions : List Word) × (form ≡ class id permissions)
form-class (class id permissions) is = (id, permissions, refl)
form-class (rule kind source itself (anonymous the_class permissions)) is = cc
form-class (rule kind source (the_named word) (anonymous the_class permissions)) is = cc
form-class _ is = cc

pub too-many-class : (policy : List Placed) (s : Placed) (id : Word) (permissions : List Word) → s.form ≡ class id permissions → slice_get (too_many_words policy s) 0 ≡ word_if (has_too_many policy s) id
too-many-class policy s id permissions is =
    ap (λ f. slice_get (filter (λ w. has_too_many policy s) (option_to_list (declared_in classes f))) 0) is ∙ by (has_too_many policy s)
  where
    by : (b : Bool) → slice_get (cond b (id ∷ []) []) 0 ≡ word_if b id
    by true = refl
    by false = refl
