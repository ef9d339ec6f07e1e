-- Permissions as statements list them.
use Rattle.cil_bind.proofs.Common.{◌≡◌, ℕ, zero, suc, ◌+◌, ◌<◌, ◌&&◌, ◌||◌, Bool, true, false, List, [], ◌∷◌, ◌++◌, map, length, take, get_or, Some, bytes_eq, refl, sym, ap, ◌∙◌, true≢false, arith, length-map, Word, Form, common, class, rule, anonymous, by_name, itself, the_named, has_name, texts, own_permissions, read, kind_of, permissions_in, NumberedWord}
use Rattle.std.proofs.Common.{slice_get}
use Rattle.cil_bind.specs.Listing.{lists_own}
use Rattle.cil_bind.proofs.PositionLemmas.{take-last, any-last}

pub texts-last : (words : List Word) (w : Word) → texts (words ++ w ∷ []) ≡ texts words ++ w.text ∷ []
texts-last [] w = refl
texts-last (v ∷ words) w = ap (λ l. v.text ∷ l) (texts-last words w)

-- one name more
pub names-next : (list : List Word) (i : ℕ) (w : Word) (name : List ℕ) → slice_get list i ≡ Some w → has_name (texts (take (i + 1) list)) name ≡ (has_name (texts (take i list)) name || bytes_eq name w.text)
names-next list i w name at =
    ap (λ l. has_name (texts l) name) (take-last list i w at) ∙ ap (λ l. has_name l name) (texts-last (take i list) w) ∙ any-last (bytes_eq name) (texts (take i list)) w.text

pub spread : (a e h b : Bool) → ((a || (e && h)) || (e && b)) ≡ (a || (e && (h || b)))
spread true e h b = refl
spread false true h b = refl
spread false false h b = refl

-- a word that is read
pub word-read : (texts : List (List ℕ)) (shown : List NumberedWord) (list : List Word) (i : ℕ) (d : NumberedWord) → map (read texts) shown ≡ map Some list → i < length shown
    → (w : Word) × (slice_get list i ≡ Some w) × (read texts (get_or shown i d) ≡ Some w)
word-read texts [] list i d is less = absurd (omega (arith, less))
word-read texts (y ∷ shown) [] i d is less = cc
word-read texts (y ∷ shown) (w ∷ list) zero d is less = (w, refl, (let head : read texts y ≡ Some w = cc in head))
word-read texts (y ∷ shown) (w ∷ list) (suc i) d is less = let rest : map (read texts) shown ≡ map {A = Word} Some list = cc in word-read texts shown list i d rest (omega (arith, less))

pub as-many : (texts : List (List ℕ)) (shown : List NumberedWord) (list : List Word) → map (read texts) shown ≡ map Some list → length list ≡ length shown
as-many texts shown list is = sym (length-map list Some) ∙ ap length (sym is) ∙ length-map shown (read texts)

-- what a statement lists is its own where its kind lists any
pub own-listed : (form : Form) → lists_own (kind_of form) ≡ true → permissions_in form ≡ own_permissions form
own-listed (common id permissions) is = refl
own-listed (class id permissions) is = refl
own-listed (rule kind source itself (anonymous the_class permissions)) is = absurd (true≢false (sym is))
own-listed (rule kind source itself (by_name set)) is = absurd (true≢false (sym is))
own-listed (rule kind source (the_named word) (anonymous the_class permissions)) is = absurd (true≢false (sym is))
own-listed (rule kind source (the_named word) (by_name set)) is = absurd (true≢false (sym is))
own-listed _ is = absurd (true≢false (sym is))

pub none-listed : (form : Form) → lists_own (kind_of form) ≡ false → own_permissions form ≡ []
none-listed (common id permissions) is = absurd (true≢false is)
none-listed (class id permissions) is = absurd (true≢false is)
none-listed _ is = refl
