-- Lemmas on lists of items by the offsets at which they end.
use Rattle.std.proofs.Common.{◌≡◌, ℕ, zero, suc, ◌+◌, ◌-◌, ◌<◌, ◌≤◌, List, [], ◌∷◌, ◌++◌, length, get_or, take, drop, refl, ap, sym, ◌∙◌, subst, arith, length-append, length-drop}
use Rattle.std.proofs.lemmas.List.{take-append-le, drop-append-le, take_all, drop_all}
use Rattle.cil_parse.specs.Lists.{cut, behind, Rises, start_of}

pub length-cut : {T : Type 0} (from : ℕ) (ends : List ℕ) (items : List T) → length (cut from ends items) ≡ length ends
length-cut from [] items = refl
length-cut from (end ∷ ends) items = ap suc (length-cut end ends items)

pub rises-le : (from : ℕ) (ends : List ℕ) (high : ℕ) → Rises from ends high → from ≤ high
rises-le from [] high rises = rises
rises-le from (end ∷ ends) high rises = let first = rises.0 in let rest = rises-le end ends high rises.1 in omega arith

-- the ends stay where there are more items
pub rises-more : (from : ℕ) (ends : List ℕ) (high higher : ℕ) → high ≤ higher → Rises from ends high → Rises from ends higher
rises-more from [] high higher more rises = omega arith
rises-more from (end ∷ ends) high higher more rises = (rises.0, rises-more end ends high higher more rises.1)

pub rises-close : (from : ℕ) (ends : List ℕ) (high : ℕ) → Rises from ends high → Rises from (ends ++ high ∷ []) high
rises-close from [] high rises = (rises, omega arith)
rises-close from (end ∷ ends) high rises = (rises.0, rises-close end ends high rises.1)

take-drop-more : {T : Type 0} (from end : ℕ) (items more : List T) → from ≤ end → end ≤ length items → take (end - from) (drop from (items ++ more)) ≡ take (end - from) (drop from items)
take-drop-more from end items more low high =
    let long = length-drop from items in
    let inside : from ≤ length items = omega arith in
    let enough : end - from ≤ length (drop from items) = omega arith in
    ap (take (end - from)) (drop-append-le from items more inside) ∙ take-append-le (end - from) (drop from items) more enough

-- more items leave the closed lists
pub cut-append : {T : Type 0} (from : ℕ) (ends : List ℕ) (items more : List T) → Rises from ends (length items) → cut from ends (items ++ more) ≡ cut from ends items
cut-append from [] items more rises = refl
cut-append from (end ∷ ends) items more rises =
    let high = rises-le end ends (length items) rises.1 in
    let first = take-drop-more from end items more rises.0 high in
    let rest = cut-append end ends items more rises.1 in
    ap (λ l. l ∷ cut end ends (items ++ more)) first ∙ ap (λ ls. take (end - from) (drop from items) ∷ ls) rest

-- and come to the open one
pub behind-append : {T : Type 0} (from : ℕ) (ends : List ℕ) (items more : List T) → Rises from ends (length items) → behind from ends (items ++ more) ≡ behind from ends items ++ more
behind-append from [] items more rises = drop-append-le from items more rises
behind-append from (end ∷ ends) items more rises = behind-append end ends items more rises.1

pub cut-close : {T : Type 0} (from : ℕ) (ends : List ℕ) (items : List T) → cut from (ends ++ length items ∷ []) items ≡ cut from ends items ++ behind from ends items ∷ []
cut-close from [] items =
    let long = length-drop from items in
    let all : length (drop from items) ≤ length items - from = omega arith in
    ap (λ l. l ∷ []) (take_all (length items - from) (drop from items) all)
cut-close from (end ∷ ends) items = ap (λ ls. take (end - from) (drop from items) ∷ ls) (cut-close end ends items)

pub behind-close : {T : Type 0} (from : ℕ) (ends : List ℕ) (items : List T) → behind from (ends ++ length items ∷ []) items ≡ []
behind-close from [] items = drop_all (length items) items (omega arith)
behind-close from (end ∷ ends) items = behind-close end ends items

start-next : (from end : ℕ) (ends : List ℕ) (n : ℕ) → start_of end ends n ≡ start_of from (end ∷ ends) (suc n)
start-next from end ends zero = refl
start-next from end ends (suc n) = refl

-- a list that is within the items
pub record IsPart {T : Type 0} (items : List T) (start end : ℕ) (list : List T) : Type 0 where
  pub low : start ≤ end
  pub high : end ≤ length items
  pub is : take (end - start) (drop start items) ≡ list

pub cut-get : {T : Type 0} (from : ℕ) (ends : List ℕ) (items : List T) (n start end : ℕ) → Rises from ends (length items) → n < length ends → start ≡ start_of from ends n → end ≡ get_or ends n 0
    → IsPart items start end (get_or (cut from ends items) n [])
cut-get from [] items n start end rises within is_start is_end = absurd (omega arith)
cut-get from (e ∷ ends) items zero start end rises within is_start is_end =
    let high = rises-le e ends (length items) rises.1 in
    let first = rises.0 in record {
      low = omega arith;
      high = omega arith;
      is = ap (λ s. take (end - s) (drop s items)) is_start ∙ ap (λ e. take (e - from) (drop from items)) is_end;
    }
cut-get from (e ∷ ends) items (suc n) start end rises within is_start is_end =
    cut-get e ends items n start end rises.1 (omega arith) (is_start ∙ sym (start-next from e ends n)) is_end

-- what becomes of the lists where more items came
pub record Grows {T : Type 0} (ends : List ℕ) (items more all : List T) : Type 0 where
  pub rises : Rises 0 ends (length all)
  pub is : (let now : List (List T) × List T = (cut 0 ends all, behind 0 ends all) in now) ≡ (cut 0 ends items, behind 0 ends items ++ more)

pub grows : {T : Type 0} (ends : List ℕ) (items more all : List T) → all ≡ items ++ more → Rises 0 ends (length items) → Grows ends items more all
grows ends items more all is rises =
    let long : length all ≡ length items + length more = ap length is ∙ length-append items more in record {
      rises = rises-more 0 ends (length items) (length all) (omega arith) rises;
      is = ap (λ l. (cut 0 ends l, behind 0 ends l)) is ∙ ap (λ l. (l, behind 0 ends (items ++ more))) (cut-append 0 ends items more rises) ∙ ap (λ l. (cut 0 ends items, l)) (behind-append 0 ends items more rises);
    }

-- what becomes of them where the open list is closed
pub record Closes {T : Type 0} (ends : List ℕ) (items : List T) (all : List ℕ) : Type 0 where
  pub rises : Rises 0 all (length items)
  pub is : (let now : List (List T) × List T = (cut 0 all items, behind 0 all items) in now) ≡ (cut 0 ends items ++ behind 0 ends items ∷ [], [])

pub closes : {T : Type 0} (ends : List ℕ) (items : List T) (end : ℕ) (all : List ℕ) → end ≡ length items → all ≡ ends ++ end ∷ [] → Rises 0 ends (length items) → Closes ends items all
closes ends items end all is_end is rises =
    let same : all ≡ ends ++ length items ∷ [] = is ∙ ap (λ e. ends ++ e ∷ []) is_end in record {
      rises = subst (λ l. Rises 0 l (length items)) (sym same) (rises-close 0 ends (length items) rises);
      is = ap (λ l. (cut 0 l items, behind 0 l items)) same ∙ ap (λ l. (l, behind 0 (ends ++ length items ∷ []) items)) (cut-close 0 ends items) ∙ ap (λ l. (cut 0 ends items ++ behind 0 ends items ∷ [], l)) (behind-close 0 ends items);
    }

pub known-length : {T : Type 0} (value : List (List T) × List T) (ends : List ℕ) (items : List T) (seen : List ℕ) → (let now : List (List T) × List T = (cut 0 ends items, behind 0 ends items) in now) ≡ value → seen ≡ ends → length seen ≡ length value.0
known-length value ends items seen is same = ap length same ∙ sym (length-cut 0 ends items) ∙ ap (λ s. length s.0) is

pub known-part : {T : Type 0} (value : List (List T) × List T) (ends : List ℕ) (items : List T) (seen : List ℕ) (shown : List T) (n start : ℕ) → (let now : List (List T) × List T = (cut 0 ends items, behind 0 ends items) in now) ≡ value
    → seen ≡ ends → shown ≡ items → Rises 0 ends (length items) → n < length value.0 → start ≡ start_of 0 seen n → IsPart shown start (get_or seen n 0) (get_or value.0 n [])
known-part value ends items seen shown n start is same same_items rises within is_start =
    let long = known-length value ends items ends is refl in
    let here : n < length ends = omega arith in
    let found = cut-get 0 ends items n start (get_or seen n 0) rises here (is_start ∙ ap (λ l. start_of 0 l n) same) (ap (λ l. get_or l n 0) same) in
    subst (λ l. IsPart l start (get_or seen n 0) (get_or value.0 n [])) (sym same_items) (subst (λ l. IsPart items start (get_or seen n 0) l) (ap (λ s. get_or s.0 n []) is) found)
