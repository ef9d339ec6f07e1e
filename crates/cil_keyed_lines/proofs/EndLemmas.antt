-- Keys that are taken out with their lines, and the counters of the others.
use Rattle.cil_keyed_lines.proofs.Common.{◌≡◌, ◌≢◌, ℕ, ◌+◌, ◌-◌, ◌<◌, ◌==◌, Bool, false, true, true≢false, not, cond, nat_lt, eqb-true, index_of, one_if, Err, Ok, OnOk, Result, if◌then◌else◌, List, [], ◌∷◌, ◌++◌, length, get_or, set, take, position, slice_get, Option, None, Some, IfSome, refl, sym, ap, ◌∙◌, inl, inr, arith, list_any, IsDistinct, swap_remove, SymbolKey, count_by, is_key, with_key, AreAmong}
use Rattle.std.specs.Prelude.{is_err}
use Rattle.std.proofs.lemmas.Bool.{cases_eq, cases_lt, lt-ltb}
use Rattle.std.proofs.lemmas.List.Folds.{position_or_len_push}
use Rattle.std.proofs.lemmas.List.{get_or_default, length-append, length-set, length-take-le, get_or-take, get_or-set_same, get_or-set_other}
use Rattle.std.proofs.lemmas.Option.{none-some, slice_get-get_or}
use Rattle.cil_keyed_lines.proofs.KeyedLemmas.{count_absent, count_placed, key_itself, key_placed, no_key, placed_at, placed_within}

-- ---- a key that is taken out

module _ (keys news : List SymbolKey) (place : ℕ) (within : place < length keys) (o : Option SymbolKey) (is : o ≡ slice_get keys place) (out : IfSome o (λ r. news ≡ swap_remove keys place r)) where
  abbrev n : ℕ
  n = length keys - 1

  taken : (d : SymbolKey) → news ≡ take n (set keys place (get_or keys n d))
  taken d = by o is out
    where
      by : (p : Option SymbolKey) → p ≡ slice_get keys place → IfSome p (λ r. news ≡ swap_remove keys place r) → news ≡ take n (set keys place (get_or keys n d))
      by None none _ = absurd (none-some (get_or keys place d) (none ∙ slice_get-get_or keys place d within))
      by (Some r) _ new = new ∙ ap (λ x. take n (set keys place x)) (last r d)
        where
          last : (a b : SymbolKey) → get_or keys n a ≡ get_or keys n b
          last a b = get_or_default keys n a b (omega (arith, within))

  long : length news ≡ n
  long =
      let d = no_key in
      ap length (taken d) ∙ length-take-le n (set keys place (get_or keys n d)) (omega (arith, length-set keys place (get_or keys n d)))

  moved : place < n → slice_get news place ≡ slice_get keys n
  moved less =
      let d = no_key in
      slice_get-get_or news place d (omega (arith, long))
      ∙ ap (λ x. Some x) (ap (λ l. get_or l place d) (taken d) ∙ get_or-take n (set keys place (get_or keys n d)) place d less ∙ get_or-set_same keys place (get_or keys n d) d within)
      ∙ sym (slice_get-get_or keys n d (omega (arith, within)))

  other : (l : ℕ) → l ≢ place → l < n → slice_get news l ≡ slice_get keys l
  other l apart less =
      let d = no_key in
      slice_get-get_or news l d (omega (arith, long))
      ∙ ap (λ x. Some x) (ap (λ ks. get_or ks l d) (taken d) ∙ get_or-take n (set keys place (get_or keys n d)) l d less ∙ get_or-set_other keys place l (get_or keys n d) d apart)
      ∙ sym (slice_get-get_or keys l d (omega (arith, within)))

  -- the keys that are left
  pub among_taken : AreAmong news keys
  among_taken k (i, bound, at) =
      let less : i < n = omega (arith, bound, long) in
      elim (cases_eq i place) [
        | inl here ↦
            let last : get_or news i k ≡ get_or keys n k =
            ap (λ l. get_or l i k) (taken k) ∙ get_or-take n (set keys place (get_or keys n k)) i k less ∙ ap (λ j. get_or (set keys place (get_or keys n k)) j k) here
            ∙ get_or-set_same keys place (get_or keys n k) k within
            in
            (n, omega (arith, less), sym last ∙ at)
        | inr apart ↦
            let same : get_or news i k ≡ get_or keys i k =
            ap (λ l. get_or l i k) (taken k) ∙ get_or-take n (set keys place (get_or keys n k)) i k less ∙ get_or-set_other keys place i (get_or keys n k) k apart
            in
            (i, omega (arith, less), sym same ∙ at)
      ]

  -- no key counts otherwise
  pub count_taken : (f g : ℕ → ℕ → ℕ) → IsDistinct is_key keys → IsDistinct is_key news → ((t : ℕ) → f place t ≡ 0) → ((t : ℕ) → place < n → g place t ≡ f n t)
      → ((l t : ℕ) → l ≢ place → l < n → g l t ≡ f l t) → (k : SymbolKey) (t : ℕ) → count_by g news k t ≡ count_by f keys k t
  count_taken f g distinct distinct' clear came stays k t = by (position (is_key k) news) (position (is_key k) keys) refl refl
    where
      by : (new old : Option ℕ) → position (is_key k) news ≡ new → position (is_key k) keys ≡ old → count_by g news k t ≡ count_by f keys k t
      by (Some i) old new_is old_is =
          let less : i < n = omega (arith, placed_within news k i new_is, long) in
          let at = key_placed news k i new_is in
          elim (cases_eq i place) [
            | inl here ↦
                let last : slice_get keys n ≡ Some k = sym (moved (omega (arith, here, less))) ∙ ap (slice_get news) (sym here) ∙ at in
                count_placed g news k i t new_is ∙ ap (λ l. g l t) here ∙ came t (omega (arith, here, less)) ∙ sym (count_placed f keys k n t (placed_at keys n k distinct last))
            | inr apart ↦
                let same : slice_get keys i ≡ Some k = sym (other i apart less) ∙ at in
                count_placed g news k i t new_is ∙ stays i t apart less ∙ sym (count_placed f keys k i t (placed_at keys i k distinct same))
          ]
      by None None new_is old_is = count_absent g news k t new_is ∙ sym (count_absent f keys k t old_is)
      by None (Some j) new_is old_is =
          let bound = placed_within keys k j old_is in
          let at = key_placed keys k j old_is in
          elim (cases_eq j place) [
            | inl here ↦ count_absent g news k t new_is ∙ sym (count_placed f keys k j t old_is ∙ ap (λ l. f l t) here ∙ clear t)
            | inr apart ↦
                elim (cases_lt j n) [
                  | inl less ↦ absurd (none-some j (sym new_is ∙ placed_at news j k distinct' (other j apart less ∙ at)))
                  | inr past ↦
                      let last : j ≡ n = omega (arith, bound, past) in
                      let before : place < n = omega (arith, within, bound, past, apart) in
                      absurd (none-some place (sym new_is ∙ placed_at news place k distinct' (moved before ∙ ap (slice_get keys) (sym last) ∙ at)))
                ]
          ]

-- ---- a new key

pub len_with : (keys news : List SymbolKey) (key : SymbolKey) (b : Bool) → b ≡ not (list_any (is_key key) keys) → news ≡ with_key keys key → length news ≡ length keys + one_if b
len_with keys news key b new is = ap length is ∙ by (list_any (is_key key) keys) new
  where
    by : (h : Bool) → b ≡ not h → length (if h then keys else keys ++ key ∷ []) ≡ length keys + one_if b
    by true e = omega (arith, ap one_if e)
    by false e = omega (arith, ap one_if e, length-append keys (key ∷ []))

pub placed_with : (keys news : List SymbolKey) (key : SymbolKey) (n : ℕ) → n ≡ index_of keys key → n < length news → news ≡ with_key keys key → position (is_key key) news ≡ Some n
placed_with keys news key n at less is =
    ap (λ m. cond (nat_lt m (length news)) (Some m) None) index ∙ ap (λ b. cond b (Some n) None) (lt-ltb n (length news) less)
  where
    pushed : (b : Bool) → (index_of keys key == length keys) ≡ b → cond b (length keys + cond (is_key key key) 0 1) (index_of keys key) ≡ n
    pushed true last = ap (λ b. length keys + cond b 0 1) (key_itself key) ∙ omega (arith, eqb-true (index_of keys key) (length keys) last, at)
    pushed false other = sym at

    by : (b : Bool) → index_of (if b then keys else keys ++ key ∷ []) key ≡ n
    by true = sym at
    by false = position_or_len_push (is_key key) keys key ∙ pushed (index_of keys key == length keys) refl

    index : index_of news key ≡ n
    index = ap (λ l. index_of l key) is ∙ by (list_any (is_key key) keys)

-- what holds where there was no error
pub was_ok : {V E P : Type 0} (r : Result V E) → is_err r ≡ false → OnOk r P → P
was_ok (Ok v) none holds = holds
was_ok (Err e) none holds = absurd (true≢false none)
