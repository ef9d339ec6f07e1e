-- Types, aliases and attributes of a policy that declares none twice: each full name tells its statement.
use Rattle.cil_check.proofs.Common.{◌≡◌, ℕ, zero, suc, Bool, true, List, [], ◌∷◌, length, get_or, Contains, Option, Some, None, is_some, position, refl, sym, ap, ◌∙◌, true≢false, IfSome, none-some, same_Some, slice_get_within, slice_get_read, slice_get-get_or, get_or_from_slice_get, position-Some, bytes_eq-Decides, Word, Placed, Table, types, scopes, declared_in, declared_name, word_text, is_word, same_namespace, declares, is_same, both_true, IsOnce, any-contained, IsName, HaveOneNames, any-position}
use Rattle.std.proofs.Common.{slice_get}
use Rattle.cil_specs.proofs.DeclaredLemmas.{AtMostOne, declared-once}
use Rattle.cil_check.proofs.FullNameLemmas.{full-name-same, full-name-some}
use Rattle.cil_check.proofs.WordLemmas.{same-itself}

pub at-contains : {X : Type 0} (xs : List X) (i : ℕ) (x : X) → slice_get xs i ≡ Some x → Contains xs x
at-contains xs i x at = (i, slice_get_within xs i x at, get_or_from_slice_get xs i x x at)

pub contains-at : {X : Type 0} (xs : List X) (x : X) → Contains xs x → (i : ℕ) × (slice_get xs i ≡ Some x)
contains-at xs x there = (there.0, slice_get_read xs (length xs) there.0 x refl there.1 (sym there.2))

-- where at most one passes, two that pass stand at one place
one-place : {X : Type 0} (p : X → Bool) (xs : List X) (i k : ℕ) (x y : X) → AtMostOne p xs → slice_get xs i ≡ Some x → p x ≡ true → slice_get xs k ≡ Some y → p y ≡ true → i ≡ k
one-place p [] i k x y one at a there b = absurd (none-some x at)
one-place p (z ∷ xs) zero zero x y one at a there b = refl
one-place p (z ∷ xs) zero (suc k) x y one at a there b =
    absurd (true≢false (sym (any-contained p xs y (at-contains xs k y there) b) ∙ one.0 (ap p (same_Some z x at) ∙ a)))
one-place p (z ∷ xs) (suc i) zero x y one at a there b =
    absurd (true≢false (sym (any-contained p xs x (at-contains xs i x at) a) ∙ one.0 (ap p (same_Some z y there) ∙ b)))
one-place p (z ∷ xs) (suc i) (suc k) x y one at a there b = ap suc (one-place p xs i k x y one.1 at a there b)

word-itself : (o : Option Word) → is_some o ≡ true → is_word (word_text o) o ≡ true
word-itself None some = absurd (true≢false (sym some))
word-itself (Some w) some = (bytes_eq-Decides w.text w.text).1 refl

spelt-text : (o : Option Word) → is_some o ≡ true → IfSome o (λ w. IsName w.text) → IsName (word_text o)
spelt-text None some spelt = absurd (true≢false (sym some))
spelt-text (Some w) some spelt = spelt

-- of one full name in a table, the second declares what the first does
pub alike : (table : Table) (policy : List Placed) → HaveOneNames policy → ((s : Placed) → Contains policy s → IfSome (declared_in table s.form) (λ w. IsName w.text))
    → (s t : Placed) → Contains policy s → Contains policy t → is_some (declared_in table s.form) ≡ true → is_some (declared_in table t.form) ≡ true
    → declared_name table s ≡ declared_name table t → is_same table s t ≡ true
alike table policy named spelt s t there too declares also same =
    let text = word_text (declared_in table s.form) in
    let parts = full-name-same s.namespace t.namespace text (word_text (declared_in table t.form)) (named s there).blocks (named t too).blocks
    (spelt-text (declared_in table s.form) declares (spelt s there)) (spelt-text (declared_in table t.form) also (spelt t too)) same in
    both_true (is_word text (declared_in table t.form)) (same_namespace t.namespace s.namespace)
    (ap (λ x. is_word x (declared_in table t.form)) parts.1 ∙ word-itself (declared_in table t.form) also)
    (ap (same_namespace t.namespace) parts.0 ∙ same-itself t.namespace)

no-scopes : types ≡ scopes → ⊥
no-scopes e = cc

module _ (policy : List Placed) (once : IsOnce policy) (named : HaveOneNames policy) where
  spelt : (s : Placed) → Contains policy s → IfSome (declared_in types s.form) (λ w. IsName w.text)
  spelt s there = (named s there).declared

  -- so it is the same
  pub same-place : (i k : ℕ) (s t : Placed) → slice_get policy i ≡ Some s → slice_get policy k ≡ Some t → is_some (declared_in types s.form) ≡ true → is_some (declared_in types t.form) ≡ true
      → declared_name types s ≡ declared_name types t → i ≡ k
  same-place i k s t at there declares also same =
      let here = at-contains policy i s at in
      let too = at-contains policy k t there in
      one-place (is_same types s) policy i k s t (declared-once policy once types no-scopes s.namespace (word_text (declared_in types s.form)))
      at (alike types policy named spelt s s here here declares declares refl) there (alike types policy named spelt s t here too declares also same)

  -- what a statement declares it is the first to declare
  pub first-place : (i : ℕ) (s : Placed) → slice_get policy i ≡ Some s → is_some (declared_in types s.form) ≡ true → position (is_same types s) policy ≡ Some i
  first-place i s at declares = by (position (is_same types s) policy) refl
    where
      here : Contains policy s
      here = at-contains policy i s at

      itself : is_same types s s ≡ true
      itself = alike types policy named spelt s s here here declares declares refl

      by : (o : Option ℕ) → position (is_same types s) policy ≡ o → position (is_same types s) policy ≡ Some i
      by None none = absurd (true≢false (sym (any-contained (is_same types s) policy s here itself) ∙ any-position (is_same types s) policy ∙ ap is_some none))
      by (Some m) found =
          let passes = position-Some (is_same types s) policy m s found in
          let m_is : m ≡ i = one-place (is_same types s) policy m i (get_or policy m s) s (declared-once policy once types no-scopes s.namespace (word_text (declared_in types s.form)))
          (slice_get-get_or policy m s passes.0) passes.1 at itself in
          found ∙ ap Some m_is

  -- and it has a name
  pub some-name : (s : Placed) → Contains policy s → is_some (declared_in types s.form) ≡ true → declared_name types s ≡ [] → ⊥
  some-name s there declares none =
      full-name-some s.namespace (word_text (declared_in types s.form)) (spelt-text (declared_in types s.form) declares (named s there).declared) none
