-- Names that are declared again.
use Rattle.cil_bind.proofs.Common.{◌≡◌, ◌⊎◌, inl, inr, ℕ, ◌+◌, ◌<◌, Bool, true, false, cond, get_or, List, [], ◌∷◌, ◌++◌, length, take, drop, Option, Some, None, refl, sym, ap, ◌∙◌, subst, Contains, arith, AllByRecursion, list_any, none-some, same_Some, slice_get-get_or, slice_get_within, Word, Placed, Table, declared_in, Form, Optionals, AreApart, judged, IsFirst, IsFirstFault, contains-first, contains-cases, contains-other, contains-map, stands, same_place, later, earlier, table_in, table-in, twice-some, twice-nothing, offsets_in, offsets_of, IsBefore, AreOrdered, IsLeast, IsTold, IsFirstAgain, fault_of, AreRows, IsOnce, DeclareThat, IsFrom, AreFrom, NamedModule, Row}
use Rattle.std.proofs.Common.{slice_get}
use Rattle.cil_specs.specs.PolicyFault.{PolicyFaultKind, twice, code_of, PolicyFault, is_again, twice_words, IsFaultOf, IsNoLater}
use Rattle.cil_specs.proofs.ExistsLemmas.{kept-exists}
use Rattle.cil_specs.proofs.PartLemmas.{all-middle}
use Rattle.cil_specs.proofs.OrderLemmas.{offset_of}
use Rattle.cil_specs.proofs.FaultWords.{words_in, word-offsets, faulty-word}
use Rattle.cil_bind.specs.declared.declarations.Declared.{Declared}
use Rattle.cil_bind.specs.declared.declarations.Declared.TheVariants.{Twice}
use Rattle.cil_bind.specs.declared.redeclaration.Redeclaration.{Redeclaration}
use Rattle.cil_bind.proofs.DeclareLemmas.{rows-length}
use Rattle.cil_bind.proofs.FromLemmas.{from-at}
use Rattle.cil_bind.proofs.PositionLemmas.{around-at}
use Rattle.cil_bind.proofs.OrderedLemmas.{IsAmidst, ordered-amidst}

-- the fault at a word
abbrev again_at : Placed → Word → PolicyFault
again_at s word = record { kind = twice; module_name = s.module_name; at = word.at; word = word.text }

-- a word that is declared again is one of its statement
word-offset : (before : List Placed) (s : Placed) (w : Word) → Contains (twice_words before s) w → Contains (offsets_of s) w.at.offset
word-offset before s w c =
    contains-other s.at.offset (offsets_in s.form) w.at.offset
    (subst (λ ns. Contains ns w.at.offset) (word-offsets s.form) (contains-map offset_of (words_in s.form) w (faulty-word twice [] before s w c)))

no-later : (s t : Placed) (v w : Word) → IsBefore s t → Contains (offsets_of s) v.at.offset → Contains (offsets_of t) w.at.offset → IsNoLater (again_at s v) (again_at t w)
no-later s t v w (inl less) c d = inr (refl, inl less)
no-later s t v w (inr (same, rise)) c d = inr (refl, inr (same, (let less : v.at.offset < w.at.offset = rise v.at.offset w.at.offset c d in omega arith)))

-- the first statement whose name is declared already has the least fault
least-at : (policy : List Placed) (i : ℕ) (s : Placed) (word : Word) → AreOrdered policy → slice_get policy i ≡ Some s → IsOnce (take i policy) → twice_words (take i policy) s ≡ word ∷ []
    → IsLeast (IsFaultOf twice policy) (again_at s word)
least-at policy i s word ordered at once faulty = record {
  is = record { before = take i policy; s = s; after = drop (i + 1) policy; word = word; split = split; is_faulty = own; is_at = refl };
  first = λ other is. subst (IsNoLater (again_at s word)) (sym is.is_at) (no-earlier other is);
}
  where
    split : policy ≡ take i policy ++ s ∷ drop (i + 1) policy
    split = around-at policy i s at

    amidst : IsAmidst (take i policy) s (drop (i + 1) policy)
    amidst = ordered-amidst (take i policy) s (drop (i + 1) policy) (subst AreOrdered split ordered)

    own : Contains (twice_words (take i policy) s) word
    own = subst (λ l. Contains l word) (sym faulty) (contains-first word [])

    one : (w : Word) → Contains (word ∷ []) w → word ≡ w
    one w c = elim (contains-cases word [] w c) [
      | inl same ↦ same
      | inr none ↦ absurd (omega (arith, none.1))
    ]

    no-earlier : (other : PolicyFault) (is : IsFaultOf twice policy other) → IsNoLater (again_at s word) (again_at is.s is.word)
    no-earlier other is = elim (stands (take i policy) s (drop (i + 1) policy) is.before is.s is.after (sym split ∙ is.split)) [
      | same_place same t ↦
          let contained : Contains (word ∷ []) is.word = subst (λ l. Contains l is.word) (ap (λ b. twice_words b is.s) same ∙ ap (twice_words (take i policy)) t ∙ faulty) is.is_faulty in
          let offset = ap (λ w. w.at.offset) (one is.word contained) in
          inr (refl, inr (ap (λ p. p.module_name) (sym t), omega (arith, offset)))
      | later between others front behind ↦
          no-later s is.s word is.word (all-middle (IsBefore s) between is.s others (subst (λ l. AllByRecursion (IsBefore s) l) behind amidst.in_front))
          (word-offset (take i policy) s word own) (word-offset is.before is.s is.word is.is_faulty)
      | earlier between front ↦
          absurd (once other record { before = is.before; s = is.s; after = between; word = is.word; split = front; is_faulty = is.is_faulty; is_at = is.is_at })
    ]

pub least-again : (policy : List Placed) (again : Redeclaration) → AreOrdered policy → IsFirstAgain policy again → IsLeast (IsFaultOf twice policy) (fault_of again)
least-again policy again ordered is =
    subst (IsLeast (IsFaultOf twice policy)) (λ k. record { kind = twice; module_name = sym is.told.named k; at = sym is.told.place k; word = sym is.told.text k })
    (least-at policy is.place is.s is.word ordered is.at is.once is.is_twice)

-- no fault of another kind is earlier
kind-later : (kind : PolicyFaultKind) (policy : List Placed) (fault other : PolicyFault) → IsLeast (IsFaultOf twice policy) fault → fault.kind ≡ twice → other.kind ≡ kind → IsFaultOf twice policy other ⊎ (code_of twice < code_of kind) → IsNoLater fault other
kind-later kind policy fault other least own is (inl same) = least.first other same
kind-later kind policy fault other least own is (inr less) = inl (let a = ap code_of own in let b = ap code_of is in omega (arith, less, a, b))

-- so it is the first of all faults, whatever is kept
first-of : (policy : List Placed) (kept : Optionals) (fault : PolicyFault) → fault.kind ≡ twice → IsLeast (IsFaultOf twice policy) fault → IsFirst kept policy fault
first-of policy kept fault own least = record {
  is = subst (λ kind. IsFaultOf kind (judged kind kept policy) fault) (sym own) least.is;
  first = λ other is. kind-later other.kind policy fault other least own refl (by other.kind is);
}
  where
    by : {other : PolicyFault} (kind : PolicyFaultKind) → IsFaultOf kind (judged kind kept policy) other → IsFaultOf twice policy other ⊎ (code_of twice < code_of kind)
    by twice is = inl is
    by _ is = inr (omega arith)

pub first-fault-again : (policy : List Placed) (again : Redeclaration) → AreApart policy → AreOrdered policy → IsFirstAgain policy again → IsFirstFault policy (fault_of again)
first-fault-again policy again apart ordered is =
    let kept = kept-exists policy apart in
    (kept.0, kept.1, first-of policy kept.0 (fault_of again) refl (least-again policy again ordered is))

-- what is declared again is declared
pub declares-again : (before : List Placed) (s : Placed) (word : Word) → twice_words before s ≡ word ∷ [] → (table : Table) × (declared_in table s.form ≡ Some word)
declares-again before s word is = (table_in s.form, by (declared_in (table_in s.form) s.form) refl)
  where
    never : (v : Word) (l : List Word) → [] ≡ v ∷ l → ⊥
    never v l e = cc

    chosen : (b : Bool) (w : Word) → cond b (w ∷ []) [] ≡ word ∷ [] → w ≡ word
    chosen true w e = ap (λ l. get_or l 0 w) e
    chosen false w e = absurd (never word [] e)

    nothing : declared_in (table_in s.form) s.form ≡ None → (table : Table) (o : Option Word) → declared_in table s.form ≡ o → o ≡ None
    nothing none table None e = refl
    nothing none table (Some w) e = absurd (none-some w (sym none ∙ ap (λ t. declared_in t s.form) (sym (table-in table s.form w e)) ∙ e))

    by : (o : Option Word) → declared_in (table_in s.form) s.form ≡ o → declared_in (table_in s.form) s.form ≡ Some word
    by None e = absurd (never word [] (sym (twice-nothing before s (λ table. nothing e table (declared_in table s.form) refl)) ∙ is))
    by (Some w) e = e ∙ ap Some (chosen (list_any (is_again (table_in s.form) s w) before) w (sym (twice-some before s (table_in s.form) w e) ∙ is))

-- a statement declares one word
pub declares-one : (t u : Table) (form : Form) (v w : Word) → declared_in t form ≡ Some v → declared_in u form ≡ Some w → v ≡ w
declares-one t u form v w a b = same_Some v w (sym a ∙ ap (λ k. declared_in k form) (table-in t form v a ∙ sym (table-in u form w b)) ∙ b)

-- What is told of the first name that is declared again.
pub twice-there : {A : Type 0} (parsed : List (NamedModule A)) (names spaces : List (List ℕ)) (rows : List Row) (policy : List Placed) (place : ℕ) (row : Row) (declared : Declared A) → AreFrom parsed rows policy → DeclareThat names spaces policy declared
    → declared ≡ Twice place → row ≡ get_or rows place row → place < length rows → (s : Placed) × (table : Table) × (word : Word) × IsFrom parsed row s × (declared_in table s.form ≡ Some word)
twice-there parsed names spaces rows policy place row declared from that is here low =
    let found = subst (DeclareThat names spaces policy) is that in
    let it = from-at parsed rows policy place row from (slice_get-get_or rows place row low ∙ ap Some (sym here)) in
    let same : found.1.0 ≡ it.0 = same_Some found.1.0 it.0 (sym found.1.2 ∙ it.1) in
    let again = declares-again (take place policy) found.1.0 found.1.1 found.1.3 in
    (it.0, again.0, found.1.1, it.2, subst (λ s. declared_in again.0 s.form ≡ Some found.1.1) same again.1)

pub first-again : {A : Type 0} (parsed : List (NamedModule A)) (names spaces : List (List ℕ)) (rows : List Row) (policy : List Placed) (place : ℕ) (row : Row) (declared : Declared A) (again : Redeclaration) → AreFrom parsed rows policy
    → DeclareThat names spaces policy declared → declared ≡ Twice place → row ≡ get_or rows place row → place < length rows
    → ((s : Placed) (table : Table) (word : Word) → IsFrom parsed row s → declared_in table s.form ≡ Some word → IsTold again s word) → IsFirstAgain policy again
first-again parsed names spaces rows policy place row declared again from that is here low tells =
    let found = subst (DeclareThat names spaces policy) is that in
    let it = from-at parsed rows policy place row from (slice_get-get_or rows place row low ∙ ap Some (sym here)) in
    let same : found.1.0 ≡ it.0 = same_Some found.1.0 it.0 (sym found.1.2 ∙ it.1) in
    let declares = declares-again (take place policy) found.1.0 found.1.1 found.1.3 in
    record {
      place = place;
      s = found.1.0;
      word = found.1.1;
      once = found.0;
      at = found.1.2;
      is_twice = found.1.3;
      told = tells found.1.0 declares.0 found.1.1 (subst (IsFrom parsed row) (sym same) it.2) declares.1;
    }

pub twice-within : {A : Type 0} (names spaces : List (List ℕ)) (rows : List Row) (policy : List Placed) (place : ℕ) (declared : Declared A) → AreRows names spaces rows policy → DeclareThat names spaces policy declared → declared ≡ Twice place → place < length rows
twice-within names spaces rows policy place declared are that is =
    let found = subst (DeclareThat names spaces policy) is that in
    subst (λ n. place < n) (sym (rows-length names spaces rows policy are)) (slice_get_within policy place found.1.0 found.1.2)
