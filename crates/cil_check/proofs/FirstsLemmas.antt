-- What statements give to declarations, and which gives it first.
use Rattle.cil_check.proofs.Common.{◌≡◌, ℕ, ◌+◌, get_or, Bool, true, false, ◌==◌, List, [], ◌∷◌, ◌++◌, take, cond, Option, Some, None, is_some, position, refl, sym, ap, ◌∙◌, true≢false, if◌then◌else◌, option_or, option_and_then, none-some, same_Some, get_or_from_slice_get, slice_get-get_or, eqb-true, eq-eqb, position-Some, Word, Form, block, Placed, Table, declared_in, declares, same_namespace, is_word, is_same, word_text, holds_of, leads, first_true, second_true, IsFirstOf, IsLead, first_at, with_first, association_table, given_word, given_lead, gives, HasFirstsOf, Association, Actual, Common, bytes_eq-true, at_if}
use Rattle.std.proofs.Common.{slice_get}
use Rattle.cil_specs.proofs.DeclaredLemmas.{one-namespace}
use lib.Dec.{eqb}
use Rattle.indexmap.specs.IndexMap.{IndexMap, get, insert_entry}
use Rattle.indexmap.proofs.CallerLemmas.{insert_entry-new}
use Rattle.cil_check.proofs.PositionLemmas.{position-same, position-next}

-- what a statement gives something to is where its word leads
pub gives-lead : (association : Association) (policy : List Placed) (s t : Placed) → gives association policy s t ≡ holds_of (is_same (association_table association) s) (given_lead association policy t)
gives-lead association policy s t = by association t.form
  where
    by : (association : Association) (form : Form) → gives association policy s (record { module_name = t.module_name; at = t.at; form = form; namespace = t.namespace; optionals = t.optionals })
        ≡ holds_of (is_same (association_table association) s) (option_and_then (λ w. leads policy (association_table association) t.namespace w.text) (given_word association form))
    by Actual (block id) = refl
    by Common (block id) = refl
    by _ _ = refl

word-text : (name : List ℕ) (o : Option Word) → is_word name o ≡ true → word_text o ≡ name
word-text name None e = absurd (true≢false (sym e))
word-text name (Some w) e = bytes_eq-true w.text name e

-- two that declare one name are told alike
pub same-test : (table : Table) (s t : Placed) → is_same table s t ≡ true → (u : Placed) → is_same table s u ≡ is_same table t u
same-test table s t e u =
    let name = word_text (declared_in table s.form) in
    let named = word-text name (declared_in table t.form) (first_true (is_word name (declared_in table t.form)) (same_namespace t.namespace s.namespace) e) in
    let spaced = one-namespace t.namespace s.namespace (second_true (is_word name (declared_in table t.form)) (same_namespace t.namespace s.namespace) e) in
    ap (λ n. declares table s.namespace n u) (sym named) ∙ ap (λ n. declares table n (word_text (declared_in table t.form)) u) (sym spaced)

-- the first that declares a name declares it
pub first-itself : (table : Table) (policy : List Placed) (i : ℕ) (s : Placed) → slice_get policy i ≡ Some s → IsFirstOf table policy i → is_same table s s ≡ true
first-itself table policy i s is first =
    ap (is_same table s) (sym (get_or_from_slice_get policy i s s is)) ∙ (position-Some (is_same table s) policy i s (first s is)).1

-- of two that are the first of their names, both declare one name exactly if they stand at one place
pub first-same : (table : Table) (policy : List Placed) (i k : ℕ) (s t : Placed) → slice_get policy i ≡ Some s → IsFirstOf table policy i → slice_get policy k ≡ Some t
    → IsFirstOf table policy k → is_same table s t ≡ (i == k)
first-same table policy i k s t is first at earliest = by (is_same table s t) (i == k) refl refl
  where
    by : (b c : Bool) → is_same table s t ≡ b → (i == k) ≡ c → b ≡ c
    by true true e f = refl
    by false false e f = refl
    by true false e f =
        let one : i ≡ k = same_Some i k (sym (first s is) ∙ position-same (is_same table s) (is_same table t) (same-test table s t e) policy ∙ earliest t at) in
        sym (eq-eqb i k one) ∙ f
    by false true e f =
        let one : s ≡ t = same_Some s t (sym is ∙ ap (slice_get policy) (eqb-true i k f) ∙ at) in
        sym e ∙ ap (is_same table s) (sym one) ∙ first-itself table policy i s is first

-- the places with that of a statement, if it gives something
abbrev pub with_found : List (ℕ × ℕ) → Option ℕ → ℕ → List (ℕ × ℕ)
with_found entries None place = entries
with_found entries (Some to) place = with_first entries to place

lookup-last : (entries : List (ℕ × ℕ)) (i k place : ℕ) → first_at (entries ++ (k, place) ∷ []) i ≡ option_or (first_at entries i) (at_if (i == k) place)
lookup-last [] i k place = refl
lookup-last (e ∷ entries) i k place = by (i == e.0) (lookup-last entries i k place)
  where
    by : (b : Bool) → first_at (entries ++ (k, place) ∷ []) i ≡ option_or (first_at entries i) (at_if (i == k) place)
        → cond b (Some e.1) (first_at (entries ++ (k, place) ∷ []) i) ≡ option_or (cond b (Some e.1) (first_at entries i)) (at_if (i == k) place)
    by true more = refl
    by false more = more

noted-at : (entries : List (ℕ × ℕ)) (i k place : ℕ) → first_at (with_first entries k place) i ≡ option_or (first_at entries i) (at_if (i == k) place)
noted-at entries i k place = by (first_at entries k) refl
  where
    there : (x : ℕ) → first_at entries k ≡ Some x → (b : Bool) → (i == k) ≡ b → first_at entries i ≡ option_or (first_at entries i) (at_if b place)
    there x e true same =
        let here : first_at entries i ≡ Some x = ap (first_at entries) (eqb-true i k same) ∙ e in
        here ∙ ap (λ o. option_or o (Some place)) (sym here)
    there x e false same = none (first_at entries i)
      where
        none : (o : Option ℕ) → o ≡ option_or o None
        none None = refl
        none (Some n) = refl

    by : (o : Option ℕ) → first_at entries k ≡ o → first_at (if is_some o then entries else entries ++ (k, place) ∷ []) i ≡ option_or (first_at entries i) (at_if (i == k) place)
    by None e = lookup-last entries i k place
    by (Some x) e = there x e (i == k) refl

-- a lead declares the name of the first at a place exactly if it is that place
pub lead-same : (table : Table) (policy : List Placed) (i k : ℕ) (s : Placed) (lead : Option Placed) → slice_get policy i ≡ Some s → IsFirstOf table policy i
    → IsLead table policy (Some k) lead → (i == k) ≡ holds_of (is_same table s) lead
lead-same table policy i k s lead is first led = by (slice_get policy k) refl
  where
    by : (u : Option Placed) → slice_get policy k ≡ u → (i == k) ≡ holds_of (is_same table s) lead
    by None e = absurd (none-some (get_or policy k s) (sym e ∙ slice_get-get_or policy k s led.within))
    by (Some u) e = sym (first-same table policy i k s u is first e led.first) ∙ ap (holds_of (is_same table s)) (sym e ∙ led.is)

-- what is given by one statement more
pub firsts-next : (association : Association) (policy : List Placed) (place : ℕ) (t : Placed) (found : Option ℕ) (old new : List (ℕ × ℕ)) → slice_get policy place ≡ Some t
    → IsLead (association_table association) policy found (given_lead association policy t) → new ≡ with_found old found place
    → HasFirstsOf association policy (take place policy) old → HasFirstsOf association policy (take (place + 1) policy) new
firsts-next association policy place t found old new here led more so_far i s is first =
    ap (λ l. first_at l i) more ∙ by found led
    ∙ ap (λ b. option_or (position (gives association policy s) (take place policy)) (at_if b place)) (sym (gives-lead association policy s t))
    ∙ sym (position-next (gives association policy s) policy place t here)
  where
    same : first_at old i ≡ position (gives association policy s) (take place policy)
    same = so_far i s is first

    none : (o : Option ℕ) → o ≡ option_or o None
    none None = refl
    none (Some n) = refl

    by : (found : Option ℕ) → IsLead (association_table association) policy found (given_lead association policy t)
        → first_at (with_found old found place) i
        ≡ option_or (position (gives association policy s) (take place policy)) (at_if (holds_of (is_same (association_table association) s) (given_lead association policy t)) place)
    by None led = same ∙ none (position (gives association policy s) (take place policy)) ∙ ap (λ o. option_or (position (gives association policy s) (take place policy)) (at_if (holds_of (is_same (association_table association) s) o) place)) led.is
    by (Some k) led =
        noted-at old i k place ∙ ap (λ o. option_or o (at_if (i == k) place)) same
        ∙ ap (λ b. option_or (position (gives association policy s) (take place policy)) (at_if b place)) (lead-same (association_table association) policy i k s (given_lead association policy t) is first led)

-- what an insertion notes where none is noted
pub insert-new : {S : Type 0} (m : IndexMap ℕ ℕ S) (to place : ℕ) (old new : List (ℕ × ℕ)) → m.entries ≡ old → is_some (get eqb m to) ≡ false → new ≡ insert_entry eqb m.entries to place
    → new ≡ with_first old to place
insert-new m to place old new view none inserted =
    inserted ∙ insert_entry-new eqb m to place (absent (get eqb m to) none) ∙ sym (ap (λ b. if b then m.entries else m.entries ++ (to, place) ∷ []) none) ∙ ap (λ l. with_first l to place) view
  where
    absent : (o : Option ℕ) → is_some o ≡ false → o ≡ None
    absent None e = refl
    absent (Some x) e = absurd (true≢false e)
