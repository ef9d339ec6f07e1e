-- References that are bound.
use Rattle.cil_bind.proofs.Common.{◌≡◌, ℕ, zero, suc, ◌+◌, ◌≤◌, List, [], ◌∷◌, ◌++◌, length, get_or, take, Option, Some, None, refl, sym, ap, ◌∙◌, subst, arith, map-append, take_all, none-some, same_Some, Word, Placed, Table, leads, references, texts_of, citations_of, cited_by, IsBlockOf, AreCited, IsCited, IsLed, Citation, Row, IsLead, kind_of, StatementKind, AreLeads, AreBound, AreAllLed, AreLed, AreSpaced, IsSpaced, Spells, Statements, bound_rows, kinds_of, leads_at, table_of, namespace_at, AreFrom, IsFrom, NamedModule, ParsedModule, bound_in, placed}
use Rattle.std.proofs.Common.{slice_get}
use Rattle.std.proofs.lemmas.Option.{get_or_from_slice_get, slice_get_within}
use Rattle.cil_parse.proofs.CitationLemmas.{cited-are}
use Rattle.cil_bind.proofs.PositionLemmas.{take-last}

module _ {A : Type 0} (names spaces : List (List ℕ)) (policy : List Placed) (p : ParsedModule A) (from : List ℕ) where
  -- a reference leads where what it looks up leads
  pub cited-lead : (name : List ℕ) (statements : Statements) (index block : ℕ) (namespace : List (List ℕ)) (r : Table × Word) (n : ℕ) (c : Citation) (found : Option ℕ) → Spells p statements
      → IsBlockOf (placed name [] [] statements) index block namespace → IsSpaced names spaces p from → slice_get (citations_of p) n ≡ Some c → IsCited (texts_of p) block r c
      → IsLed names spaces (texts_of p) policy c (get_or from n 0) found → IsLead r.0 policy found (leads policy r.0 namespace r.1.text)
  cited-lead name statements index block namespace r n c found spells inside spaced at cited led =
      let table = cited.0 in
      let within = cited.1 in
      let text = cited.2 in
      let space = spaced n c at in
      let here : namespace_at names spaces (get_or from n 0) ≡ namespace =
      space.1 name statements index namespace spells (subst (λ b. IsBlockOf (placed name [] [] statements) index b namespace) (sym within) inside) in
      let lead = led (slice_get_within (texts_of p) c.text r.1.text text) space.0 in
      let is : get_or (texts_of p) c.text [] ≡ r.1.text = get_or_from_slice_get (texts_of p) c.text r.1.text [] text in
      subst (λ t. IsLead t policy found (leads policy t namespace r.1.text)) table
      (subst (λ x. IsLead (table_of c.table) policy found (leads policy (table_of c.table) namespace x)) is
      (subst (λ m. IsLead (table_of c.table) policy found (leads policy (table_of c.table) m (get_or (texts_of p) c.text []))) here lead))

  -- the references of a statement lead where what they look up leads
  refs-lead : (leads_of : List (Option ℕ)) (name : List ℕ) (statements : Statements) (index block : ℕ) (namespace : List (List ℕ)) (refs : List (Table × Word)) (numbers : List ℕ) → Spells p statements
      → IsBlockOf (placed name [] [] statements) index block namespace → IsSpaced names spaces p from → AreLed names spaces (texts_of p) policy (citations_of p) from leads_of
      → AreCited (texts_of p) (citations_of p) block refs numbers → AreLeads policy namespace refs (leads_at leads_of numbers)
  refs-lead leads_of name statements index block namespace [] [] spells inside spaced led cited = tt
  refs-lead leads_of name statements index block namespace [] (n ∷ numbers) spells inside spaced led cited = absurd cited
  refs-lead leads_of name statements index block namespace (r ∷ refs) [] spells inside spaced led cited = absurd cited
  refs-lead leads_of name statements index block namespace (r ∷ refs) (n ∷ numbers) spells inside spaced led ((c, at, cited), others) = (
    cited-lead name statements index block namespace r n c (get_or leads_of n None) spells inside spaced at cited (led n c at),
    refs-lead leads_of name statements index block namespace refs numbers spells inside spaced led others,
  )

module _ {A : Type 0} (names spaces : List (List ℕ)) (policy : List Placed) (parsed : List (NamedModule A)) (from : List (List ℕ)) (leads_of : List (List (Option ℕ))) where
  row-bound : (row : Row) (s : Placed) → IsFrom parsed row s → AreSpaced names spaces parsed from → AreAllLed names spaces policy parsed from leads_of
      → AreLeads policy s.namespace (references s.form) (bound_in (slice_get parsed row.«module») (get_or leads_of row.«module» []) row.index)
  row-bound row s is spaced led =
      subst (λ m. AreLeads policy s.namespace (references s.form) (bound_in m (get_or leads_of row.«module» []) row.index)) (sym is.at)
      (subst (λ f. AreLeads policy s.namespace (references f) (leads_at (get_or leads_of row.«module» []) (cited_by is.m.«module».now row.index))) is.form
      (refs-lead names spaces policy is.m.«module».now (get_or from row.«module» []) (get_or leads_of row.«module» []) is.around.0 is.statements is.around.1 is.f.block s.namespace
      (references is.f.form) (cited_by is.m.«module».now row.index) is.spells is.around.2 (spaced row.«module» is.m is.at) (led row.«module» is.m is.at)
      (cited-are is.m.«module».now row.index is.statements is.f is.within is.spells is.is)))

  pub rows-bound : (rows : List Row) (statements : List Placed) → AreFrom parsed rows statements → AreSpaced names spaces parsed from → AreAllLed names spaces policy parsed from leads_of
      → AreBound policy statements (bound_rows parsed leads_of rows)
  rows-bound [] [] are spaced led = tt
  rows-bound [] (s ∷ statements) are spaced led = absurd are
  rows-bound (row ∷ rows) [] are spaced led = absurd are
  rows-bound (row ∷ rows) (s ∷ statements) are spaced led = (row-bound row s are.0 spaced led, rows-bound rows statements are.1 spaced led)

pub bound-length : (policy statements : List Placed) (bound : List (List (Option ℕ))) → AreBound policy statements bound → length bound ≡ length statements
bound-length policy [] [] are = refl
bound-length policy [] (b ∷ bound) are = absurd are
bound-length policy (s ∷ statements) [] are = absurd are
bound-length policy (s ∷ statements) (b ∷ bound) are = ap suc (bound-length policy statements bound are.1)

-- the references of a statement are bound
pub bound-at : (policy statements : List Placed) (bound : List (List (Option ℕ))) (i : ℕ) (s : Placed) → AreBound policy statements bound → slice_get statements i ≡ Some s
    → AreLeads policy s.namespace (references s.form) (get_or bound i [])
bound-at policy [] bound i s are at = absurd (none-some s at)
bound-at policy (t ∷ statements) [] i s are at = absurd are
bound-at policy (t ∷ statements) (b ∷ bound) zero s are at = subst (λ u. AreLeads policy u.namespace (references u.form) b) (same_Some t s at) are.0
bound-at policy (t ∷ statements) (b ∷ bound) (suc i) s are at = bound-at policy statements bound i s are.1 at

-- one kind more
pub kinds-push : (statements : List Placed) (s : Placed) (old new : List StatementKind) (kind : StatementKind) → old ≡ kinds_of statements → kind ≡ kind_of s.form → new ≡ old ++ kind ∷ [] → new ≡ kinds_of (statements ++ s ∷ [])
kinds-push statements s old new kind so_far is pushed = pushed ∙ (λ k. so_far k ++ is k ∷ []) ∙ sym (map-append (λ t. kind_of t.form) statements (s ∷ []))

pub kinds-next : (policy : List Placed) (i : ℕ) (s : Placed) (old new : List StatementKind) (kind : StatementKind) → slice_get policy i ≡ Some s → old ≡ kinds_of (take i policy) → kind ≡ kind_of s.form → new ≡ old ++ kind ∷ []
    → new ≡ kinds_of (take (i + 1) policy)
kinds-next policy i s old new kind at so_far is pushed = kinds-push (take i policy) s old new kind so_far is pushed ∙ ap kinds_of (sym (take-last policy i s at))

from-length : {A : Type 0} (parsed : List (NamedModule A)) (rows : List Row) (policy : List Placed) → AreFrom parsed rows policy → length rows ≡ length policy
from-length parsed [] [] are = refl
from-length parsed [] (s ∷ policy) are = absurd are
from-length parsed (row ∷ rows) [] are = absurd are
from-length parsed (row ∷ rows) (s ∷ policy) are = ap suc (from-length parsed rows policy are.1)

pub kinds-all : {A : Type 0} (parsed : List (NamedModule A)) (rows : List Row) (policy : List Placed) (i : ℕ) (kinds : List StatementKind) → AreFrom parsed rows policy → length rows ≤ i → kinds ≡ kinds_of (take i policy) → kinds ≡ kinds_of policy
kinds-all parsed rows policy i kinds are past so_far =
    let long = from-length parsed rows policy are in
    so_far ∙ ap kinds_of (take_all i policy (omega arith))

-- the kind of a statement
pub kind-at : (policy : List Placed) (kinds : List StatementKind) (i : ℕ) (s : Placed) (d : StatementKind) → kinds ≡ kinds_of policy → slice_get policy i ≡ Some s → get_or kinds i d ≡ kind_of s.form
kind-at policy kinds i s d are at = ap (λ l. get_or l i d) are ∙ there policy i at
  where
    there : (xs : List Placed) (i : ℕ) → slice_get xs i ≡ Some s → get_or (kinds_of xs) i d ≡ kind_of s.form
    there [] i e = absurd (none-some s e)
    there (x ∷ xs) zero e = ap (λ t. kind_of t.form) (same_Some x s e)
    there (x ∷ xs) (suc i) e = there xs i e
