-- What is seen of the statements of a bound policy.
use Rattle.cil_check.proofs.Common.{◌≡◌, ℕ, zero, suc, ◌<◌, List, [], ◌∷◌, length, map, get_or, Option, Some, None, refl, sym, ap, ◌∙◌, subst, arith, length-map, none-some, same_Some, slice_get-get_or, slice_get_within, get_or_from_slice_get, Word, Form, rule, anonymous, itself, the_named, Placed, Table, leads, references, read, Statements, AreNumbersOf, kind_of, words_in, texts_of, Spells, NumberedWord, IsLead, IsOf, IsSeen, Reads, test_of, is_kind, Seen}
use Rattle.std.proofs.Common.{slice_get}
use Rattle.std.specs.Borrow.{Bor}
use Rattle.cil_parse.specs.Flat.{FlatStatement, flat}
use Rattle.cil_parse.specs.View.{IsShown}
use Rattle.cil_parse.specs.declared.view.StatementView.{StatementView}
use Rattle.cil_bind.specs.Binding.{AreLeads}
use Rattle.cil_bind.specs.Scope.{IsFrom}
use Rattle.cil_bind.specs.declared.joined.NamedModule.{NamedModule}
use Rattle.cil_bind.specs.declared.rows.Row.{Row}
pub use Rattle.cil_bind.proofs.BindingLemmas.{bound-at}
use Rattle.cil_bind.proofs.DeclareLemmas.{rows-length}
use Rattle.cil_bind.proofs.FromLemmas.{from-at, is-there, IsThere}
use Rattle.cil_check.specs.declared.bound.BoundPolicy.{BoundPolicy}
use Rattle.cil_check.specs.declared.kinds.Kind.{Kind}
use Rattle.cil_check.specs.declared.kinds.Kind.TheVariants.{«Type», Alias, Attribute}

pub is-long : {A : Type 0} (b : BoundPolicy A) (policy : List Placed) → IsOf b policy → length b.policy.now.rows.items ≡ length policy
is-long b policy is =
    rows-length b.policy.now.names b.policy.now.lookup.namespaces b.policy.now.rows.items policy is.bound.stands.rows_are

pub kinds-long : {A : Type 0} (b : BoundPolicy A) (policy : List Placed) → IsOf b policy → length b.policy.now.kinds.items ≡ length policy
kinds-long b policy is = ap length is.bound.kinds ∙ length-map policy (λ s. kind_of s.form)

-- a reference leads where it is bound to
pub lead-of : (policy : List Placed) (namespace : List (List ℕ)) (refs : List (Table × Word)) (bound : List (Option ℕ)) (k : ℕ) (r : Table × Word) → AreLeads policy namespace refs bound → slice_get refs k ≡ Some r
    → IsLead r.0 policy (get_or bound k None) (leads policy r.0 namespace r.1.text)
lead-of policy namespace [] bound k r are at = absurd (none-some r at)
lead-of policy namespace (q ∷ refs) [] k r are at = absurd are
lead-of policy namespace (q ∷ refs) (b ∷ bound) zero r are at = subst (λ p. IsLead p.0 policy b (leads policy p.0 namespace p.1.text)) (same_Some q r at) are.0
lead-of policy namespace (q ∷ refs) (b ∷ bound) (suc k) r are at = lead-of policy namespace refs bound k r are.1 at

-- a word that is shown
pub read-of : (texts : List (List ℕ)) (shown : List NumberedWord) (words : List Word) (k : ℕ) (word : Word) → map (read texts) shown ≡ map Some words → slice_get words k ≡ Some word
    → (w : NumberedWord) × (slice_get shown k ≡ Some w) × (read texts w ≡ Some word)
read-of texts shown [] k word is at = absurd (none-some word at)
read-of texts [] (v ∷ words) k word is at = cc
read-of texts (w ∷ shown) (v ∷ words) zero word is at = (w, refl, (let head : read texts w ≡ Some v = cc in head ∙ at))
read-of texts (w ∷ shown) (v ∷ words) (suc k) word is at = let rest : map (read texts) shown ≡ map {A = Word} Some words = cc in read-of texts shown words k word rest at

pub seen-kind : {A : Type 0} (seen : Seen A) (policy : List Placed) (s : Placed) → IsSeen seen policy s → seen.view.kind ≡ kind_of s.form
seen-kind seen policy s is = is.shown.kind ∙ ap kind_of is.form

-- a lead of a statement that is seen
pub seen-lead : {A : Type 0} (seen : Seen A) (policy : List Placed) (s : Placed) (k : ℕ) (table : Table) (word : Word) → IsSeen seen policy s → slice_get (references s.form) k ≡ Some (table, word)
    → IsLead table policy (get_or seen.bound k None) (leads policy table s.namespace word.text)
seen-lead seen policy s k table word is at = lead-of policy s.namespace (references s.form) seen.bound k (table, word) is.leads_are at

-- and a word
pub seen-word : {A : Type 0} (seen : Seen A) (policy : List Placed) (s : Placed) (k : ℕ) (word : Word) → IsSeen seen policy s → slice_get (words_in s.form) k ≡ Some word
    → Reads seen (slice_get seen.view.words.now k) (Some word)
seen-word seen policy s k word is at =
    let (w, here, reads) = read-of (texts_of seen.«module».now) seen.view.words.now (words_in s.form) k word (is.shown.words ∙ ap (λ f. map Some (words_in f)) is.form) at in
    ap (λ o. by o) here ∙ ap Some reads
  where
    by : Option NumberedWord → Option (Option Word)
    by o = elim o [ Some w ↦ Some (read (texts_of seen.«module».now) w) | None ↦ None ]

-- the kind of a statement tells what it declares
pub kind-form : (kind : Kind) (form : Form) → is_kind kind (kind_of form) ≡ test_of kind form
kind-form «Type» (rule kind source itself (anonymous the_class permissions)) = refl
kind-form «Type» (rule kind source (the_named word) (anonymous the_class permissions)) = refl
kind-form Alias (rule kind source itself (anonymous the_class permissions)) = refl
kind-form Alias (rule kind source (the_named word) (anonymous the_class permissions)) = refl
kind-form Attribute (rule kind source itself (anonymous the_class permissions)) = refl
kind-form Attribute (rule kind source (the_named word) (anonymous the_class permissions)) = refl
kind-form _ _ = refl

-- the statement at a place
pub there-at : (policy : List Placed) (i : ℕ) → i < length policy → (s : Placed) × (slice_get policy i ≡ Some s)
there-at [] i less = absurd (omega (arith, less))
there-at (s ∷ policy) zero less = (s, refl)
there-at (s ∷ policy) (suc i) less = there-at policy i (omega (arith, less))

-- the statement of a row
pub row-there : {A : Type 0} (b : BoundPolicy A) (policy : List Placed) (i : ℕ) (row : Row) → IsOf b policy → i < length policy → row ≡ get_or b.policy.now.rows.items i row
    → (s : Placed) × (slice_get policy i ≡ Some s) × IsFrom b.joined.now.modules.items row s
row-there b policy i row is less here =
    let long = is-long b policy is in
    from-at b.joined.now.modules.items b.policy.now.rows.items policy i row is.bound.from (slice_get-get_or b.policy.now.rows.items i row (omega (arith, less, long)) ∙ ap Some (sym here))

-- and its statement
pub form-there : {A : Type 0} (b : BoundPolicy A) (policy : List Placed) (i : ℕ) (row : Row) (d : NamedModule A) (s : Placed) → IsOf b policy → slice_get policy i ≡ Some s
    → row ≡ get_or b.policy.now.rows.items i row → d ≡ get_or b.joined.now.modules.items row.«module» d → IsThere b.joined.now.modules.items row d s
form-there b policy i row d s is at here there =
    let (t, found, from) = row-there b policy i row is (slice_get_within policy i s at) here in
    subst (IsThere b.joined.now.modules.items row d) (same_Some t s (sym found ∙ at)) (is-there b.joined.now.modules.items row d t from there)

-- what is seen of it
pub seen-there : {A : Type 0} (b : BoundPolicy A) (policy : List Placed) (i : ℕ) (row : Row) (d : NamedModule A) (view : StatementView) (bound : List (Option ℕ)) (words : Bor (List ℕ)) (s : Placed) → IsOf b policy → slice_get policy i ≡ Some s
    → row ≡ get_or b.policy.now.rows.items i row → d ≡ get_or b.joined.now.modules.items row.«module» d
    → ((statements : Statements) (f : FlatStatement) → Spells d.«module».now statements → slice_get (flat 0 0 0 statements) row.index ≡ Some f → IsShown (texts_of d.«module».now) view f)
    → AreLeads policy s.namespace (references s.form) bound → IsSeen (record { «module» = d.«module»; name = d.name; view = view; bound = bound; words = words }) policy s
seen-there b policy i row d view bound words s is at here there shown bound_are = record {
  f = t.f;
  shown = shown t.statements t.f t.spells t.is;
  form = t.form ∙ ap (λ u. u.form) one;
  place = t.place ∙ ap (λ u. u.at) one;
  named = ap (λ m. m.name.now) (there ∙ get_or_from_slice_get b.joined.now.modules.items row.«module» from.2.m d from.2.at) ∙ from.2.named ∙ ap (λ u. u.module_name) one;
  leads_are = bound_are;
}
  where
    from : (t : Placed) × (slice_get policy i ≡ Some t) × IsFrom b.joined.now.modules.items row t
    from = row-there b policy i row is (slice_get_within policy i s at) here

    one : from.0 ≡ s
    one = same_Some from.0 s (sym from.1 ∙ at)

    t : IsThere b.joined.now.modules.items row d from.0
    t = is-there b.joined.now.modules.items row d from.0 from.2 there

-- the number of a word that is one name
pub number-of : (names : List (List ℕ)) (numbers : List ℕ) (all : List (List ℕ)) (path : List ℕ) (text : List ℕ) → AreNumbersOf names numbers all → AreNumbersOf all path (text ∷ [])
    → slice_get names (get_or numbers (get_or path 0 0) 0) ≡ Some text
number-of names numbers all [] text numbered single = cc
number-of names numbers all (k ∷ rest) text numbered single = numbered-at numbers all k numbered (head-same (slice_get all k) (Some text) (map (slice_get all) rest) [] single)
  where
    head-same : {X : Type 0} (x y : X) (xs ys : List X) → x ∷ xs ≡ y ∷ ys → x ≡ y
    head-same x y xs ys e = cc

    numbered-at : (numbers : List ℕ) (all : List (List ℕ)) (k : ℕ) → map (slice_get names) numbers ≡ map Some all → slice_get all k ≡ Some text → slice_get names (get_or numbers k 0) ≡ Some text
    numbered-at numbers [] k e at = absurd (none-some text at)
    numbered-at [] (name ∷ all) k e at = cc
    numbered-at (n ∷ numbers) (name ∷ all) zero e at = head-same (slice_get names n) (Some name) (map (slice_get names) numbers) (map Some all) e ∙ at
    numbered-at (n ∷ numbers) (name ∷ all) (suc k) e at = let rest : map (slice_get names) numbers ≡ map {A = List ℕ} Some all = cc in numbered-at numbers all k rest at
