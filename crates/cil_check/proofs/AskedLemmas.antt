-- Words with faults, as they are read of statements that are seen.
use Rattle.cil_check.proofs.Common.{◌≡◌, ℕ, zero, suc, true, false, Bool, not, ◌&&◌, List, [], ◌∷◌, map, filter, get_or, Option, Some, None, is_some, true≢false, refl, sym, ap, ◌∙◌, subst, take, drop, cond, length, add-one, arith, ◌+◌, ◌<◌, ◌≤◌, if◌then◌else◌, option_map, option_or, option_and_then, none-some, same_Some, slice_get-map, length-map, Word, WordExpr, leaves, Form, alias_actual, attribute_set, class_common, rule, anonymous, by_name, itself, the_named, Placed, Table, types, actual_statement, leads, references, holds_of, is_alias, is_of_another_kind, is_unset, is_unfound, read, kind_of, words_in, texts_of, NumberedWord, IsLead, first_unfound, IsSeen, Reads, word_if, test_of, again_words, first_at, association_table, given_kind, given_word, given_lead, HasFirsts, Seen, Association, Actual, Common, is_before}
use Rattle.std.proofs.Common.{slice_get}
use Rattle.cil_specs.specs.Statements.{RuleKind, Target, ClassPermissions}
use Rattle.cil_parse.specs.declared.row.StatementKind.{StatementKind}
use Rattle.cil_parse.specs.declared.row.StatementKind.TheVariants as kinds
use Rattle.cil_parse.specs.Kinds.{table_of, reference_table}
use Rattle.cil_parse.specs.declared.table.Table as code_table
use Rattle.cil_parse.proofs.ViewLemmas.{references-at}
use Rattle.cil_bind.specs.Binding.{AreLeads}
use Rattle.cil_check.specs.declared.kinds.Kind.{Kind}
use Rattle.cil_check.proofs.SeenLemmas.{lead-of, seen-word}
use Rattle.cil_check.proofs.WordLemmas.{led-at, or-map, filter-one, words-cons, again_if, again-word, again-noted}

-- no word, and one of two
pub reads-none : {A : Type 0} (seen : Seen A) (passes : Bool) (word : Word) (found : Option NumberedWord) → found ≡ None → passes ≡ false → Reads seen found (word_if passes word)
reads-none seen passes word found is fails = ap (option_map (read (texts_of seen.«module».now))) is ∙ ap (λ b. option_map Some (word_if b word)) (sym fails)

pub reads-some : {A : Type 0} (seen : Seen A) (passes : Bool) (word : Word) (found : Option NumberedWord) → Reads seen found (Some word) → passes ≡ true → Reads seen found (word_if passes word)
reads-some seen passes word found is holds = is ∙ ap (λ b. option_map Some (word_if b word)) (sym holds)

pub reads-or : {A : Type 0} (seen : Seen A) (a b : Option NumberedWord) (c d : Option Word) → Reads seen a c → Reads seen b d → Reads seen (option_or a b) (option_or c d)
reads-or seen a b c d e f =
    or-map (read (texts_of seen.«module».now)) a b ∙ ap (λ o. option_or o (option_map (read (texts_of seen.«module».now)) b)) e ∙ ap (option_or (option_map Some c)) f ∙ sym (or-map Some c d)

pub reads-as : {A : Type 0} (seen : Seen A) (found : Option NumberedWord) (c d : Option Word) → Reads seen found c → d ≡ c → Reads seen found d
reads-as seen found c d is same = is ∙ ap (option_map Some) (sym same)

-- a reference that leads nowhere leads to nothing of another kind
pub nowhere-kind : (policy : List Placed) (namespace : List (List ℕ)) (kind : Kind) (word : Word) (found : Option ℕ) → IsLead types policy found (leads policy types namespace word.text) → found ≡ None
    → is_of_another_kind policy namespace (test_of kind, word) ≡ false
nowhere-kind policy namespace kind word found led is = ap (holds_of (λ s. not (test_of kind s.form))) (sym led.is ∙ ap (option_and_then (slice_get policy)) is)

-- and a reference that leads somewhere
pub there-kind : (policy : List Placed) (namespace : List (List ℕ)) (kind : Kind) (word : Word) (place : ℕ) (b : Bool) → IsLead types policy (Some place) (leads policy types namespace word.text)
    → ((s : Placed) → slice_get policy place ≡ Some s → b ≡ test_of kind s.form) → is_of_another_kind policy namespace (test_of kind, word) ≡ not b
there-kind policy namespace kind word place b led is =
    let lead = led-at types policy place (leads policy types namespace word.text) led in
    ap (holds_of (λ s. not (test_of kind s.form))) lead.is ∙ ap not (sym (is lead.s lead.at))

-- statements by their kinds
pub form-set : (form : Form) → kind_of form ≡ kinds.TypeAttributeSet → (attribute : Word) × (expr : WordExpr) × (form ≡ attribute_set attribute expr)
form-set (attribute_set attribute expr) is = (attribute, expr, refl)
form-set (rule kind source itself (anonymous the_class permissions)) is = cc
form-set (rule kind source (the_named word) (anonymous the_class permissions)) is = cc
form-set _ is = cc

-- a rule with this target, whatever its permissions are
pub record IsRuleTo (form : Form) (target : Target) : Type 0 where
  pub kind : RuleKind
  pub source : Word
  pub permissions : ClassPermissions
  pub is : form ≡ rule kind source target permissions

abbrev pub is_to_word : StatementKind → Bool
is_to_word (kinds.Rule kind) = true
is_to_word (kinds.RuleOfSet kind) = true
is_to_word _ = false

abbrev pub is_to_self : StatementKind → Bool
is_to_self (kinds.RuleToSelf kind) = true
is_to_self (kinds.RuleToSelfOfSet kind) = true
is_to_self _ = false

pub form-to-word : (form : Form) → is_to_word (kind_of form) ≡ true → (word : Word) × IsRuleTo form (the_named word)
form-to-word (rule kind source (the_named word) (anonymous the_class permissions)) is =
    (word, record { kind = kind; source = source; permissions = anonymous the_class permissions; is = refl })
form-to-word (rule kind source (the_named word) (by_name set)) is = (word, record { kind = kind; source = source; permissions = by_name set; is = refl })
form-to-word (rule kind source itself (anonymous the_class permissions)) is = absurd (true≢false (sym is))
form-to-word (rule kind source itself (by_name set)) is = absurd (true≢false (sym is))
form-to-word _ is = absurd (true≢false (sym is))

pub form-to-self : (form : Form) → is_to_self (kind_of form) ≡ true → IsRuleTo form itself
form-to-self (rule kind source itself (anonymous the_class permissions)) is =
    record { kind = kind; source = source; permissions = anonymous the_class permissions; is = refl }
form-to-self (rule kind source itself (by_name set)) is = record { kind = kind; source = source; permissions = by_name set; is = refl }
form-to-self (rule kind source (the_named word) (anonymous the_class permissions)) is = absurd (true≢false (sym is))
form-to-self (rule kind source (the_named word) (by_name set)) is = absurd (true≢false (sym is))
form-to-self _ is = absurd (true≢false (sym is))

pub nowhere-unset : (policy : List Placed) (namespace : List (List ℕ)) (word : Word) (found : Option ℕ) → IsLead types policy found (leads policy types namespace word.text) → found ≡ None
    → is_unset policy namespace word ≡ false
nowhere-unset policy namespace word found led is = ap (holds_of (λ s. is_alias s.form && not (is_some (actual_statement policy s)))) (sym led.is ∙ ap (option_and_then (slice_get policy)) is)

-- a statement of another kind gives it to nothing
pub none-given : (g : Association) (form : Form) → given_kind g (kind_of form) ≡ false → given_word g form ≡ None
none-given Actual (alias_actual x y) not_given = absurd (true≢false not_given)
none-given Common (class_common x y) not_given = absurd (true≢false not_given)
none-given Actual (rule kind source itself (anonymous the_class permissions)) not_given = refl
none-given Actual (rule kind source (the_named word) (anonymous the_class permissions)) not_given = refl
none-given Common (rule kind source itself (anonymous the_class permissions)) not_given = refl
none-given Common (rule kind source (the_named word) (anonymous the_class permissions)) not_given = refl
none-given _ _ not_given = refl

pub none-lead : (g : Association) (policy : List Placed) (s : Placed) → given_kind g (kind_of s.form) ≡ false → IsLead (association_table g) policy None (given_lead g policy s)
none-lead g policy s not_given = record { is = ap (option_and_then (λ w. leads policy (association_table g) s.namespace w.text)) (sym (none-given g s.form not_given)); within = tt; first = tt }

-- the word of what a statement gives something to is its first
given-first : (g : Association) (form : Form) (word : Word) → given_word g form ≡ Some word → slice_get (words_in form) 0 ≡ Some word
given-first Actual (alias_actual alias actual) word is = is
given-first Common (class_common the_class the_common) word is = is
given-first _ _ word is = cc

-- the word to which a statement gives something, where a test passes
abbrev pub first_if : {A : Type 0} → Seen A → Bool → Option NumberedWord
first_if seen passes = if passes then slice_get seen.view.words.now 0 else None

-- what is given again is told by the first statement that gives it
pub again-reads : {A : Type 0} (seen : Seen A) (g : Association) (policy : List Placed) (place : ℕ) (s : Placed) (firsts : List (ℕ × ℕ)) (found : Option ℕ) → HasFirsts g policy firsts → IsSeen seen policy s
    → IsLead (association_table g) policy found (given_lead g policy s) → Reads seen (first_if seen (is_before (option_and_then (first_at firsts) found) place)) (slice_get (again_words g policy (take place policy) s) 0)
again-reads seen g policy place s firsts found has is led = by (given_word g s.form) refl
  where
    before : Bool
    before = is_before (option_and_then (first_at firsts) found) place

    no-lead : (found : Option ℕ) → IsLead (association_table g) policy found (given_lead g policy s) → given_lead g policy s ≡ None
        → Reads seen (first_if seen (is_before (option_and_then (first_at firsts) found) place)) None
    no-lead None led none = refl
    no-lead (Some k) led none = let lead = led-at (association_table g) policy k (given_lead g policy s) led in absurd (none-some lead.s (sym none ∙ lead.is))

    chosen : (b : Bool) (word : Word) → Reads seen (slice_get seen.view.words.now 0) (Some word) → Reads seen (first_if seen b) (word_if b word)
    chosen true word reads = reads
    chosen false word reads = refl

    by : (o : Option Word) → given_word g s.form ≡ o → Reads seen (first_if seen before) (slice_get (again_words g policy (take place policy) s) 0)
    by None none = reads-as seen (first_if seen before) None (slice_get (again_words g policy (take place policy) s) 0)
        (no-lead found led (ap (option_and_then (λ w. leads policy (association_table g) s.namespace w.text)) none))
        (again-word g policy (take place policy) s ∙ ap (option_and_then (again_if g policy (take place policy) s)) none)
    by (Some word) some = reads-as seen (first_if seen before) (word_if before word) (slice_get (again_words g policy (take place policy) s) 0)
        (chosen before word (seen-word seen policy s 0 word is (given-first g s.form word some)))
        (again-noted g policy place s word firsts found has (sym some) led)

-- the list from a place on
drop-next : {X : Type 0} (xs : List X) (k : ℕ) (x : X) → slice_get xs k ≡ Some x → drop k xs ≡ x ∷ drop (suc k) xs
drop-next [] k x is = absurd (none-some x is)
drop-next (y ∷ xs) zero x is = ap (λ z. z ∷ xs) (same_Some y x is)
drop-next (y ∷ xs) (suc k) x is = drop-next xs k x is

pub drop-at : {X : Type 0} (xs : List X) (k : ℕ) (x : X) → slice_get xs k ≡ Some x → drop k xs ≡ x ∷ drop (k + 1) xs
drop-at xs k x is = drop-next xs k x is ∙ ap (λ n. x ∷ drop n xs) (sym (add-one k))

pub drop-past : {X : Type 0} (xs : List X) (k : ℕ) → length xs ≤ k → drop k xs ≡ []
drop-past [] zero past = refl
drop-past [] (suc k) past = refl
drop-past (x ∷ xs) zero past = absurd (omega (arith, past))
drop-past (x ∷ xs) (suc k) past = drop-past xs k (omega (arith, past))

filter-next : (p : Word → Bool) (x : Word) (xs : List Word) → slice_get (filter p (x ∷ xs)) 0 ≡ option_or (word_if (p x) x) (slice_get (filter p xs) 0)
filter-next p x xs = by (p x)
  where
    by : (b : Bool) → slice_get (cond b (x ∷ filter p xs) (filter p xs)) 0 ≡ option_or (word_if b x) (slice_get (filter p xs) 0)
    by true = refl
    by false = refl

-- the first of two words that passes
pub first-of-two : (p : Word → Bool) (a b : Word) → slice_get (filter p (a ∷ b ∷ [])) 0 ≡ option_or (word_if (p a) a) (word_if (p b) b)
first-of-two p a b = filter-next p a (b ∷ []) ∙ ap (option_or (word_if (p a) a)) (filter-one p b)

-- the first word that passes is here, or behind
pub first-here : {A : Type 0} (seen : Seen A) (b : Bool) (x : Word) (found : NumberedWord) (rest : Option Word) → Reads seen (Some found) (word_if b x) → Reads seen (Some found) (option_or (word_if b x) rest)
first-here seen true x found rest reads = reads
first-here seen false x found rest reads = absurd (none-some (read (texts_of seen.«module».now) found) (sym reads))

pub first-behind : {A : Type 0} (seen : Seen A) (b : Bool) (x : Word) (rest : Option Word) → Reads seen None (word_if b x) → option_or (word_if b x) rest ≡ rest
first-behind seen true x rest reads = absurd (none-some (Some x) reads)
first-behind seen false x rest reads = refl

-- the first word that passes, from an index on
abbrev pub first_from : (Word → Bool) → ℕ → List Word → Option Word
first_from p k words = slice_get (filter p (drop k words)) 0

pub from-at : (p : Word → Bool) (words : List Word) (k : ℕ) (word : Word) → slice_get words k ≡ Some word → first_from p k words ≡ option_or (word_if (p word) word) (first_from p (k + 1) words)
from-at p words k word at = ap (λ l. slice_get (filter p l) 0) (drop-at words k word at) ∙ filter-next p word (drop (k + 1) words)

pub from-past : (p : Word → Bool) (words : List Word) (k : ℕ) → length words ≤ k → first_from p k words ≡ None
from-past p words k past = ap (λ l. slice_get (filter p l) 0) (drop-past words k past)

-- as many words are shown as there are
pub shown-long : {A : Type 0} (seen : Seen A) (policy : List Placed) (s : Placed) → IsSeen seen policy s → length seen.view.words.now ≡ length (words_in s.form)
shown-long seen policy s is =
    sym (length-map seen.view.words.now (read (texts_of seen.«module».now))) ∙ ap length (is.shown.words ∙ ap (λ f. map Some (words_in f)) is.form) ∙ length-map (words_in s.form) Some

pub word-there : (words : List Word) (k : ℕ) → k < length words → (word : Word) × (slice_get words k ≡ Some word)
word-there [] k less = absurd (omega (arith, less))
word-there (w ∷ words) zero less = (w, refl)
word-there (w ∷ words) (suc k) less = word-there words k (omega (arith, less))

-- a word of a set statement, as a reference
pub set-reference : (form : Form) (attribute : Word) (expr : WordExpr) (k : ℕ) (word : Word) → form ≡ attribute_set attribute expr → slice_get (words_in form) k ≡ Some word → slice_get (references form) k ≡ Some (types, word)
set-reference form attribute expr k word is at =
    ap (λ f. slice_get (references f) k) is ∙ by k (sym (ap (λ f. slice_get (words_in f) k) is) ∙ at)
  where
    by : (k : ℕ) → slice_get (attribute ∷ leaves expr) k ≡ Some word → slice_get (references (attribute_set attribute expr)) k ≡ Some (types, word)
    by zero e = ap (option_map (λ w. (types, w))) e
    by (suc k) e = slice_get-map (λ w. (types, w)) (leaves expr) k ∙ ap (option_map (λ w. (types, w))) e

-- a set statement refers to as many words as it has
pub set-long : (form : Form) (attribute : Word) (expr : WordExpr) → form ≡ attribute_set attribute expr → length (references form) ≡ length (words_in form)
set-long form attribute expr is =
    ap (λ f. length (references f)) is ∙ ap suc (length-map (leaves expr) (λ w. (types, w))) ∙ sym (ap (λ f. length (words_in f)) is)

-- a word that is found stands for one that is there
pub reads-word : {A : Type 0} (seen : Seen A) (found : NumberedWord) (o : Option Word) → Reads seen (Some found) o → (w : Word) × (o ≡ Some w) × (read (texts_of seen.«module».now) found ≡ Some w)
reads-word seen found None reads = absurd (none-some (read (texts_of seen.«module».now) found) (sym reads))
reads-word seen found (Some w) reads = (w, refl, same_Some (read (texts_of seen.«module».now) found) (Some w) reads)

pub reads-nothing : {A : Type 0} (seen : Seen A) (words : List Word) → Reads seen None (slice_get words 0) → words ≡ []
reads-nothing seen [] reads = refl
reads-nothing seen (w ∷ words) reads = absurd (none-some (Some w) reads)

-- a reference is a word of its statement
reference-word : (form : Form) (k : ℕ) (r : Table × Word) → slice_get (references form) k ≡ Some r → slice_get (words_in form) k ≡ Some r.1
reference-word form k r at = by (reference_table (kind_of form) k) (slice_get (words_in form) k) (sym (references-at form k) ∙ at)
  where
    by : (t : Option code_table.Table) (w : Option Word) → option_and_then (λ t. option_map (λ w. (table_of t, w)) w) t ≡ Some r → w ≡ Some r.1
    by None w e = absurd (none-some r e)
    by (Some t) None e = absurd (none-some r e)
    by (Some t) (Some w) e = ap (λ (p : Table × Word). Some p.1) (same_Some (table_of t, w) r e)

pub leads-long : (policy : List Placed) (namespace : List (List ℕ)) (refs : List (Table × Word)) (bound : List (Option ℕ)) → AreLeads policy namespace refs bound → length bound ≡ length refs
leads-long policy namespace [] [] are = refl
leads-long policy namespace [] (b ∷ bound) are = absurd are
leads-long policy namespace (r ∷ refs) [] are = absurd are
leads-long policy namespace (r ∷ refs) (b ∷ bound) are = ap suc (leads-long policy namespace refs bound are.1)

pub bound-as-many : {A : Type 0} (seen : Seen A) (policy : List Placed) (s : Placed) → IsSeen seen policy s → length seen.bound ≡ length (references s.form)
bound-as-many seen policy s is = leads-long policy s.namespace (references s.form) seen.bound is.leads_are

-- the reference at an index, which is a word of the statement
pub reference-there : (form : Form) (k : ℕ) → k < length (references form) → (r : Table × Word) × (slice_get (references form) k ≡ Some r) × (slice_get (words_in form) k ≡ Some r.1)
reference-there form k less =
    let found = there (references form) k less in
    (found.0, found.1, reference-word form k found.0 found.1)
  where
    there : (refs : List (Table × Word)) (k : ℕ) → k < length refs → (r : Table × Word) × (slice_get refs k ≡ Some r)
    there [] k less = absurd (omega (arith, less))
    there (r ∷ refs) zero less = (r, refl)
    there (r ∷ refs) (suc k) less = there refs k (omega (arith, less))

-- a reference that is bound to nothing leads nowhere
pub bound-nowhere : {A : Type 0} (seen : Seen A) (policy : List Placed) (s : Placed) (k : ℕ) (r : Table × Word) (o : Option ℕ) → IsSeen seen policy s → slice_get (references s.form) k ≡ Some r → o ≡ get_or seen.bound k None
    → is_unfound policy s.namespace r ≡ not (is_some o)
bound-nowhere seen policy s k r o is at same = by o (subst (λ o. IsLead r.0 policy o (leads policy r.0 s.namespace r.1.text)) (sym same) (lead-of policy s.namespace (references s.form) seen.bound k r is.leads_are at))
  where
    by : (o : Option ℕ) → IsLead r.0 policy o (leads policy r.0 s.namespace r.1.text) → is_unfound policy s.namespace r ≡ not (is_some o)
    by None led = ap (λ l. not (is_some l)) (sym led.is)
    by (Some place) led = let lead = led-at r.0 policy place (leads policy r.0 s.namespace r.1.text) led in ap (λ l. not (is_some l)) lead.is

-- and stands first, or behind
pub unfound-at : (policy : List Placed) (namespace : List (List ℕ)) (refs : List (Table × Word)) (k : ℕ) (r : Table × Word) → slice_get refs k ≡ Some r
    → first_unfound policy namespace k refs ≡ option_or (word_if (is_unfound policy namespace r) r.1) (first_unfound policy namespace (k + 1) refs)
unfound-at policy namespace refs k r at =
    ap (λ l. slice_get (map (λ r. r.1) (filter (is_unfound policy namespace) l)) 0) (drop-at refs k r at) ∙ words-cons (is_unfound policy namespace) (λ r. r.1) r (drop (k + 1) refs)

pub unfound-past : (policy : List Placed) (namespace : List (List ℕ)) (refs : List (Table × Word)) (k : ℕ) → length refs ≤ k → first_unfound policy namespace k refs ≡ None
unfound-past policy namespace refs k past = ap (λ l. slice_get (map (λ r. r.1) (filter (is_unfound policy namespace) l)) 0) (drop-past refs k past)
