-- What the references of statements look up.
use Rattle.cil_parse.proofs.Common.{◌≡◌, ℕ, zero, suc, ◌+◌, ◌<◌, ◌≤◌, Bool, true, false, true≢false, List, [], ◌∷◌, ◌++◌, map, length, get_or, take, Option, Some, None, slice_get, refl, sym, ap, ◌∙◌, subst, arith, if◌then◌else◌, append-nil, append_assoc, option_map, same_Some, Word, leaves, types, classes, permission_sets, references, itself, the_named, Form, block, optional, type_name, type_alias, alias_actual, type_attribute, attribute_set, common, class, class_common, class_order, class_permission, class_permission_set, rule, anonymous, by_name, read, place_of, kind_of, words_in, flat, Statements, FlatStatement, NumberedWord, Row, StatementView, IsShown, with_citation, cited, citation_lists, IsCited, AreCited, IsFound, Finds}
use Rattle.cil_specs.proofs.Runs.{first_true, second_true}
use Rattle.cil_specs.specs.Lookup as lookup
use Rattle.cil_specs.specs.Lookup.{commons}
use Rattle.indexmap.specs.IndexSet.{insert_key}
use Rattle.std.specs.Prelude.{◌&&◌, nat_eq}
use Rattle.std.specs.List.{list_any}
use Rattle.std.specs.Cmp.{unsigned_Decides}
use Rattle.cil_parse.specs.Kinds.{table_of, reference_table}
use Rattle.cil_parse.specs.Parsed.{texts_of, citations_of, cited_by, statement_count, Spells}
use Rattle.cil_parse.specs.contracts.citations.CitationPartialEq.TheImpl as citation_eq
use Rattle.cil_parse.specs.contracts.table.TablePartialEq.TheImpl as table_eq
use Rattle.cil_parse.specs.declared.citations.Citation.{Citation}
use Rattle.cil_parse.specs.declared.citations.Found.{Found}
use Rattle.cil_parse.specs.declared.parsed.ParsedModule.{ParsedModule}
use Rattle.cil_parse.specs.declared.row.StatementKind.{StatementKind}
use Rattle.cil_parse.specs.declared.row.StatementKind.TheVariants as kinds
use Rattle.cil_parse.specs.declared.table.Table.{Table}
use Rattle.cil_parse.specs.declared.table.Table.TheVariants.{Types, Classes, Commons, PermissionSets, Scopes}
use Rattle.cil_parse.proofs.LexiconLemmas.{get-append, each-keeps, lists-keep, each-append, lists-append}
use Rattle.cil_parse.proofs.ParsedLemmas.{same-length, same-at, shown}
use Rattle.cil_parse.proofs.PermissionListLemmas.{no_row}
use Rattle.cil_parse.proofs.RowLemmas.{made-next, made-length, made-at}

-- equal by the derived == is the same
table-same : (t u : Table) → (table_eq.eq-value).it t u ≡ true → t ≡ u
table-same Types Types is = refl
table-same Classes Classes is = refl
table-same Commons Commons is = refl
table-same PermissionSets PermissionSets is = refl
table-same Scopes Scopes is = refl
table-same _ _ is = absurd (true≢false (sym is))

citation-same : (a b : Citation) → (citation_eq.eq-value).it a b ≡ true → a ≡ b
citation-same a b is =
    let tables = (table_eq.eq-value).it a.table b.table in
    let blocks = nat_eq a.block b.block in
    let texts = nat_eq a.text b.text in
    let derived : (tables && (blocks && texts)) ≡ true = is in
    let others = second_true tables (blocks && texts) derived in
    let table = table-same a.table b.table (first_true tables (blocks && texts) derived) in
    let around = (unsigned_Decides a.block b.block).0 (first_true blocks texts others) in
    let text = (unsigned_Decides a.text b.text).0 (second_true blocks texts others) in
    (λ i. record { table = table i; block = around i; text = text i })

-- what has a number keeps it where one more comes
keys-keep : (keys new : List Citation) (c : Citation) → new ≡ insert_key (citation_eq.eq-value).it keys c → (n : ℕ) (x : Citation) → slice_get keys n ≡ Some x → slice_get new n ≡ Some x
keys-keep keys new c is n x here = by (list_any ((citation_eq.eq-value).it c) keys) refl
  where
    by : (b : Bool) → list_any ((citation_eq.eq-value).it c) keys ≡ b → slice_get new n ≡ Some x
    by true e = ap (λ l. slice_get l n) (is ∙ ap (λ b. if b then keys else keys ++ c ∷ []) e) ∙ here
    by false e = ap (λ l. slice_get l n) (is ∙ ap (λ b. if b then keys else keys ++ c ∷ []) e) ∙ get-append keys (c ∷ []) n x here

module _ {A : Type 0} where
  finds-then : (a b c : Found A) (xs ys : List Citation) → Finds a b xs → Finds b c ys → Finds a c (xs ++ ys)
  finds-then a b c xs ys first second lists before is =
      subst (IsFound c lists) (append_assoc before xs ys) (second lists (before ++ xs) (first lists before is))

  -- one more, that has a number or gets the next
  pub finds-one : (old new : Found A) (c : Citation) (n k : ℕ) → new.distinct.keys ≡ insert_key (citation_eq.eq-value).it old.distinct.keys c
      → ((x : Citation) × (slice_get new.distinct.keys n ≡ Some x) × ((citation_eq.eq-value).it c x ≡ true)) → k ≡ n → new.numbers ≡ (old.numbers.0, old.numbers.1 ++ k ∷ []) → Finds old new (c ∷ [])
  finds-one old new c n k keys stored same_number pushed lists before is =
      let all = new.distinct.keys in
      let keeps = keys-keep old.distinct.keys all c keys in
      let here : slice_get all k ≡ Some c = ap (slice_get all) same_number ∙ stored.1 ∙ ap Some (sym (citation-same c stored.0 stored.2)) in
      record {
        lists_are = ap (λ s. map (map (slice_get all)) s.0) pushed ∙ lists-keep (slice_get old.distinct.keys) (slice_get all) keeps (λ l. l) old.numbers.0 lists is.lists_are;
        open_list_is = ap (λ s. map (slice_get all) s.1) pushed
            ∙ each-append (slice_get all) old.numbers.1 (k ∷ []) before (c ∷ []) (each-keeps (slice_get old.distinct.keys) (slice_get all) keeps old.numbers.1 before is.open_list_is) (ap (λ o. o ∷ []) here);
      }

  -- the open list once it is closed
  finds-closed : (old mid : Found A) (numbers : List (List ℕ) × List ℕ) (lists : List (List Citation)) (more : List Citation) → IsFound old lists [] → Finds old mid more → numbers ≡ (mid.numbers.0 ++ mid.numbers.1 ∷ [], [])
      → IsFound {A = A} (record { distinct = mid.distinct; numbers = numbers }) (lists ++ more ∷ []) []
  finds-closed old mid numbers lists more is finds closed =
      let found = finds lists [] is in
      let all = mid.distinct.keys in
      record {
        lists_are = ap (λ s. map (map (slice_get all)) s.0) closed ∙ lists-append (map (slice_get all)) (map Some) mid.numbers.0 mid.numbers.1 lists more found.lists_are found.open_list_is;
        open_list_is = ap (λ s. map (slice_get all) s.1) closed;
      }

with-more : (table : Option Table) (around text : ℕ) (more behind : List Citation) → with_citation table around text (more ++ behind) ≡ with_citation table around text more ++ behind
with-more None around text more behind = refl
with-more (Some table) around text more behind = refl

-- what one word more looks up
cited-suc : (row : Row) (k : ℕ) (words : List NumberedWord) (i : ℕ) (word : NumberedWord) → i < length words
    → cited row k (take (suc i) words) ≡ cited row k (take i words) ++ with_citation (reference_table row.kind (k + i)) row.around.block (get_or words i word).text []
cited-suc row k [] i word within = absurd (omega arith)
cited-suc row k (w ∷ words) zero word within = ap (λ n. with_citation (reference_table row.kind n) row.around.block w.text []) (omega arith)
cited-suc row k (w ∷ words) (suc i) word within =
    ap (with_citation (reference_table row.kind k) row.around.block w.text)
    (cited-suc row (suc k) words i word (omega arith) ∙ ap (λ n. cited row (suc k) (take i words) ++ with_citation (reference_table row.kind n) row.around.block (get_or words i word).text []) (omega arith))
    ∙ with-more (reference_table row.kind k) row.around.block w.text (cited row (suc k) (take i words)) (with_citation (reference_table row.kind (k + suc i)) row.around.block (get_or words i word).text [])

cited-next : (row : Row) (words : List NumberedWord) (i : ℕ) (word : NumberedWord) (found : Option Table) → i < length words → reference_table row.kind i ≡ found
    → cited row 0 (take (i + 1) words) ≡ cited row 0 (take i words) ++ with_citation found row.around.block (get_or words i word).text []
cited-next row words i word found within is =
    let next : i + 1 ≡ suc i = omega arith in
    let plain : 0 + i ≡ i = omega arith in
    ap (λ n. cited row 0 (take n words)) next ∙ cited-suc row 0 words i word within
    ∙ ap (λ t. cited row 0 (take i words) ++ with_citation t row.around.block (get_or words i word).text []) (ap (reference_table row.kind) plain ∙ is)

module _ {A : Type 0} (row : Row) (words : List NumberedWord) (i : ℕ) (within : i < length words) (old mid : Found A) (so_far : Finds old mid (cited row 0 (take i words))) where
  -- a word more that is no reference
  pub step-none : reference_table row.kind i ≡ None → Finds old mid (cited row 0 (take (i + 1) words))
  step-none is =
      let word = get_or words i (record { at = record { offset = 0; line = 0; column = 0 }; text = 0 }) in
      subst (Finds old mid) (sym (cited-next row words i word None within is ∙ append-nil (cited row 0 (take i words)))) so_far

  -- and one that is
  pub step-some : (new : Found A) (word : NumberedWord) (table : Table) → reference_table row.kind i ≡ Some table
      → Finds mid new (record { table = table; block = row.around.block; text = (get_or words i word).text } ∷ []) → Finds old new (cited row 0 (take (i + 1) words))
  step-some new word table is finds =
      let here : Citation = record { table = table; block = row.around.block; text = (get_or words i word).text } in
      subst (Finds old new) (sym (cited-next row words i word (Some table) within is)) (finds-then old mid new (cited row 0 (take i words)) (here ∷ []) so_far finds)

-- what one statement more looks up
pub step-list : {A : Type 0} (rows : List Row) (lists : List (List NumberedWord)) (i : ℕ) (d row : Row) (words : List NumberedWord) (old mid : Found A) (numbers : List (List ℕ) × List ℕ) → length lists ≡ length rows → i < length rows
    → row ≡ get_or rows i d → words ≡ get_or lists i [] → IsFound old (citation_lists (take i rows) (take i lists)) [] → Finds old mid (cited row 0 words) → numbers ≡ (mid.numbers.0 ++ mid.numbers.1 ∷ [], [])
    → IsFound {A = A} (record { distinct = mid.distinct; numbers = numbers }) (citation_lists (take (i + 1) rows) (take (i + 1) lists)) []
step-list {A} rows lists i d row words old mid numbers same within row_is words_are so_far finds closed =
    let before = citation_lists (take i rows) (take i lists) in
    subst (λ l. IsFound {A = A} (record { distinct = mid.distinct; numbers = numbers }) l [])
    ((λ j. before ++ cited (row_is j) 0 (words_are j) ∷ []) ∙ sym (made-next (λ r. cited r 0) rows lists i d same within))
    (finds-closed old mid numbers before (cited row 0 words) so_far finds closed)

-- the text of a word that is read
text-there : (all : List (List ℕ)) (w : NumberedWord) (x : Word) → read all w ≡ Some x → slice_get all w.text ≡ Some x.text
text-there all w x is = by (slice_get all w.text) refl is
  where
    by : (o : Option (List ℕ)) → slice_get all w.text ≡ o → option_map (λ t. record { at = place_of w.at; text = t }) o ≡ Some x → slice_get all w.text ≡ Some x.text
    by None e is = cc
    by (Some t) e is = e ∙ ap (λ (y : Word). Some y.text) (same_Some (record { at = place_of w.at; text = t }) x is)

-- these are what some references inside a block look up
abbrev AreLookedUp : List (List ℕ) → ℕ → List (lookup.Table × Word) → List Citation → Type 0
AreLookedUp texts around [] [] = Unit {0}
AreLookedUp texts around [] (c ∷ citations) = ⊥
AreLookedUp texts around (r ∷ references) [] = ⊥
AreLookedUp texts around (r ∷ references) (c ∷ citations) = IsCited texts around r c × AreLookedUp texts around references citations

-- and by their numbers
by-numbers : (texts : List (List ℕ)) (all : List Citation) (around : ℕ) (refs : List (lookup.Table × Word)) (citations : List Citation) (numbers : List ℕ) → map (slice_get all) numbers ≡ map Some citations
    → AreLookedUp texts around refs citations → AreCited texts all around refs numbers
by-numbers texts all around [] [] [] is are = tt
by-numbers texts all around [] [] (n ∷ numbers) is are = cc
by-numbers texts all around [] (c ∷ citations) numbers is are = absurd are
by-numbers texts all around (r ∷ refs) [] numbers is are = absurd are
by-numbers texts all around (r ∷ refs) (c ∷ citations) [] is are = cc
by-numbers texts all around (r ∷ refs) (c ∷ citations) (n ∷ numbers) is are =
    let head : slice_get all n ≡ Some c = cc in
    let rest : map (slice_get all) numbers ≡ map {A = Citation} Some citations = cc in
    ((c, head, are.0), by-numbers texts all around refs citations numbers rest are.1)

-- a kind that looks up no word from the second on, or from the third on
none-from-2 : (kind : StatementKind) → ((n : ℕ) → reference_table kind (suc (suc n)) ≡ None) → (n : ℕ) → 2 ≤ n → reference_table kind n ≡ None
none-from-2 kind none zero low = absurd (omega arith)
none-from-2 kind none (suc zero) low = absurd (omega arith)
none-from-2 kind none (suc (suc n)) low = none n

none-from-3 : (kind : StatementKind) → ((n : ℕ) → reference_table kind (suc (suc (suc n))) ≡ None) → (n : ℕ) → 3 ≤ n → reference_table kind n ≡ None
none-from-3 kind none zero low = absurd (omega arith)
none-from-3 kind none (suc zero) low = absurd (omega arith)
none-from-3 kind none (suc (suc zero)) low = absurd (omega arith)
none-from-3 kind none (suc (suc (suc n))) low = none n

-- a row of a kind inside a block
abbrev row_with : StatementKind → ℕ → Row
row_with kind around = record { at = record { offset = 0; line = 0; column = 0 }; kind = kind; around = record { block = around; optional = 0 } }

module _ (all : List (List ℕ)) (around : ℕ) (kind : StatementKind) where
  -- a word that is a reference, in front of others
  first-cited : (k : ℕ) (table : Table) (x : Word) (xs : List Word) (rest : List (lookup.Table × Word)) (words : List NumberedWord) → reference_table kind k ≡ Some table → map (read all) words ≡ map Some (x ∷ xs)
      → ((behind : List NumberedWord) → map (read all) behind ≡ map Some xs → AreLookedUp all around rest (cited (row_with kind around) (suc k) behind)) → AreLookedUp all around ((table_of table, x) ∷ rest) (cited (row_with kind around) k words)
  first-cited k table x xs rest [] is words_are others = cc
  first-cited k table x xs rest (w ∷ words) is words_are others =
      let head : read all w ≡ Some x = cc in
      let tail : map (read all) words ≡ map {A = Word} Some xs = cc in
      subst (λ t. AreLookedUp all around ((table_of table, x) ∷ rest) (with_citation t around w.text (cited (row_with kind around) (suc k) words))) (sym is) ((refl, refl, text-there all w x head), others words tail)

  -- words that are no references
  none-cited : (k : ℕ) (words : List NumberedWord) → ((n : ℕ) → k ≤ n → reference_table kind n ≡ None) → AreLookedUp all around [] (cited (row_with kind around) k words)
  none-cited k [] none = tt
  none-cited k (w ∷ words) none =
      subst (λ t. AreLookedUp all around [] (with_citation t around w.text (cited (row_with kind around) (suc k) words))) (sym (none k (omega arith)))
      (none-cited (suc k) words (λ n low. none n (omega arith)))

  -- words that are references in one table
  all-cited : (k : ℕ) (table : Table) (xs : List Word) (words : List NumberedWord) → ((n : ℕ) → reference_table kind n ≡ Some table) → map (read all) words ≡ map Some xs
      → AreLookedUp all around (map (λ w. (table_of table, w)) xs) (cited (row_with kind around) k words)
  all-cited k table [] [] is words_are = tt
  all-cited k table [] (w ∷ words) is words_are = cc
  all-cited k table (x ∷ xs) words is words_are = first-cited k table x xs _ words (is k) words_are (λ behind behind_are. all-cited (suc k) table xs behind is behind_are)

-- what the references of a statement look up is what its words look up
are-cited : (all : List (List ℕ)) (around : ℕ) (form : Form) (words : List NumberedWord) → map (read all) words ≡ map Some (words_in form) → AreLookedUp all around (references form) (cited (row_with (kind_of form) around) 0 words)
are-cited all around (block id) words is = none-cited all around kinds.Block 0 words (λ n low. refl)
are-cited all around (optional id) words is = none-cited all around kinds.Optional 0 words (λ n low. refl)
are-cited all around (type_name id) words is = none-cited all around kinds.TypeName 0 words (λ n low. refl)
are-cited all around (type_alias id) words is = none-cited all around kinds.TypeAlias 0 words (λ n low. refl)
are-cited all around (alias_actual alias actual) words is =
    let kind = kinds.TypeAliasActual in
    first-cited all around kind 0 Types alias (actual ∷ []) ((types, actual) ∷ []) words refl is (λ w w_is. first-cited all around kind 1 Types actual [] [] w refl w_is (λ v v_is. none-cited all around kind 2 v (none-from-2 kind (λ n. refl))))
are-cited all around (type_attribute id) words is = none-cited all around kinds.TypeAttribute 0 words (λ n low. refl)
are-cited all around (attribute_set attribute expr) words is = all-cited all around kinds.TypeAttributeSet 0 Types (attribute ∷ leaves expr) words (λ n. refl) is
are-cited all around (common id permissions) words is = none-cited all around kinds.Common 0 words (λ n low. refl)
are-cited all around (class id permissions) words is = none-cited all around kinds.Class 0 words (λ n low. refl)
are-cited all around (class_common the_class the_common) words is =
    let kind = kinds.ClassCommon in
    first-cited all around kind 0 Classes the_class (the_common ∷ []) ((commons, the_common) ∷ []) words refl is (λ w w_is. first-cited all around kind 1 Commons the_common [] [] w refl w_is (λ v v_is. none-cited all around kind 2 v (none-from-2 kind (λ n. refl))))
are-cited all around (class_order the_classes) words is = all-cited all around kinds.ClassOrder 0 Classes the_classes words (λ n. refl) is
are-cited all around (class_permission id) words is = none-cited all around kinds.ClassPermission 0 words (λ n low. refl)
are-cited all around (class_permission_set set the_class permissions) words is =
    let kind = kinds.ClassPermissionSet in
    first-cited all around kind 0 PermissionSets set (the_class ∷ leaves permissions) ((classes, the_class) ∷ []) words refl is (λ w w_is. first-cited all around kind 1 Classes the_class (leaves permissions) [] w refl w_is (λ v v_is. none-cited all around kind 2 v (none-from-2 kind (λ n. refl))))
are-cited all around (rule k source itself (anonymous the_class permissions)) words is =
    let kind = kind_of (rule k source itself (anonymous the_class permissions)) in
    first-cited all around kind 0 Types source (the_class ∷ leaves permissions) ((classes, the_class) ∷ []) words refl is (λ w w_is. first-cited all around kind 1 Classes the_class (leaves permissions) [] w refl w_is (λ v v_is. none-cited all around kind 2 v (none-from-2 kind (λ n. refl))))
are-cited all around (rule k source (the_named target) (anonymous the_class permissions)) words is =
    let kind = kind_of (rule k source (the_named target) (anonymous the_class permissions)) in
    first-cited all around kind 0 Types source (target ∷ the_class ∷ leaves permissions) ((types, target) ∷ (classes, the_class) ∷ []) words refl is (λ w w_is. first-cited all around kind 1 Types target (the_class ∷ leaves permissions) ((classes, the_class) ∷ []) w refl w_is (λ v v_is. first-cited all around kind 2 Classes the_class (leaves permissions) [] v refl v_is (λ u u_is. none-cited all around kind 3 u (none-from-3 kind (λ n. refl)))))
are-cited all around (rule k source itself (by_name set)) words is =
    let kind = kind_of (rule k source itself (by_name set)) in
    first-cited all around kind 0 Types source (set ∷ []) ((permission_sets, set) ∷ []) words refl is (λ w w_is. first-cited all around kind 1 PermissionSets set [] [] w refl w_is (λ v v_is. none-cited all around kind 2 v (none-from-2 kind (λ n. refl))))
are-cited all around (rule k source (the_named target) (by_name set)) words is =
    let kind = kind_of (rule k source (the_named target) (by_name set)) in
    first-cited all around kind 0 Types source (target ∷ set ∷ []) ((types, target) ∷ (permission_sets, set) ∷ []) words refl is (λ w w_is. first-cited all around kind 1 Types target (set ∷ []) ((permission_sets, set) ∷ []) w refl w_is (λ v v_is. first-cited all around kind 2 PermissionSets set [] [] v refl v_is (λ u u_is. none-cited all around kind 3 u (none-from-3 kind (λ n. refl)))))

-- what a row's words look up rests on its kind and its block alone
cited-with : (row : Row) (kind : StatementKind) (around k : ℕ) (words : List NumberedWord) → row.kind ≡ kind → row.around.block ≡ around → cited row k words ≡ cited (row_with kind around) k words
cited-with row kind around k [] kind_is block_is = refl
cited-with row kind around k (w ∷ words) kind_is block_is =
    let more = cited-with row kind around (suc k) words kind_is block_is in
    (λ i. with_citation (reference_table (kind_is i) k) (block_is i) w.text (more i))

-- each statement has a list of numbers
pub cited-long : {A : Type 0} (p : ParsedModule A) → length p.citations.numbers.0 ≡ statement_count p
cited-long p =
    same-length (map (slice_get (citations_of p))) (map Some) p.citations.numbers.0 (citation_lists p.rows.items p.words.0) p.cited
    ∙ made-length (λ row. cited row 0) p.rows.items p.words.0 p.each_words

-- the numbers are those of what the references of a statement of a module look up
pub cited-are : {A : Type 0} (p : ParsedModule A) (i : ℕ) (statements : Statements) (f : FlatStatement) → i < statement_count p → Spells p statements
    → slice_get (flat 0 0 0 statements) i ≡ Some f → AreCited (texts_of p) (citations_of p) f.block (references f.form) (cited_by p i)
cited-are p i statements f within spells here =
    by-numbers (texts_of p) (citations_of p) f.block (references f.form) (cited (row_with (kind_of f.form) f.block) 0 words) (cited_by p i)
    (numbers_are ∙ ap (map Some) (cited-with r (kind_of f.form) f.block 0 words v_is.kind v_is.block))
    (are-cited (texts_of p) f.block f.form words v_is.words)
  where
    r : Row
    r = get_or p.rows.items i no_row

    words : List NumberedWord
    words = get_or p.words.0 i []

    v : StatementView
    v = record { at = r.at; kind = r.kind; block = r.around.block; optional = r.around.optional; words = record { ref_ptr = (0, 0); now = words }; nodes = record { ref_ptr = (0, 0); now = get_or p.nodes.0 i [] } }

    v_is : IsShown (texts_of p) v f
    v_is = shown p statements f i no_row v spells here within refl refl refl refl p.each_words p.each_nodes refl refl

    numbers_are : map (slice_get (citations_of p)) (cited_by p i) ≡ map Some (cited r 0 words)
    numbers_are =
        let long = cited-long p in
        let there : i < length p.citations.numbers.0 = omega (arith, long, within) in
        same-at (map (slice_get (citations_of p))) (map Some) p.citations.numbers.0 (citation_lists p.rows.items p.words.0) i [] (cited r 0 words) p.cited there
        (made-at (λ row. cited row 0) p.rows.items p.words.0 i no_row p.each_words within)
