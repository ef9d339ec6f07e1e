-- What a statement declares and names, by its kind and its words.
use Rattle.cil_parse.proofs.Common.{◌≡◌, ℕ, zero, suc, ◌<◌, List, [], ◌∷◌, map, length, get_or, arith, Option, Some, slice_get, refl, sym, ap, subst, ◌∙◌, option_map, option_and_then, same_Some, slice_get-map, Word, leaves, types, classes, declared_in, references, itself, the_named, Form, block, optional, type_name, type_alias, alias_actual, type_attribute, attribute_set, common, class, class_common, class_order, class_permission, class_permission_set, rule, anonymous, by_name, kind_of, words_in, FlatStatement, read, IsShown, NumberedWord, StatementView}
use Rattle.cil_specs.specs.Lookup as lookup
use Rattle.cil_parse.specs.Kinds.{table_of, declaring, reference_table}
use Rattle.cil_parse.specs.declared.table.Table.{Table}
use Rattle.cil_parse.specs.declared.table.Table.TheVariants.{Types, Classes, Commons, PermissionSets, Scopes}

-- the form declares its first word in the table
abbrev pub DeclaresFirst : Form → Table → Type 0
DeclaresFirst form table = (word : Word) × (slice_get (words_in form) 0 ≡ Some word) × (declared_in (table_of table) form ≡ Some word)

at-table : (form : Form) (t u : Table) → Some t ≡ Some u → DeclaresFirst form t → DeclaresFirst form u
at-table form t u is found = subst (DeclaresFirst form) (same_Some t u is) found

pub declares-first : (form : Form) (table : Table) → declaring (kind_of form) ≡ Some table → DeclaresFirst form table
declares-first (block id) table is = at-table (block id) Scopes table is (id, refl, refl)
declares-first (optional id) table is = at-table (optional id) Scopes table is (id, refl, refl)
declares-first (type_name id) table is = at-table (type_name id) Types table is (id, refl, refl)
declares-first (type_alias id) table is = at-table (type_alias id) Types table is (id, refl, refl)
declares-first (alias_actual alias actual) table is = cc
declares-first (type_attribute id) table is = at-table (type_attribute id) Types table is (id, refl, refl)
declares-first (attribute_set attribute expr) table is = cc
declares-first (common id permissions) table is = at-table (common id permissions) Commons table is (id, refl, refl)
declares-first (class id permissions) table is = at-table (class id permissions) Classes table is (id, refl, refl)
declares-first (class_common the_class the_common) table is = cc
declares-first (class_order the_classes) table is = cc
declares-first (class_permission id) table is = at-table (class_permission id) PermissionSets table is (id, refl, refl)
declares-first (class_permission_set set the_class permissions) table is = cc
declares-first (rule kind source itself (anonymous the_class permissions)) table is = cc
declares-first (rule kind source (the_named word) (anonymous the_class permissions)) table is = cc
declares-first (rule kind source itself (by_name set)) table is = cc
declares-first (rule kind source (the_named word) (by_name set)) table is = cc

-- a reference is a word that its kind looks up
abbrev pub reference_at : Form → ℕ → Option (lookup.Table × Word)
reference_at form k = option_and_then (λ t. option_map (λ w. (table_of t, w)) (slice_get (words_in form) k)) (reference_table (kind_of form) k)

pub references-at : (form : Form) (k : ℕ) → slice_get (references form) k ≡ reference_at form k
references-at (block id) k = refl
references-at (optional id) k = refl
references-at (type_name id) k = refl
references-at (type_alias id) k = refl
references-at (alias_actual alias actual) zero = refl
references-at (alias_actual alias actual) (suc zero) = refl
references-at (alias_actual alias actual) (suc (suc k)) = refl
references-at (type_attribute id) k = refl
references-at (attribute_set attribute expr) zero = refl
references-at (attribute_set attribute expr) (suc k) = slice_get-map (λ w. (types, w)) (leaves expr) k
references-at (common id permissions) k = refl
references-at (class id permissions) k = refl
references-at (class_common the_class the_common) zero = refl
references-at (class_common the_class the_common) (suc zero) = refl
references-at (class_common the_class the_common) (suc (suc k)) = refl
references-at (class_order the_classes) k = slice_get-map (λ w. (classes, w)) the_classes k
references-at (class_permission id) k = refl
references-at (class_permission_set set the_class permissions) zero = refl
references-at (class_permission_set set the_class permissions) (suc zero) = refl
references-at (class_permission_set set the_class permissions) (suc (suc k)) = refl
references-at (rule kind source itself (anonymous the_class permissions)) zero = refl
references-at (rule kind source itself (anonymous the_class permissions)) (suc zero) = refl
references-at (rule kind source itself (anonymous the_class permissions)) (suc (suc k)) = refl
references-at (rule kind source (the_named word) (anonymous the_class permissions)) zero = refl
references-at (rule kind source (the_named word) (anonymous the_class permissions)) (suc zero) = refl
references-at (rule kind source (the_named word) (anonymous the_class permissions)) (suc (suc zero)) = refl
references-at (rule kind source (the_named word) (anonymous the_class permissions)) (suc (suc (suc k))) = refl
references-at (rule kind source itself (by_name set)) zero = refl
references-at (rule kind source itself (by_name set)) (suc zero) = refl
references-at (rule kind source itself (by_name set)) (suc (suc k)) = refl
references-at (rule kind source (the_named word) (by_name set)) zero = refl
references-at (rule kind source (the_named word) (by_name set)) (suc zero) = refl
references-at (rule kind source (the_named word) (by_name set)) (suc (suc zero)) = refl
references-at (rule kind source (the_named word) (by_name set)) (suc (suc (suc k))) = refl

-- what is read of one of a list
seen-at : {X Y : Type 0} (f : X → Option Y) (xs : List X) (ys : List Y) (k : ℕ) (x : X) → map f xs ≡ map Some ys → k < length xs → x ≡ get_or xs k x → (y : Y) × (slice_get ys k ≡ Some y) × (f x ≡ Some y)
seen-at f [] ys k x is within at = absurd (omega arith)
seen-at f (z ∷ xs) [] k x is within at = cc
seen-at f (z ∷ xs) (y ∷ ys) zero x is within at = (y, refl, ap f at ∙ (let head : f z ≡ Some y = cc in head))
seen-at {X} {Y} f (z ∷ xs) (y ∷ ys) (suc k) x is within at = let rest : map f xs ≡ map {A = Y} Some ys = cc in seen-at f xs ys k x rest (omega arith) at

pub shown-declared : (texts : List (List ℕ)) (v : StatementView) (f : FlatStatement) (table : Table) (x : NumberedWord) → IsShown texts v f → Some table ≡ declaring v.kind → 0 < length v.words.now → x ≡ get_or v.words.now 0 x
    → (word : Word) × (declared_in (table_of table) f.form ≡ Some word) × (read texts x ≡ Some word)
shown-declared texts v f table x shown is within at =
    let (word, first, declared) = declares-first f.form table (sym (is ∙ ap declaring shown.kind)) in
    let (other, here, read_as) = seen-at (read texts) v.words.now (words_in f.form) 0 x shown.words within at in
    (word, declared, read_as ∙ sym here ∙ first)

pub shown-reference : (texts : List (List ℕ)) (v : StatementView) (f : FlatStatement) (table : Table) (k : ℕ) (x : NumberedWord) → IsShown texts v f → Some table ≡ reference_table v.kind k → k < length v.words.now → x ≡ get_or v.words.now k x
    → (word : Word) × (slice_get (references f.form) k ≡ Some (table_of table, word)) × (read texts x ≡ Some word)
shown-reference texts v f table k x shown is within at =
    let (word, here, read_as) = seen-at (read texts) v.words.now (words_in f.form) k x shown.words within at in (
      word,
      references-at f.form k ∙ ap (λ t. option_and_then (λ t. option_map (λ w. (table_of t, w)) (slice_get (words_in f.form) k)) t) (sym (is ∙ ap (λ kind. reference_table kind k) shown.kind))
          ∙ ap (option_map (λ w. (table_of table, w))) here,
      read_as,
    )
