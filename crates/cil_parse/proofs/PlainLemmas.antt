-- Expressions that are plain lists of names, or begin with some.
use Rattle.cil_parse.proofs.Common.{◌≡◌, ℕ, zero, suc, ◌+◌, ◌<◌, ◌≤◌, false, true, List, [], ◌∷◌, ◌++◌, Vec, length, get_or, drop, refl, sym, ap, subst, ◌∙◌, append-nil, add-one, length-append, if◌then◌else◌, drop_all, Word, leaves, word_of, expr_of, expr_nodes, is_plain, name_nodes, names_then, permission_nodes, Adds, AddsNamesInFront, AddsPermissions, AddsExpr, Builder}
use Rattle.std.proofs.Math.Seq.{drop-cons}
use Rattle.cil_specs.specs.Expr.{WordExpr, elements, named, nothing}
use Rattle.cil_text.specs.Expr.{exprs_of}
use Rattle.cil_text.specs.declared.statement.Expr.{Expr, Expr-F, out-Expr, roll-Expr, roll-out-Expr}
use Rattle.cil_text.specs.declared.statement.Expr.TheOpen as opened
use Rattle.cil_text.specs.declared.statement.Expr.TheVariants.{Name, Union, rolls-All, rolls-Name, rolls-Not, rolls-And, rolls-Or, rolls-Xor, rolls-Union}
use Rattle.cil_reader.specs.declared.word.Word as code
use Rattle.cil_text.proofs.Rows.{union_of}
use Rattle.cil_parse.specs.declared.row.SetNode.TheVariants as nodes
use Rattle.cil_parse.proofs.BuilderLemmas.{adds-none, adds-then}

leaves-names : (names : List Word) (more : WordExpr) → leaves (names_then names more) ≡ names ++ leaves more
leaves-names [] more = refl
leaves-names (name ∷ names) more = ap (λ l. name ∷ l) (leaves-names names more)

nodes-names : (names : List Word) (more : WordExpr) → expr_nodes (names_then names more) ≡ name_nodes (length names) ++ expr_nodes more
nodes-names [] more = refl
nodes-names (name ∷ names) more = ap (λ l. nodes.Element ∷ nodes.Name ∷ l) (nodes-names names more)

plain-names : (names : List Word) (more : WordExpr) → is_plain (names_then names more) ≡ is_plain more
plain-names [] more = refl
plain-names (name ∷ names) more = plain-names names more

-- one name more
names-more : (names : List Word) (name : Word) (more : WordExpr) → names_then (names ++ name ∷ []) more ≡ names_then names (elements (named name) more)
names-more [] name more = refl
names-more (first ∷ names) name more = ap (elements (named first)) (names-more names name more)

-- a list inside another is no name
list-inside : {A : Type 0} (xs : List (Expr A)) (more : WordExpr) → is_plain (elements (exprs_of xs) more) ≡ false
list-inside [] more = refl
list-inside (x ∷ xs) more = refl

-- a list with an element that is no name is not plain
not-plain : {A : Type 0} (x : Expr A) (more : WordExpr) → ((word : code.Word) → x ≡ Name word → ⊥) → is_plain (elements (expr_of x) more) ≡ false
not-plain {A} x more no_name = by (out-Expr A x) (sym (roll-out-Expr A x))
  where
    by : (o : Expr-F A (Expr A)) → x ≡ roll-Expr A o → is_plain (elements (expr_of x) more) ≡ false
    by opened.All is = ap (λ y. is_plain (elements (expr_of y) more)) (is ∙ rolls-All)
    by (opened.Name word) is = absurd (no_name word (is ∙ rolls-Name word))
    by (opened.Not y) is = ap (λ y. is_plain (elements (expr_of y) more)) (is ∙ rolls-Not y)
    by (opened.And y z) is = ap (λ y. is_plain (elements (expr_of y) more)) (is ∙ rolls-And y z)
    by (opened.Or y z) is = ap (λ y. is_plain (elements (expr_of y) more)) (is ∙ rolls-Or y z)
    by (opened.Xor y z) is = ap (λ y. is_plain (elements (expr_of y) more)) (is ∙ rolls-Xor y z)
    by (opened.Union v) is = ap (λ y. is_plain (elements (expr_of y) more)) (is ∙ rolls-Union v) ∙ ap (λ e. is_plain (elements e more)) (union_of v) ∙ list-inside v.items more

-- an expression that is no list is not plain
pub no-list : {A : Type 0} (x : Expr A) → ((v : Vec (Expr A) A) → x ≡ Union v → ⊥) → is_plain (expr_of x) ≡ false
no-list {A} x no_union = by (out-Expr A x) (sym (roll-out-Expr A x))
  where
    by : (o : Expr-F A (Expr A)) → x ≡ roll-Expr A o → is_plain (expr_of x) ≡ false
    by opened.All is = ap (λ y. is_plain (expr_of y)) (is ∙ rolls-All)
    by (opened.Name word) is = ap (λ y. is_plain (expr_of y)) (is ∙ rolls-Name word)
    by (opened.Not y) is = ap (λ y. is_plain (expr_of y)) (is ∙ rolls-Not y)
    by (opened.And y z) is = ap (λ y. is_plain (expr_of y)) (is ∙ rolls-And y z)
    by (opened.Or y z) is = ap (λ y. is_plain (expr_of y)) (is ∙ rolls-Or y z)
    by (opened.Xor y z) is = ap (λ y. is_plain (expr_of y)) (is ∙ rolls-Xor y z)
    by (opened.Union v) is = absurd (no_union v (is ∙ rolls-Union v))

pub front-none : {A : Type 0} (b : Builder A) (all : List (Expr A)) → AddsNamesInFront b b all 0
front-none b all = record { names = []; adds = adds-none b; long = refl; in_front = refl }

-- the elements from an index on, where one is there
elements-from : {A : Type 0} (all : List (Expr A)) (i : ℕ) (x : Expr A) → i < length all → x ≡ get_or all i x → exprs_of (drop i all) ≡ elements (expr_of x) (exprs_of (drop (i + 1) all))
elements-from all i x within is = ap exprs_of (drop-cons all i x within ∙ ap (λ y. y ∷ drop (suc i) all) (sym is) ∙ ap (λ n. x ∷ drop n all) (sym (add-one i)))

-- the next element is a name too
pub front-next : {A : Type 0} (old mid new : Builder A) (all : List (Expr A)) (i : ℕ) (x : Expr A) (word : code.Word) → i < length all → x ≡ get_or all i x → x ≡ Name word
    → AddsNamesInFront old mid all i → Adds mid new (word_of word ∷ []) [] → AddsNamesInFront old new all (i + 1)
front-next old mid new all i x word within is named_so so_far adds =
    let left = exprs_of (drop (i + 1) all) in
    let here : exprs_of (drop i all) ≡ elements (named (word_of word)) left = elements-from all i x within is ∙ ap (λ y. elements (expr_of y) left) named_so in record {
      names = so_far.names ++ word_of word ∷ [];
      adds = adds-then old mid new so_far.names (word_of word ∷ []) [] [] so_far.adds adds;
      long = length-append so_far.names (word_of word ∷ []) ∙ ap (λ n. n + 1) so_far.long;
      in_front = so_far.in_front ∙ ap (names_then so_far.names) here ∙ sym (names-more so_far.names (word_of word) left);
    }

-- the next element is none
pub front-stops : {A : Type 0} (old new : Builder A) (all : List (Expr A)) (i : ℕ) (x : Expr A) → i < length all → x ≡ get_or all i x → ((word : code.Word) → x ≡ Name word → ⊥)
    → AddsNamesInFront old new all i → is_plain (exprs_of all) ≡ false
front-stops old new all i x within is no_name so_far =
    let left = exprs_of (drop (i + 1) all) in
    ap is_plain (so_far.in_front ∙ ap (names_then so_far.names) (elements-from all i x within is)) ∙ plain-names so_far.names (elements (expr_of x) left) ∙ not-plain x left no_name

-- each element is a name
pub permissions-plain : {A : Type 0} (old new : Builder A) (all : List (Expr A)) (count : ℕ) → length all ≤ count → AddsNamesInFront old new all count → AddsPermissions old new (exprs_of all)
permissions-plain old new all count past front =
    let whole : exprs_of all ≡ names_then front.names nothing = front.in_front ∙ ap (λ l. names_then front.names (exprs_of l)) (drop_all count all past) in
    let words : front.names ≡ leaves (exprs_of all) = sym (ap leaves whole ∙ leaves-names front.names nothing ∙ append-nil front.names) in
    let plain : is_plain (exprs_of all) ≡ true = ap is_plain whole ∙ plain-names front.names nothing in
    let none : [] ≡ permission_nodes (exprs_of all) = sym (ap (λ b. if b then [] else expr_nodes (exprs_of all)) plain) in
    subst (λ w. Adds old new w (permission_nodes (exprs_of all))) words (subst (Adds old new front.names) none front.adds)

-- the nodes of an expression that is no plain list of names are all there
pub nodes-other : (expr : WordExpr) → is_plain expr ≡ false → expr_nodes expr ≡ permission_nodes expr
nodes-other expr other = sym (ap (λ b. if b then [] else expr_nodes expr) other)

-- the words of the names in front, their nodes, and then the other elements
pub permissions-from : {A : Type 0} (old mid between new : Builder A) (all rest : List (Expr A)) (count : ℕ) → is_plain (exprs_of all) ≡ false → rest ≡ drop count all → AddsNamesInFront old mid all count
    → Adds mid between [] (name_nodes count) → AddsExpr between new (exprs_of rest) → AddsPermissions old new (exprs_of all)
permissions-from old mid between new all rest count other is front nodes more =
    let left = exprs_of rest in
    let whole : names_then front.names left ≡ exprs_of all = ap (λ l. names_then front.names (exprs_of l)) is ∙ sym front.in_front in
    let words : front.names ++ leaves left ≡ leaves (exprs_of all) = sym (leaves-names front.names left) ∙ ap leaves whole in
    let all_nodes : name_nodes count ++ expr_nodes left ≡ expr_nodes (exprs_of all) =
    ap (λ n. name_nodes n ++ expr_nodes left) (sym front.long) ∙ sym (nodes-names front.names left) ∙ ap expr_nodes whole in
    subst (Adds old new (leaves (exprs_of all))) (nodes-other (exprs_of all) other)
    (subst (λ w. Adds old new w (expr_nodes (exprs_of all))) words (subst (Adds old new (front.names ++ leaves left)) all_nodes
    (adds-then old mid new front.names (leaves left) [] (name_nodes count ++ expr_nodes left) front.adds
    (adds-then mid between new [] (leaves left) (name_nodes count) (expr_nodes left) nodes more))))

-- the nodes of one name more
pub name_nodes-more : (count : ℕ) → name_nodes count ++ nodes.Element ∷ nodes.Name ∷ [] ≡ name_nodes (count + 1)
name_nodes-more count = by count ∙ ap name_nodes (sym (add-one count))
  where
    by : (n : ℕ) → name_nodes n ++ nodes.Element ∷ nodes.Name ∷ [] ≡ name_nodes (suc n)
    by zero = refl
    by (suc n) = ap (λ l. nodes.Element ∷ nodes.Name ∷ l) (by n)
