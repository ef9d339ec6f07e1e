-- Statements one behind the other.
use Rattle.cil_parse.proofs.Common.{◌≡◌, ℕ, suc, ◌+◌, ◌<◌, ◌≤◌, List, [], ◌∷◌, ◌++◌, Vec, length, get_or, take, refl, sym, ap, ◌∙◌, append_assoc, append-nil, arith, length-append, false, if◌then◌else◌, take_more, Statements, no_more, statement, statement_then, row_statements, statements_of, form_of, at_of, has_body, Statement, Block', Optional', FlatStatement, block_inside, optional_inside, count, flat}
use Rattle.cil_reader.specs.declared.place.Place as code
use Rattle.cil_reader.specs.declared.word.Word as words
use Rattle.cil_text.specs.declared.statement.Statement.TheVariants.{Block, Optional}
use Rattle.cil_text.specs.declared.statement.Statement.TheViews.{size-Statement, sized-Block, sized-Optional}
use denote.Param.Weighed.{most, at_most}
use Rattle.cil_text.proofs.Rows.{block_then, optional_then}
use Rattle.cil_text.proofs.Bodies.{leaf_then}

-- the statements inside one
inside_of : {A : Type 0} → Statement A → Statements
inside_of (Block' at id shape body) = row_statements body
inside_of (Optional' at id shape body) = row_statements body
inside_of _ = no_more

statement-is : {A : Type 0} (s : Statement A) (more : Statements) → statement_then s more ≡ statement (at_of s) (form_of s) (inside_of s) more
unfolding inside_of
statement-is (Block' at id shape body) more = refl
statement-is _ more = refl

pub length-flat : (in_block in_optional n : ℕ) (s : Statements) → length (flat in_block in_optional n s) ≡ count s
length-flat in_block in_optional n no_more = refl
length-flat in_block in_optional n (statement at form body more) =
    let inner = flat (block_inside form n in_block) (optional_inside form n in_optional) (n + 1) body in
    let rest = flat in_block in_optional (n + 1 + count body) more in
    ap suc (length-append inner rest ∙ (λ i. length-flat (block_inside form n in_block) (optional_inside form n in_optional) (n + 1) body i + length-flat in_block in_optional (n + 1 + count body) more i))

-- the statements of two lists, one behind the other
flat-append : {A : Type 0} (in_block in_optional n : ℕ) (xs ys : List (Statement A))
    → flat in_block in_optional n (statements_of (xs ++ ys)) ≡ flat in_block in_optional n (statements_of xs) ++ flat in_block in_optional (n + count (statements_of xs)) (statements_of ys)
flat-append in_block in_optional n [] ys = ap (λ k. flat in_block in_optional k (statements_of ys)) (omega arith)
flat-append {A} in_block in_optional n (x ∷ xs) ys =
    let body = inside_of x in
    let inner = flat (block_inside (form_of x) n in_block) (optional_inside (form_of x) n in_optional) (n + 1) body in
    let head : FlatStatement = record { at = at_of x; form = form_of x; block = in_block; optional = in_optional } in
    let next = n + 1 + count body in
    let long : count (statements_of (x ∷ xs)) ≡ suc (count body + count (statements_of xs)) = ap count (statement-is x (statements_of xs)) in
    let behind : next + count (statements_of xs) ≡ n + count (statements_of (x ∷ xs)) = omega arith in
    let first : flat in_block in_optional n (statements_of (x ∷ xs)) ≡ head ∷ (inner ++ flat in_block in_optional next (statements_of xs)) = ap (flat in_block in_optional n) (statement-is x (statements_of xs)) in
    ap (flat in_block in_optional n) (statement-is x (statements_of (xs ++ ys))) ∙ ap (λ l. head ∷ (inner ++ l)) (flat-append in_block in_optional next xs ys)
    ∙ ap (λ l. head ∷ l) (sym (append_assoc inner (flat in_block in_optional next (statements_of xs)) (flat in_block in_optional (next + count (statements_of xs)) (statements_of ys))))
    ∙ ap (λ k. (head ∷ (inner ++ flat in_block in_optional next (statements_of xs))) ++ flat in_block in_optional k (statements_of ys)) behind
    ∙ ap (λ l. l ++ flat in_block in_optional (n + count (statements_of (x ∷ xs))) (statements_of ys)) (sym first)

-- with the next of a list
pub flat-next : {A : Type 0} (in_block in_optional n : ℕ) (xs : List (Statement A)) (i : ℕ) (s : Statement A) → i < length xs → s ≡ get_or xs i s
    → flat in_block in_optional n (statements_of (take i xs)) ++ flat in_block in_optional (n + length (flat in_block in_optional n (statements_of (take i xs)))) (statement_then s no_more)
    ≡ flat in_block in_optional n (statements_of (take (i + 1) xs))
flat-next in_block in_optional n xs i s within is =
    let first = take i xs in
    ap (λ k. flat in_block in_optional n (statements_of first) ++ flat in_block in_optional (n + k) (statement_then s no_more)) (length-flat in_block in_optional n (statements_of first))
    ∙ sym (ap (λ l. flat in_block in_optional n (statements_of l)) (take_more xs i s within ∙ ap (λ y. first ++ y ∷ []) (sym is)) ∙ flat-append in_block in_optional n first (s ∷ []))

abbrev pub head_of : {A : Type 0} → ℕ → ℕ → Statement A → FlatStatement
head_of in_block in_optional s = record { at = at_of s; form = form_of s; block = in_block; optional = in_optional }

pub flat-leaf : {A : Type 0} (in_block in_optional n : ℕ) (s : Statement A) → has_body (form_of s) ≡ false → flat in_block in_optional n (statement_then s no_more) ≡ head_of in_block in_optional s ∷ []
flat-leaf in_block in_optional n s leaf =
    ap (flat in_block in_optional n) (leaf_then s no_more no_more leaf ∙ ap (λ b. statement (at_of s) (form_of s) (if b then no_more else no_more) no_more) leaf)

pub flat-block : {A : Type 0} (in_block in_optional n : ℕ) (s : Statement A) (at : code.Place) (id : words.Word) (v : Vec (Statement A) A) → s ≡ Block at id v
    → flat in_block in_optional n (statement_then s no_more) ≡ head_of in_block in_optional s ∷ flat (n + 1) in_optional (n + 1) (statements_of v.items)
flat-block in_block in_optional n s at id v is =
    ap (λ r. flat in_block in_optional n (statement_then r no_more)) is ∙ ap (flat in_block in_optional n) (block_then at id v no_more)
    ∙ ap (λ l. head_of in_block in_optional (Block at id v) ∷ l) (append-nil _) ∙ ap (λ r. head_of in_block in_optional r ∷ flat (n + 1) in_optional (n + 1) (statements_of v.items)) (sym is)

pub flat-optional : {A : Type 0} (in_block in_optional n : ℕ) (s : Statement A) (at : code.Place) (id : words.Word) (v : Vec (Statement A) A) → s ≡ Optional at id v
    → flat in_block in_optional n (statement_then s no_more) ≡ head_of in_block in_optional s ∷ flat in_block (n + 1) (n + 1) (statements_of v.items)
flat-optional in_block in_optional n s at id v is =
    ap (λ r. flat in_block in_optional n (statement_then r no_more)) is ∙ ap (flat in_block in_optional n) (optional_then at id v no_more)
    ∙ ap (λ l. head_of in_block in_optional (Optional at id v) ∷ l) (append-nil _) ∙ ap (λ r. head_of in_block in_optional r ∷ flat in_block (n + 1) (n + 1) (statements_of v.items)) (sym is)

-- the statements inside a block or an optional among statements are less deep than these
pub block-depth : {A : Type 0} → (s : Statement A) (at : code.Place) (id : words.Word) (v : Vec (Statement A) A) → s ≡ Block at id v → most (size-Statement A) v.items < size-Statement A s
block-depth {A} s at id v made =
    let here : size-Statement A s ≡ size-Statement A (Block at id v) = ap (size-Statement A) made in
    omega (arith, sized-Block A at id v, here)

pub optional-depth : {A : Type 0} → (s : Statement A) (at : code.Place) (id : words.Word) (v : Vec (Statement A) A) → s ≡ Optional at id v → most (size-Statement A) v.items < size-Statement A s
optional-depth {A} s at id v made =
    let here : size-Statement A s ≡ size-Statement A (Optional at id v) = ap (size-Statement A) made in
    omega (arith, sized-Optional A at id v, here)

-- a statement is no deeper than the list that it is in
pub statement-depth : {A : Type 0} → (statements : List (Statement A)) (i : ℕ) (s : Statement A) → i < length statements → s ≡ get_or statements i s → size-Statement A s ≤ most (size-Statement A) statements
statement-depth {A} statements i s within is =
    let here : size-Statement A s ≡ size-Statement A (get_or statements i s) = ap (size-Statement A) is in
    omega (arith, at_most (size-Statement A) statements i s within, here)
