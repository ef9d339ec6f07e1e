-- Statements that come to what was gone over.
use Rattle.cil_parse.proofs.Common.{◌≡◌, ℕ, ◌+◌, ◌<◌, List, [], ◌∷◌, ◌++◌, Vec, length, get_or, take, refl, sym, ap, subst, ◌∙◌, append_assoc, append-nil, length-append, false, length-map, no_more, statement_then, statements_of, form_of, has_body, Statement, FlatStatement, flat, IsAt, Closes, Puts, Places, top, row_of, row_for, AddsForm, Builder, Around, Row}
use Rattle.cil_reader.specs.declared.place.Place as code
use Rattle.cil_reader.specs.declared.word.Word as words
use Rattle.cil_text.specs.declared.statement.Statement.TheVariants.{Block, Optional}
use Rattle.cil_parse.proofs.FlatLemmas.{head_of, flat-next, flat-leaf, flat-block, flat-optional}

pub places-none : {A : Type 0} (b : Builder A) (around : Around) → Places b b around no_more
places-none b around = record { goes = λ list at. subst (λ l. IsAt b l [] []) (sym (append-nil list)) at }

-- the words and nodes of a statement, and then its end
pub puts-head : {A : Type 0} (old mid new : Builder A) (around : Around) (s : Statement A) (row : Row) → AddsForm old mid (form_of s) → Closes mid new row → row_of row ≡ row_for (head_of around.block around.optional s) → Puts old new (top around s)
puts-head old mid new around s row adds closes is = record { goes = λ list at. closes.goes list _ _ (head_of around.block around.optional s) (adds.goes list [] [] at) refl refl is }

pub places-next : {A : Type 0} (old mid new : Builder A) (around : Around) (xs : List (Statement A)) (i : ℕ) (s : Statement A) → i < length xs → s ≡ get_or xs i s
    → Places old mid around (statements_of (take i xs)) → Places mid new around (statement_then s no_more) → Places old new around (statements_of (take (i + 1) xs))
places-next old mid new around xs i s within is so_far step = record {
  goes = λ list at. let first = flat around.block around.optional (length list) (statements_of (take i xs)) in
      let last : ℕ → List FlatStatement = λ n. flat around.block around.optional n (statement_then s no_more) in
      subst (λ l. IsAt new l [] [])
      (append_assoc list first (last (length (list ++ first))) ∙ ap (λ n. list ++ (first ++ last n)) (length-append list first) ∙ ap (λ l. list ++ l) (flat-next around.block around.optional (length list) xs i s within is))
      (step.goes (list ++ first) (so_far.goes list at));
}

pub places-leaf : {A : Type 0} (mid new : Builder A) (around : Around) (s : Statement A) → has_body (form_of s) ≡ false → Puts mid new (top around s) → Places mid new around (statement_then s no_more)
places-leaf mid new around s leaf puts = record {
  goes = λ list at. subst (λ l. IsAt new (list ++ l) [] []) (sym (flat-leaf around.block around.optional (length list) s leaf)) (puts.goes list at);
}

-- as many statements as rows
row-count : {A : Type 0} (b : Builder A) (list : List FlatStatement) → IsAt b list [] [] → length b.rows.items ≡ length list
row-count b list at = sym (length-map b.rows.items row_of) ∙ ap length at.rows ∙ length-map list row_for

pub places-block : {A : Type 0} (mid between new : Builder A) (around inner : Around) (s : Statement A) (at : code.Place) (id : words.Word) (v : Vec (Statement A) A) → s ≡ Block at id v → Puts mid between (top around s)
    → inner.block ≡ length between.rows.items → inner.optional ≡ around.optional → Places between new inner (statements_of v.items) → Places mid new around (statement_then s no_more)
places-block mid between new around inner s at id v is puts block optional places = record {
  goes = λ list here. let head = head_of around.block around.optional s in
      let first = puts.goes list here in
      let all = list ++ head ∷ [] in
      let long : length all ≡ length list + 1 = length-append list (head ∷ []) in
      let number : inner.block ≡ length list + 1 = block ∙ row-count between all first ∙ long in
      subst (λ l. IsAt new l [] [])
      (append_assoc list (head ∷ []) (flat inner.block inner.optional (length all) (statements_of v.items))
      ∙ (λ i. list ++ head ∷ flat (number i) (optional i) (long i) (statements_of v.items))
      ∙ ap (λ l. list ++ l) (sym (flat-block around.block around.optional (length list) s at id v is)))
      (places.goes all first);
}

pub places-optional : {A : Type 0} (mid between new : Builder A) (around inner : Around) (s : Statement A) (at : code.Place) (id : words.Word) (v : Vec (Statement A) A) → s ≡ Optional at id v → Puts mid between (top around s)
    → inner.optional ≡ length between.rows.items → inner.block ≡ around.block → Places between new inner (statements_of v.items) → Places mid new around (statement_then s no_more)
places-optional mid between new around inner s at id v is puts optional block places = record {
  goes = λ list here. let head = head_of around.block around.optional s in
      let first = puts.goes list here in
      let all = list ++ head ∷ [] in
      let long : length all ≡ length list + 1 = length-append list (head ∷ []) in
      let number : inner.optional ≡ length list + 1 = optional ∙ row-count between all first ∙ long in
      subst (λ l. IsAt new l [] [])
      (append_assoc list (head ∷ []) (flat inner.block inner.optional (length all) (statements_of v.items))
      ∙ (λ i. list ++ head ∷ flat (block i) (number i) (long i) (statements_of v.items))
      ∙ ap (λ l. list ++ l) (sym (flat-optional around.block around.optional (length list) s at id v is)))
      (places.goes all first);
}
