-- The statements of a module one behind the other are those of the joined policy.
use Rattle.cil_parse.proofs.Common.{◌≡◌, ℕ, zero, suc, ◌+◌, ◌≤◌, List, [], ◌∷◌, ◌++◌, length, slice_get, Some, refl, sym, ap, subst, ◌∙◌, append_assoc, append-nil, add-one, length-append, arith, Form, block, optional, Statements, no_more, statement, FlatStatement, block_inside, optional_inside, count, flat}
use Rattle.cil_specs.specs.Joined.{Placed, placed, namespace_inside, optionals_inside}
use Rattle.cil_parse.specs.Around.{IsBlockOf, IsOptionalOf, ArePlacedAs}
use Rattle.cil_parse.proofs.FlatLemmas.{length-flat}

block-later : (all : List Placed) (low high n : ℕ) (namespace : List (List ℕ)) → low ≤ high → IsBlockOf all low n namespace → IsBlockOf all high n namespace
block-later all low high zero namespace more is = is
block-later all low high (suc k) namespace more (outer, id, less, at, form, same) = (outer, id, omega arith, at, form, same)

optional-later : (all : List Placed) (low high n : ℕ) (optionals : List ℕ) → low ≤ high → IsOptionalOf all low n optionals → IsOptionalOf all high n optionals
optional-later all low high zero optionals more is = is
optional-later all low high (suc k) optionals more (outer, id, less, at, form, same) = (outer, id, omega arith, at, form, same)

one-later : (n : ℕ) → n ≤ n + 1
one-later n = omega arith

-- around the statements inside a statement of an index
block-around : (all : List Placed) (index : ℕ) (s : Placed) (form : Form) (n : ℕ) → slice_get all index ≡ Some s → s.form ≡ form → IsBlockOf all index n s.namespace → IsBlockOf all (index + 1) (block_inside form index n) (namespace_inside form s.namespace)
block-around all index s (block id) n here is around =
    subst (λ k. IsBlockOf all (index + 1) k (id.text ∷ s.namespace)) (sym (add-one index)) (s, id, omega arith, here, is, refl)
block-around all index s (optional id) n here is around = block-later all index (index + 1) n s.namespace (one-later index) around
block-around all index s _ n here is around = block-later all index (index + 1) n s.namespace (one-later index) around

optional-around : (all : List Placed) (index : ℕ) (s : Placed) (form : Form) (n : ℕ) → slice_get all index ≡ Some s → s.form ≡ form → IsOptionalOf all index n s.optionals
    → IsOptionalOf all (index + 1) (optional_inside form index n) (optionals_inside form s.at s.optionals)
optional-around all index s (optional id) n here is around =
    subst (λ k. IsOptionalOf all (index + 1) k (s.at.offset ∷ s.optionals)) (sym (add-one index)) (s, id, omega arith, here, is, refl)
optional-around all index s (block id) n here is around = optional-later all index (index + 1) n s.optionals (one-later index) around
optional-around all index s _ n here is around = optional-later all index (index + 1) n s.optionals (one-later index) around

placed-both : (all : List Placed) (index : ℕ) (list more : List FlatStatement) (statements others : List Placed) → ArePlacedAs all index list statements → ArePlacedAs all (index + length list) more others → ArePlacedAs all index (list ++ more) (statements ++ others)
placed-both all index [] more [] others first second = subst (λ k. ArePlacedAs all k more others) (omega arith) second
placed-both all index [] more (s ∷ statements) others first second = absurd first
placed-both all index (f ∷ list) more [] others first second = absurd first
placed-both all index (f ∷ list) more (s ∷ statements) others first second =
    let next : index + length (f ∷ list) ≡ index + 1 + length list = omega arith in
    (first.0, placed-both all (index + 1) list more statements others first.1 (subst (λ k. ArePlacedAs all k more others) next second))

get-behind : {X : Type 0} (before : List X) (x : X) (after : List X) → slice_get (before ++ x ∷ after) (length before) ≡ Some x
get-behind [] x after = refl
get-behind (y ∷ before) x after = get-behind before x after

length-placed : (name : List ℕ) (namespace : List (List ℕ)) (optionals : List ℕ) (s : Statements) → length (placed name namespace optionals s) ≡ count s
length-placed name namespace optionals no_more = refl
length-placed name namespace optionals (statement at form body more) =
    let inner = placed name (namespace_inside form namespace) (optionals_inside form at optionals) body in
    let rest = placed name namespace optionals more in
    ap suc (length-append inner rest ∙ (λ i. length-placed name (namespace_inside form namespace) (optionals_inside form at optionals) body i + length-placed name namespace optionals more i))

-- the statements of a part of the joined policy
placed-part : (name : List ℕ) (all before after : List Placed) (namespace : List (List ℕ)) (optionals : List ℕ) (in_block in_optional n : ℕ) (s : Statements) → all ≡ before ++ placed name namespace optionals s ++ after → n ≡ length before
    → IsBlockOf all n in_block namespace → IsOptionalOf all n in_optional optionals → ArePlacedAs all n (flat in_block in_optional n s) (placed name namespace optionals s)
placed-part name all before after namespace optionals in_block in_optional n no_more whole index is_block is_optional = tt
placed-part name all before after namespace optionals in_block in_optional n (statement at form body more) whole index is_block is_optional =
    let top : Placed = record { module_name = name; at = at; form = form; namespace = namespace; optionals = optionals } in
    let inner = placed name (namespace_inside form namespace) (optionals_inside form at optionals) body in
    let rest = placed name namespace optionals more in
    let inner_block = block_inside form n in_block in
    let inner_optional = optional_inside form n in_optional in
    let split : all ≡ before ++ top ∷ ((inner ++ rest) ++ after) = whole ∙ append_assoc before (top ∷ (inner ++ rest)) after in
    let here : slice_get all n ≡ Some top = (λ i. slice_get (split i) (index i)) ∙ get-behind before top ((inner ++ rest) ++ after) in
    let front = before ++ top ∷ [] in
    let first : all ≡ front ++ inner ++ (rest ++ after) =
    split ∙ ap (λ l. before ++ top ∷ l) (append_assoc inner rest after) ∙ sym (append_assoc before (top ∷ []) (inner ++ (rest ++ after))) ∙ sym (append_assoc front inner (rest ++ after)) in
    let one : n + 1 ≡ length front = ap (λ k. k + 1) index ∙ sym (length-append before (top ∷ [])) in
    let many = length-placed name (namespace_inside form namespace) (optionals_inside form at optionals) body in
    let flat_many = length-flat inner_block inner_optional (n + 1) body in
    let second : all ≡ (front ++ inner) ++ rest ++ after = first ∙ sym (append_assoc (front ++ inner) rest after) in
    let behind : n + 1 + count body ≡ length (front ++ inner) = (λ i. one i + sym many i) ∙ sym (length-append front inner) in
    let low : n ≤ n + 1 + count body = omega arith in (
      record { at = refl; form = refl; is_block = is_block; is_optional = is_optional },
      placed-both all (n + 1) (flat inner_block inner_optional (n + 1) body) (flat in_block in_optional (n + 1 + count body) more) inner rest
          (placed-part name all front (rest ++ after) (namespace_inside form namespace) (optionals_inside form at optionals) inner_block inner_optional (n + 1) body first one
          (block-around all n top form in_block here refl is_block) (optional-around all n top form in_optional here refl is_optional))
          (subst (λ k. ArePlacedAs all k (flat in_block in_optional (n + 1 + count body) more) rest) (ap (λ k. n + 1 + k) (sym flat_many))
          (placed-part name all (front ++ inner) after namespace optionals in_block in_optional (n + 1 + count body) more second behind
          (block-later all n (n + 1 + count body) in_block namespace low is_block) (optional-later all n (n + 1 + count body) in_optional optionals low is_optional))),
    )

-- the statements of a module are those of its joined policy
pub placed-flat : (name : List ℕ) (s : Statements) → ArePlacedAs (placed name [] [] s) 0 (flat 0 0 0 s) (placed name [] [] s)
placed-flat name s = placed-part name (placed name [] [] s) [] [] [] [] 0 0 0 s (sym (append-nil _)) refl refl refl
