-- Statements one after the other, and the first fault among them.
use Rattle.cil_text.proofs.Common.{◌≡◌, ℕ, ◌+◌, ◌-◌, ◌<◌, ◌≤◌, inl, inr, Bool, false, ◌||◌, List, [], ◌∷◌, ◌++◌, refl, sym, ◌∙◌, ap, subst, IsTrue, arith, true≢false, TextFault, IsNoLater, Trees, none, a_list, are_lists, in_order, Form, is_optional, Statements, no_more, Fits, Shapes, IsShapeFault, IsInnerFault, first_word, OperandsFit, fits_begin, order_list, inner_fault_is, list_no_fault, inner_of_list, shapes_no_fault, fits_rise, fault_within, list_within, tree_then, statement_then, statements_of, form_of, at_of, has_body, if◌then◌else◌, block, optional, word_of, place_of, Vec, IsHeading, IsScope, IsStatement, IsFaultOf, IsFirstOf, IsFirstAmong, Tree, Statement}
use Rattle.cil_specs.specs.Place.{Place}
use Rattle.cil_specs.specs.Statements as spec
use Rattle.cil_reader.specs.declared.place.Place as code_place
use Rattle.cil_reader.specs.declared.word.Word as words
use Rattle.cil_reader.specs.declared.tree.Tree.TheVariants.{Word, String, List as Listed}
use Rattle.cil_reader.specs.declared.tree.TreeSlice.{TreeSlice}
use Rattle.cil_reader.proofs.Nodes.{tree_size}
use Rattle.cil_text.specs.declared.statement.Statement.TheVariants.{Block, Optional}
use Rattle.cil_text.proofs.Rows.{block_then, optional_then}
use Rattle.cil_text.proofs.Bodies.{leaf_then}

-- a heading of a statement that holds no others is the statement
pub leaf_is : {A : Type 0} → (inside : Bool) (at : Place) (parts : Trees) (s : Statement A) → at_of s ≡ at → IsHeading inside parts (form_of s) none → has_body (form_of s) ≡ false → IsStatement inside at parts s
leaf_is inside at parts s here heading leaf = record {
  form = form_of s;
  inner = none;
  body = no_more;
  is = λ more. leaf_then s no_more more leaf ∙ ap (λ b. spec.statement (at_of s) (form_of s) (if b then no_more else no_more) more) leaf ∙ ap (λ at. spec.statement at (form_of s) no_more more) here;
  fits = heading.fits;
  allowed = heading.allowed;
  good = heading.good;
  holds = refl;
}

-- a block and an optional are their headings with the statements inside them
pub block_is : {A : Type 0} → (inside : Bool) (at : code_place.Place) (parts : Trees) (id : words.Word) (body : Vec (Statement A) A) → IsScope inside parts (block (word_of id)) (statements_of body.items)
    → IsStatement inside (place_of at) parts (Block at id body)
block_is inside at parts id body h = record {
  form = block (word_of id);
  inner = h.inner;
  body = statements_of body.items;
  is = block_then at id body;
  fits = h.heading.fits;
  allowed = h.heading.allowed;
  good = h.heading.good;
  holds = h.holds;
}

pub optional_is : {A : Type 0} → (inside : Bool) (at : code_place.Place) (parts : Trees) (id : words.Word) (body : Vec (Statement A) A) → IsScope inside parts (optional (word_of id)) (statements_of body.items)
    → IsStatement inside (place_of at) parts (Optional at id body)
optional_is inside at parts id body h = record {
  form = optional (word_of id);
  inner = h.inner;
  body = statements_of body.items;
  is = optional_then at id body;
  fits = h.heading.fits;
  allowed = h.heading.allowed;
  good = h.heading.good;
  holds = h.holds;
}

-- the first fault of the inner statements is that of the list
pub inner_first : (inside : Bool) (at : Place) (parts inner : Trees) (form : Form) (fault : TextFault) → IsHeading inside parts form inner → IsFirstAmong (inside || is_optional form) inner fault
    → IsFirstOf inside at parts fault
inner_first inside at parts inner form fault heading is =
    let b = fits_begin parts form inner heading.fits in
    record {
      is = inr (subst (λ parts. IsInnerFault inside parts fault) (sym b.2) (inner_fault_is form b.0 b.1 inner inside fault b.3 is.is));
      first = λ low high order other h.
          let rises = fits_rise b.0 (first_word form) b.1 form inner low high (subst (λ parts. Fits parts form inner) b.2 heading.fits) (subst (λ parts. IsTrue (in_order low parts high)) b.2 order) in
          by rises.0 high rises.2 other h;
    }
  where
    by : (low high : ℕ) → IsTrue (in_order low inner high) → (other : TextFault) → IsFaultOf inside at parts other → IsNoLater fault other
    by low high order other (inl h) = absurd (list_no_fault inside at parts inner form other heading.fits heading.allowed heading.good h)
    by low high order other (inr h) = is.first low high order other (inner_of_list inside parts inner form other heading.fits h)

-- the statements, and then the others
abbrev pub statements_then : {A : Type 0} → List (Statement A) → Statements → Statements
statements_then [] more = more
statements_then (s ∷ ss) more = statement_then s (statements_then ss more)

-- the found statements are those of all the trees in front of the rest, which have no fault
pub record AreFound {A : Type 0} (inside : Bool) (all rest : Trees) (found : List (Statement A)) : Type 0 where
  pub lists : IsTrue (are_lists rest)
  pub shapes : (more : Statements) → Shapes inside rest more → Shapes inside all (statements_then found more)
  pub faults : (fault : TextFault) → IsShapeFault inside all fault → IsShapeFault inside rest fault
  pub up : (fault : TextFault) → IsShapeFault inside rest fault → IsShapeFault inside all fault
  pub order : (low high : ℕ) → IsTrue (in_order low all high) → (mid : ℕ) × IsTrue (in_order mid rest high)

pub found_start : {A : Type 0} → (inside : Bool) (all : Trees) → IsTrue (are_lists all) → AreFound {A = A} inside all all []
found_start inside all lists = record {
  lists = lists;
  shapes = λ more h. h;
  faults = λ fault h. h;
  up = λ fault h. h;
  order = λ low high order. (low, order);
}

then-push : {A : Type 0} → (ss : List (Statement A)) (s : Statement A) (more : Statements) → statements_then (ss ++ s ∷ []) more ≡ statements_then ss (statement_then s more)
then-push [] s more = refl
then-push (t ∷ ts) s more = ap (statement_then t) (then-push ts s more)

then-none : {A : Type 0} → (ss : List (Statement A)) → statements_then ss no_more ≡ statements_of ss
then-none [] = refl
then-none (s ∷ ss) = ap (statement_then s) (then-none ss)

-- a statement has no fault
statement_faults : {A : Type 0} → (inside : Bool) (at : Place) (end : ℕ) (parts rest : Trees) (s : Statement A) (fault : TextFault) → IsStatement inside at parts s → IsShapeFault inside (a_list at end parts rest) fault → IsShapeFault inside rest fault
statement_faults inside at end parts rest s fault is (inl h) = absurd (list_no_fault inside at parts is.inner is.form fault is.fits is.allowed is.good h)
statement_faults inside at end parts rest s fault is (inr (inl h)) = absurd (shapes_no_fault is.body (inside || is_optional is.form) is.inner is.holds fault (inner_of_list inside parts is.inner is.form fault is.fits h))
statement_faults inside at end parts rest s fault is (inr (inr h)) = h

pub found_more : {A : Type 0} → (inside : Bool) (all : Trees) (at : Place) (end : ℕ) (parts rest : Trees) (found : List (Statement A)) (s : Statement A) → AreFound inside all (a_list at end parts rest) found
    → IsStatement inside at parts s → AreFound inside all rest (found ++ s ∷ [])
found_more inside all at end parts rest found s so_far is = record {
  lists = so_far.lists;
  shapes = λ more h.
      subst (Shapes inside all) (sym (then-push found s more)) (so_far.shapes (statement_then s more)
      (subst (Shapes inside (a_list at end parts rest)) (sym (is.is more)) (end, parts, is.inner, rest, refl, is.fits, is.allowed, is.good, is.holds, h)));
  faults = λ fault h. statement_faults inside at end parts rest s fault is (so_far.faults fault h);
  up = λ fault h. so_far.up fault (inr (inr h));
  order = λ low high order. let o = so_far.order low high order in (end, (order_list o.0 at end parts rest high o.1).3);
}

pub found_end : {A : Type 0} → (inside : Bool) (all : Trees) (found : List (Statement A)) → AreFound inside all none found → Shapes inside all (statements_of found)
found_end inside all found so_far = subst (Shapes inside all) (then-none found) (so_far.shapes no_more refl)

-- the first fault of a list is the first of all behind those that have none
pub found_fault : {A : Type 0} → (inside : Bool) (all : Trees) (at : Place) (end : ℕ) (parts rest : Trees) (found : List (Statement A)) (fault : TextFault) → AreFound inside all (a_list at end parts rest) found
    → IsFirstOf inside at parts fault → IsFirstAmong inside all fault
found_fault inside all at end parts rest found fault so_far is = record {
  is = so_far.up fault (in-list is.is);
  first = λ low high order other h. let o = so_far.order low high order in by o.0 high o.1 other (so_far.faults other h);
}
  where
    in-list : IsFaultOf inside at parts fault → IsShapeFault inside (a_list at end parts rest) fault
    in-list (inl h) = inl h
    in-list (inr h) = inr (inl h)

    by : (low high : ℕ) → IsTrue (in_order low (a_list at end parts rest) high) → (other : TextFault) → IsShapeFault inside (a_list at end parts rest) other → IsNoLater fault other
    by low high order other (inl h) = is.first (at.offset + 1) (end - 1) (order_list low at end parts rest high order).2 other (inl h)
    by low high order other (inr (inl h)) = is.first (at.offset + 1) (end - 1) (order_list low at end parts rest high order).2 other (inr h)
    by low high order other (inr (inr h)) = inl (omega (arith, (list_within inside at end parts rest low high fault order is.is).1, (fault_within rest inside end high other (order_list low at end parts rest high order).3 h).0))

-- a tree among lists is one
pub no_other : (tree : Tree) (rest : Trees) → ((at : code_place.Place) (end : ℕ) (items : TreeSlice) → tree ≡ Listed at end items → ⊥) → IsTrue (are_lists (tree_then tree rest)) → ⊥
no_other (Word w) rest not_list lists = true≢false (sym lists)
no_other (String w) rest not_list lists = true≢false (sym lists)
no_other (Listed at end items) rest not_list lists = not_list at end items refl

-- what stands inside is less than all
pub fits_size : (form : Form) (parts inner : Trees) → Fits parts form inner → tree_size inner < tree_size parts
fits_size form parts inner fits =
    let b = fits_begin parts form inner fits in
    let all : tree_size parts ≡ tree_size b.1 + 1 = ap tree_size b.2 in
    omega (arith, all, by form b.1 b.3)
  where
    by : (form : Form) (operands : Trees) → OperandsFit operands form inner → tree_size inner ≤ tree_size operands
    by (spec.block id) operands h = let e : tree_size operands ≡ tree_size inner + 1 = ap tree_size h.0 in omega (arith, e)
    by (spec.optional id) operands h = let e : tree_size operands ≡ tree_size inner + 1 = ap tree_size h.0 in omega (arith, e)
    by _ operands h = let e : tree_size inner ≡ 0 = ap tree_size h.1 in omega (arith, e)
