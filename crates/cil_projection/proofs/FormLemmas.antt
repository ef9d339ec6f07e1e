-- How pieces are added one behind the other.
use Rattle.std.specs.Prelude.{◌≡◌, ◌≢◌, ℕ, ◌-◌, ◌≤◌, ◌++◌, length, take, drop, get_or, Bool, true, false, List, [], ◌∷◌, Option, Some, None, refl}
use Rattle.std.proofs.Common.{◌∙◌, sym, ap, subst, arith, append_assoc, append-nil, drop-cons}
use Rattle.std.proofs.lemmas.List.{map-append, take_rest}
use Rattle.cil_specs.specs.Place.{Place}
use Rattle.cil_specs.specs.Names.{Word}
use Rattle.cil_specs.specs.Expr.{IsListThen}
use Rattle.cil_specs.specs.Trees.{Trees, none, a_word, a_string, a_list}
use Rattle.cil_specs.specs.Shape.{put_word}
use Rattle.cil_projection.specs.declared.piece.Piece as code
use Rattle.cil_projection.specs.Pieces.{Piece, piece_of, pieces_of}
use Rattle.cil_projection.specs.declared.part.Part.{Part}
use Rattle.cil_projection.specs.Forms.{joined, constraint, constraints, fit, of_first, Adds}
use Rattle.cil_reader.specs.declared.word.Word as code_word
use Rattle.cil_reader.specs.declared.place.Place as code_place
use Rattle.cil_reader.specs.declared.tree.TreeSlice.{TreeSlice}
use Rattle.cil_reader.specs.declared.tree.Tree.{Tree}
use Rattle.cil_reader.specs.declared.tree.Tree.TheVariants as trees
use Rattle.cil_reader.specs.Common.{place_of, tree_then, trees_of}

-- what is one thing for all trees but those with a word in front is it where none is there
pub without_word_is : {X : Type 0} (x : X) (f : Trees → X) → f none ≡ x → ((at : Place) (text : List ℕ) (rest : Trees) → f (a_string at text rest) ≡ x)
    → ((at : Place) (end : ℕ) (items rest : Trees) → f (a_list at end items rest) ≡ x)
    → (trees : Trees) → ((word : Word) (rest : Trees) → trees ≢ put_word word rest) → f trees ≡ x
without_word_is x f at_end at_string at_list none absent = at_end
without_word_is x f at_end at_string at_list (a_word at text rest) absent = absurd (absent (record { at = at; text = text }) rest refl)
without_word_is x f at_end at_string at_list (a_string at text rest) absent = at_string at text rest
without_word_is x f at_end at_string at_list (a_list at end items rest) absent = at_list at end items rest

pub without_word : {X : Type 0} (f : Trees → Option X) → f none ≡ None → ((at : Place) (text : List ℕ) (rest : Trees) → f (a_string at text rest) ≡ None)
    → ((at : Place) (end : ℕ) (items rest : Trees) → f (a_list at end items rest) ≡ None)
    → (trees : Trees) → ((word : Word) (rest : Trees) → trees ≢ put_word word rest) → f trees ≡ None
without_word f = without_word_is None f

-- what is one thing for all trees but those with a list in front is it where none is there
pub without_list_is : {X : Type 0} (x : X) (f : Trees → X) → f none ≡ x → ((at : Place) (text : List ℕ) (rest : Trees) → f (a_word at text rest) ≡ x)
    → ((at : Place) (text : List ℕ) (rest : Trees) → f (a_string at text rest) ≡ x)
    → (trees : Trees) → ((items rest : Trees) → IsListThen trees items rest → ⊥) → f trees ≡ x
without_list_is x f at_end at_word at_string none absent = at_end
without_list_is x f at_end at_word at_string (a_word at text rest) absent = at_word at text rest
without_list_is x f at_end at_word at_string (a_string at text rest) absent = at_string at text rest
without_list_is x f at_end at_word at_string (a_list at end items rest) absent = absurd (absent items rest (at, end, refl))

pub joined_none : (x : Option (List Piece)) → joined x None ≡ None
joined_none None = refl
joined_none (Some front) = refl

pub joined_assoc : (x y z : Option (List Piece)) → joined (joined x y) z ≡ joined x (joined y z)
joined_assoc None y z = refl
joined_assoc (Some x) None z = refl
joined_assoc (Some x) (Some y) None = refl
joined_assoc (Some x) (Some y) (Some z) = ap (λ l. Some l) (append_assoc x y z)

-- what was added, and then more
pub adds_then : (before middle after : List code.Piece) (fits : Bool) (x y : Option (List Piece)) → Adds before middle true x → Adds middle after fits y → Adds before after fits (joined x y)
adds_then before middle after true x y first second =
    sym (joined_assoc (Some (pieces_of before)) x y) ∙ ap (λ front. joined front y) first ∙ second
adds_then before middle after false x y first second = ap (joined x) second ∙ joined_none x

pub constraints_list : (at : Place) (end : ℕ) (items rest : Trees) → constraints (a_list at end items rest) ≡ joined (constraint items) (constraints rest)
constraints_list at end none rest = refl
constraints_list at end (a_word place word operands) rest = refl
constraints_list at end (a_string place text more) rest = refl
constraints_list at end (a_list place last inner more) rest = refl

-- a form whose first part is told apart
pub fit_first : (part : Part) (more : List Part) (all : Trees) (tree : Tree) (rest : Trees) → all ≡ tree_then tree rest
    → fit (part ∷ more) all ≡ joined (of_first part (tree_then tree rest)) (fit more rest)
fit_first part more all (trees.Word w) rest is = ap (fit (part ∷ more)) is
fit_first part more all (trees.String w) rest is = ap (fit (part ∷ more)) is
fit_first part more all (trees.List at end items) rest is = ap (fit (part ∷ more)) is

-- the first part and then the others
pub adds_parts : (parts : List Part) (some : Part) (all : Trees) (tree : Tree) (rest : Trees) (before middle after : List code.Piece) (begins fits : Bool)
    → 1 ≤ length parts → all ≡ tree_then tree rest → begins ≡ true → Adds before middle begins (of_first (get_or parts 0 some) (tree_then tree rest))
    → Adds middle after fits (fit (take (length parts - 1) (drop 1 parts)) rest) → Adds before after fits (fit parts all)
adds_parts parts some all tree rest before middle after begins fits long is begun first more =
    let split : parts ≡ get_or parts 0 some ∷ take (length parts - 1) (drop 1 parts) =
    drop-cons parts 0 some (omega arith) ∙ ap (λ rest. get_or parts 0 some ∷ rest) (sym (take_rest parts 1)) in
    let front = get_or parts 0 some in
    let others : List Part = take (length parts - 1) (drop 1 parts) in
    subst (Adds before after fits) (sym (ap (λ l. fit l all) split ∙ fit_first front others all tree rest is))
    (adds_then before middle after fits (of_first front (tree_then tree rest)) (fit others rest) (subst (λ b. Adds before middle b (of_first front (tree_then tree rest))) begun first) more)

-- what is added to some pieces completes what was to be added to others
abbrev pub Completes : List code.Piece → Option (List Piece) → List code.Piece → Option (List Piece) → Type 0
Completes start all now rest = (after : List code.Piece) (fits : Bool) → Adds now after fits rest → Adds start after fits all

pub none_left : (now : List code.Piece) → Adds now now true (Some [])
none_left now = ap (λ l. Some l) (append-nil (pieces_of now))

pub completes_more : (start now middle : List code.Piece) (all rest first behind : Option (List Piece)) → Completes start all now rest → rest ≡ joined first behind
    → Adds now middle true first → Completes start all middle behind
completes_more start now middle all rest first behind completes is begun after fits adds =
    completes after fits (subst (Adds now after fits) (sym is) (adds_then now middle after fits first behind begun adds))

pub not_begun : (start now : List code.Piece) (all rest first behind : Option (List Piece)) → Completes start all now rest → rest ≡ joined first behind → first ≡ None → all ≡ None
not_begun start now all rest first behind completes is absent =
    completes now false (is ∙ ap (λ x. joined x behind) absent)

-- what is nothing for trees with a string or a list in front is nothing where the first tree is no word
pub no_word_first : (f : Trees → Option (List Piece)) → ((at : Place) (text : List ℕ) (rest : Trees) → f (a_string at text rest) ≡ None)
    → ((at : Place) (end : ℕ) (items rest : Trees) → f (a_list at end items rest) ≡ None)
    → (tree : Tree) (all rest : Trees) → all ≡ tree_then tree rest → ((word : code_word.Word) → tree ≡ trees.Word word → ⊥) → f all ≡ None
no_word_first f at_string at_list (trees.Word w) all rest is other = absurd (other w refl)
no_word_first f at_string at_list (trees.String w) all rest is other = ap f is ∙ at_string (place_of w.at) w.text.now rest
no_word_first f at_string at_list (trees.List at end items) all rest is other = ap f is ∙ at_list (place_of at) end (trees_of items) rest

-- a tree that is no list begins no constraints
pub no_constraint : (tree : Tree) (all rest : Trees) → all ≡ tree_then tree rest
    → ((at : code_place.Place) (end : ℕ) (items : TreeSlice) → tree ≡ trees.List at end items → ⊥) → constraints all ≡ None
no_constraint (trees.Word w) all rest is other = ap constraints is
no_constraint (trees.String w) all rest is other = ap constraints is
no_constraint (trees.List at end items) all rest is other = absurd (other at end items refl)

-- pieces behind others, and then those of names
pub names_behind : (old kept_pieces with_taken with_names names : List code.Piece) (x : code.Piece) (kept : List Piece) → pieces_of kept_pieces ≡ pieces_of old ++ kept
    → with_taken ≡ kept_pieces ++ x ∷ [] → with_names ≡ with_taken ++ names → pieces_of with_names ≡ pieces_of old ++ (kept ++ piece_of x ∷ pieces_of names)
names_behind old kept_pieces with_taken with_names names x kept are_kept are_taken are_named =
    ap pieces_of are_named ∙ map-append piece_of with_taken names
    ∙ ap (λ l. l ++ pieces_of names) (ap pieces_of are_taken ∙ map-append piece_of kept_pieces (x ∷ []) ∙ ap (λ l. l ++ piece_of x ∷ []) are_kept ∙ append_assoc (pieces_of old) kept (piece_of x ∷ []))
    ∙ append_assoc (pieces_of old) (kept ++ piece_of x ∷ []) (pieces_of names) ∙ ap (λ l. pieces_of old ++ l) (append_assoc kept (piece_of x ∷ []) (pieces_of names))

-- the same in front of what is needed
pub adds_behind : (empty kept_pieces with_taken with_names names after : List code.Piece) (x : code.Piece) (kept : List Piece) (fits : Bool) (needs : Option (List Piece)) → empty ≡ []
    → pieces_of kept_pieces ≡ pieces_of empty ++ kept → with_taken ≡ kept_pieces ++ x ∷ [] → with_names ≡ with_taken ++ names → fits ≡ true → Adds with_names after fits needs
    → Some (pieces_of after) ≡ joined (Some (kept ++ piece_of x ∷ pieces_of names)) needs
adds_behind empty kept_pieces with_taken with_names names after x kept fits needs none_yet are_kept are_taken are_named fit_all adds =
    let front : pieces_of with_names ≡ kept ++ piece_of x ∷ pieces_of names =
    names_behind empty kept_pieces with_taken with_names names x kept are_kept are_taken are_named ∙ ap (λ l. pieces_of l ++ (kept ++ piece_of x ∷ pieces_of names)) none_yet in
    sym (ap (λ l. joined (Some l) needs) (sym front) ∙ subst (λ b. Adds with_names after b needs) fit_all adds)

-- one piece was added
pub added_one : (now pushed : List code.Piece) (x : code.Piece) → pushed ≡ now ++ x ∷ [] → pieces_of pushed ≡ pieces_of now ++ piece_of x ∷ []
added_one now pushed x is = ap pieces_of is ∙ map-append piece_of now (x ∷ [])

pub pushed_one : (now pushed : List code.Piece) (x : code.Piece) → pushed ≡ now ++ x ∷ [] → Adds now pushed true (Some (piece_of x ∷ []))
pushed_one now pushed x is = ap (λ l. Some l) (sym (added_one now pushed x is))

-- three lists behind another
pub three_behind : (old first second all : List ℕ) (a x b : List ℕ) → first ≡ old ++ a → second ≡ first ++ x → all ≡ second ++ b → all ≡ old ++ ((a ++ x) ++ b)
three_behind old first second all a x b is_first is_second is_all =
    is_all ∙ ap (λ l. l ++ b) (is_second ∙ ap (λ l. l ++ x) is_first ∙ append_assoc old a x) ∙ append_assoc old (a ++ x) b
