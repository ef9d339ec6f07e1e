-- The marks of nodes, where some lists among them are open.
use Rattle.cil_reader.proofs.Common.{◌≡◌, ℕ, ◌-◌, List, [], ◌∷◌, ◌++◌, length, map, reverse, refl, ap, sym, ◌∙◌, subst, append_assoc, append-nil, length-append, arith, map-append, reverse-append, take-append_seam, drop-append_seam, set-append_seam, Mark, opening_at, closing_before, marks, place_of, trees_in, AreWhole, HaveMarks, Place, Node, Open}
use Rattle.std.proofs.Math.ListN.{set}
use Rattle.cil_reader.specs.declared.node.Node.TheVariants.{Word, String, List as Listed}
use Rattle.cil_reader.proofs.Nodes.{list_in}

-- the marks of the trees that nodes stand for
abbrev pub marks_in : List ℕ → List Node → List Mark
marks_in text nodes = marks (trees_in text nodes)

whole_more : (text : List ℕ) (nodes more : List Node) → AreWhole text nodes → AreWhole text more → AreWhole text (nodes ++ more)
whole_more text nodes more first then behind =
    ap (marks_in text) (append_assoc nodes more behind) ∙ first (more ++ behind) ∙ ap (λ l. marks_in text nodes ++ l) (then behind)
    ∙ sym (append_assoc (marks_in text nodes) (marks_in text more) (marks_in text behind)) ∙ ap (λ l. l ++ marks_in text behind) (sym (first more))

pub whole_word : (text : List ℕ) (at : Place) (len : ℕ) → AreWhole text (Word at len ∷ [])
whole_word text at len behind = refl

pub whole_string : (text : List ℕ) (at : Place) (len : ℕ) → AreWhole text (String at len ∷ [])
whole_string text at len behind = refl

-- a list that says how many nodes are inside it
list-before : (text : List ℕ) (at : Place) (end : ℕ) (inside behind : List Node)
    → marks_in text (Listed at end (length inside) ∷ (inside ++ behind)) ≡ opening_at (place_of at) ∷ (marks_in text inside ++ closing_before end ∷ marks_in text behind)
list-before text at end inside behind =
    ap marks (list_in text at end (length inside) (inside ++ behind))
    ∙ (λ i. opening_at (place_of at) ∷ (marks_in text (take-append_seam inside behind i) ++ closing_before end ∷ marks_in text (drop-append_seam inside behind i)))

list-alone : (text : List ℕ) (at : Place) (end : ℕ) (inside : List Node) → marks_in text (Listed at end (length inside) ∷ inside) ≡ opening_at (place_of at) ∷ (marks_in text inside ++ closing_before end ∷ [])
list-alone text at end inside = ap (λ l. marks_in text (Listed at end (length inside) ∷ l)) (sym (append-nil inside)) ∙ list-before text at end inside []

whole_list : (text : List ℕ) (at : Place) (end : ℕ) (inside : List Node) → AreWhole text (Listed at end (length inside) ∷ inside)
whole_list text at end inside behind =
    list-before text at end inside behind ∙ ap (λ l. opening_at (place_of at) ∷ l) (sym (append_assoc (marks_in text inside) (closing_before end ∷ []) (marks_in text behind)))
    ∙ ap (λ l. l ++ marks_in text behind) (sym (list-alone text at end inside))

-- nodes behind the others
pub more_marks : (text : List ℕ) (opened : List Open) (nodes more : List Node) (seen : List Mark) → HaveMarks text opened nodes seen → AreWhole text more → HaveMarks text opened (nodes ++ more) (seen ++ marks_in text more)
more_marks text [] nodes more seen had whole = (whole_more text nodes more had.0 whole, ap (λ l. l ++ marks_in text more) had.1 ∙ sym (had.0 more))
more_marks text (o ∷ around) nodes more seen had whole =
    let before = had.0 in
    let inside = had.1 in
    let first = had.3 in (
      before,
      inside ++ more,
      had.2,
      first,
      ap (λ l. l ++ more) had.4 ∙ append_assoc before (had.2 ∷ inside) more,
      had.5,
      whole_more text inside more had.6 whole,
      had.7,
      ap (λ l. l ++ marks_in text more) had.8 ∙ append_assoc first (opening_at (place_of o.at) ∷ marks_in text inside) (marks_in text more)
          ∙ ap (λ l. first ++ opening_at (place_of o.at) ∷ l) (sym (had.6 more)),
    )

-- one more list is open
pub open_marks : (text : List ℕ) (opened : List Open) (nodes : List Node) (seen : List Mark) (o : Open) (list : Node) → HaveMarks text opened nodes seen → o.node ≡ length nodes
    → HaveMarks text (o ∷ opened) (nodes ++ list ∷ []) (seen ++ opening_at (place_of o.at) ∷ [])
open_marks text opened nodes seen o list had at = (nodes, [], list, seen, refl, at, (λ behind. refl), had, refl)

-- the innermost open list, closed
pub close_marks : (text : List ℕ) (around : List Open) (nodes : List Node) (seen : List Mark) (o : Open) (end inner : ℕ) → HaveMarks text (o ∷ around) nodes seen → inner ≡ length nodes - o.node - 1
    → HaveMarks text around (set nodes o.node (Listed o.at end inner)) (seen ++ closing_before end ∷ [])
close_marks text around nodes seen o end inner had counts =
    let before = had.0 in
    let inside = had.1 in
    let first = had.3 in
    let all : length nodes ≡ length (before ++ had.2 ∷ inside) = ap length had.4 in
    let size : length inside ≡ inner = omega (arith, all, had.5, counts, length-append before (had.2 ∷ inside)) in
    let closed = more_marks text around before (Listed o.at end (length inside) ∷ inside) first had.7 (whole_list text o.at end inside) in
    let written : before ++ Listed o.at end (length inside) ∷ inside ≡ set nodes o.node (Listed o.at end inner) =
    ap (λ n. before ++ Listed o.at end n ∷ inside) size ∙ sym (set-append_seam before had.2 inside (Listed o.at end inner))
    ∙ (λ i. set (sym had.4 i) (sym had.5 i) (Listed o.at end inner)) in
    let told : first ++ marks_in text (Listed o.at end (length inside) ∷ inside) ≡ seen ++ closing_before end ∷ [] =
    ap (λ l. first ++ l) (list-alone text o.at end inside) ∙ sym (append_assoc first (opening_at (place_of o.at) ∷ marks_in text inside) (closing_before end ∷ []))
    ∙ ap (λ l. l ++ closing_before end ∷ []) (sym had.8) in
    subst (HaveMarks text around (set nodes o.node (Listed o.at end inner))) told (subst (λ l. HaveMarks text around l (first ++ marks_in text (Listed o.at end (length inside) ∷ inside))) written closed)

-- one more open list is the innermost
pub open_lists-push : (os : List Open) (o : Open) → reverse (map (λ o. o.at.offset) (os ++ o ∷ [])) ≡ o.at.offset ∷ reverse (map (λ o. o.at.offset) os)
open_lists-push os o = ap reverse (map-append (λ o. o.at.offset) os (o ∷ [])) ∙ reverse-append (map (λ o. o.at.offset) os) (o.at.offset ∷ [])

pub reverse-push : (os : List Open) (o : Open) → reverse (os ++ o ∷ []) ≡ o ∷ reverse os
reverse-push os o = reverse-append os (o ∷ [])
