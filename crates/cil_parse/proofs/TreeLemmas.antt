-- Statements that are kept as soon as they are made from their trees.
use Rattle.cil_parse.proofs.Common.{◌≡◌, ◌<◌, List, [], ◌∷◌, ◌++◌, length, sym, subst, arith, length-append, false, IsTrue, statements_of, IsInFront, IsFirstAmong, Statement, Places, Builder, Around}
use Rattle.std.proofs.Math.Seq.{take-append_seam, take-append-add, get_or-append_seam}
use Rattle.cil_specs.specs.TextFault.{TextFault}
use Rattle.cil_specs.specs.Trees.{Trees, none, are_lists}
use Rattle.cil_text.proofs.WalkLemmas.{AreFound, found_start, found_more, found_end}
use Rattle.cil_parse.specs.FromTrees.{PlacesTrees}
use Rattle.cil_parse.proofs.PlaceLemmas.{places-none, places-next}

-- one statement more
places-more : {A : Type 0} (old mid new : Builder A) (around : Around) (xs : List (Statement A)) (s : Statement A) → Places old mid around (statements_of xs) → Places mid new around (statements_of (s ∷ []))
    → Places old new around (statements_of (xs ++ s ∷ []))
places-more old mid new around xs s so_far step =
    let all = xs ++ s ∷ [] in
    let n = length xs in
    let within : n < length all = omega (arith, length-append xs (s ∷ [])) in
    subst (λ l. Places old new around (statements_of l)) (take-append-add xs (s ∷ []) 1)
    (places-next old mid new around all n s within (sym (get_or-append_seam xs s [] s))
    (subst (λ l. Places old mid around (statements_of l)) (sym (take-append_seam xs (s ∷ []))) so_far) step)

-- The statements of the trees in front of the rest came, with these around them.
pub record IsUnderWay {A : Type 0} (old new : Builder A) (around : Around) (all rest : Trees) : Type 0 where
  pub found : List (Statement A)
  pub are : AreFound false all rest found
  pub places : Places old new around (statements_of found)

pub way_start : {A : Type 0} (b : Builder A) (around : Around) (all : Trees) → IsTrue (are_lists all) → IsUnderWay b b around all all
way_start b around all lists = record { found = []; are = found_start false all lists; places = places-none b around }

pub way_more : {A : Type 0} (old mid new : Builder A) (around : Around) (all rest behind : Trees) (s : Statement A) → IsUnderWay old mid around all rest → IsInFront rest s behind → Places mid new around (statements_of (s ∷ []))
    → IsUnderWay old new around all behind
way_more old mid new around all rest behind s so_far front step = record {
  found = so_far.found ++ s ∷ [];
  are = found_more false all front.at front.end front.parts behind so_far.found s (subst (λ rest. AreFound false all rest so_far.found) front.is so_far.are) front.spelt;
  places = places-more old mid new around so_far.found s so_far.places step;
}

pub way_end : {A : Type 0} (old new : Builder A) (around : Around) (all rest : Trees) → IsUnderWay old new around all rest → rest ≡ none → PlacesTrees old new around all
way_end old new around all rest so_far is = record {
  statements = statements_of so_far.found;
  shapes = found_end false all so_far.found (subst (λ rest. AreFound false all rest so_far.found) is so_far.are);
  places = so_far.places;
}

-- the first fault of the rest is that of all
pub way_fault : {A : Type 0} (old new : Builder A) (around : Around) (all rest : Trees) (fault : TextFault) → IsUnderWay old new around all rest → IsFirstAmong false rest fault → IsFirstAmong false all fault
way_fault old new around all rest fault so_far is = record {
  is = so_far.are.up fault is.is;
  first = λ low high order other h. let o = so_far.are.order low high order in is.first o.0 high o.1 other (so_far.are.faults other h);
}
