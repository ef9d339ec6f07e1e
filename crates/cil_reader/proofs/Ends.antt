-- The reader from step to step, and at the end of the text.
use Rattle.cil_reader.proofs.Common.{◌≡◌, ℕ, ◌<◌, ◌≤◌, List, [], ◌∷◌, ◌++◌, length, drop, map, reverse, ap, sym, ◌∙◌, subst, inr, length-append, length-drop, arith, AllByRecursion, place_at, Part, spelling, IsClean, IsReadingFault, IsUnclosed, unclosed, Mark, opening_at, told, Reads, place_of, trees_in, IsPlaced, GoesOver, HaveMarks, HasRead, open_lists, Open, Reader}
use Rattle.cil_specs.proofs.PartLemmas.{size-some, clean-push, told-clean, IsRightMark, told-right, all-middle}
use Rattle.cil_reader.proofs.Marks.{marks_in, open_lists-push}
use Rattle.cil_reader.proofs.Going.{inside-open}

-- a step goes on by a byte at least
pub goes-ahead : {A : Type 0} (old new : Reader A) (part : Part) → IsPlaced old → GoesOver old new part → old.at.offset < new.at.offset
goes-ahead old new part placed goes =
    let bytes : List ℕ = old.text.now in
    omega (
      arith,
      size-some part goes.is,
      ap length goes.here,
      length-append (spelling part) (drop new.at.offset bytes),
      length-drop old.at.offset bytes,
      length-drop new.at.offset bytes,
      goes.placed.within,
      ap length goes.same,
      placed.within,
    )

-- what was read, and a part more
pub reads-more : {A : Type 0} (old new : Reader A) (parts : List Part) (part : Part) → HasRead old parts → GoesOver old new part → HasRead new (parts ++ part ∷ [])
reads-more old new parts part had goes =
    let bytes : List ℕ = old.text.now in
    let within : new.at.offset ≤ length bytes = omega (arith, goes.placed.within, ap length goes.same) in
    record {
      clean = subst (λ l. IsClean l new.at.offset (open_lists new) (parts ++ part ∷ [])) (sym goes.same)
          (clean-push bytes old.at.offset (open_lists old) parts part new.at.offset (open_lists new) had.clean within goes.here goes.is goes.ends goes.moves);
      same = subst (HaveMarks new.text.now (reverse new.outer.items) new.nodes.items)
          (sym (ap (λ l. told l 0 (parts ++ part ∷ [])) goes.same ∙ told-clean bytes old.at.offset (open_lists old) parts part had.clean)) (goes.told_more (told bytes 0 parts) had.same);
    }

at-end : {A : Type 0} (r : Reader A) (parts : List Part) → IsPlaced r → HasRead r parts → length r.text.now ≤ r.at.offset → IsClean r.text.now (length r.text.now) (open_lists r) parts
at-end r parts placed had end = subst (λ n. IsClean r.text.now n (open_lists r) parts) (let e : r.at.offset ≡ length r.text.now = omega (arith, end, placed.within) in e) had.clean

-- with no list open at the end, the text spells the trees
pub reads-all : {A : Type 0} (r : Reader A) (parts : List Part) → IsPlaced r → HasRead r parts → length r.text.now ≤ r.at.offset → r.outer.items ≡ [] → Reads r.text.now (trees_in r.text.now r.nodes.items)
reads-all r parts placed had end none =
    let seen : HaveMarks r.text.now [] r.nodes.items (told r.text.now 0 parts) = subst (λ (os : List Open). HaveMarks r.text.now (reverse os) r.nodes.items (told r.text.now 0 parts)) none had.same in (
      parts,
      subst (λ (os : List Open). IsClean r.text.now (length r.text.now) (reverse (map (λ o. o.at.offset) os)) parts) none (at-end r parts placed had end),
      seen.1,
    )

-- with a list open at the end, the innermost is the fault
pub reads-unclosed : {A : Type 0} (r : Reader A) (parts : List Part) (os : List Open) (o : Open) → IsPlaced r → HasRead r parts → length r.text.now ≤ r.at.offset → r.outer.items ≡ os ++ o ∷ []
    → IsReadingFault r.text.now (record { kind = unclosed; at = place_of o.at; word = 40 ∷ [] })
reads-unclosed r parts os o placed had end opened =
    let inside : open_lists r ≡ o.at.offset ∷ reverse (map (λ o. o.at.offset) os) = ap (λ l. reverse (map (λ o. o.at.offset) l)) opened ∙ open_lists-push os o in
    let here = inside-open r os o (told r.text.now 0 parts) opened had.same in
    let before : List Mark = here.3 in
    let within : List Mark = marks_in r.text.now here.1 in
    let seen : told r.text.now 0 parts ≡ before ++ opening_at (place_of o.at) ∷ within = here.8 in
    let right : place_of o.at ≡ place_at r.text.now o.at.offset =
    all-middle (IsRightMark r.text.now) before (opening_at (place_of o.at)) within (subst (AllByRecursion (IsRightMark r.text.now)) seen (told-right r.text.now 0 parts)) in
    let unclosed_there : IsUnclosed r.text.now (record { kind = unclosed; at = place_of o.at; word = 40 ∷ [] }) = (
      o.at.offset,
      reverse (map (λ o. o.at.offset) os),
      parts,
      subst (λ l. IsClean r.text.now (length r.text.now) l parts) inside (at-end r parts placed had end),
      λ i. record { kind = unclosed; at = right i; word = 40 ∷ [] },
    ) in
    inr unclosed_there
