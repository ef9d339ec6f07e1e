-- The statements that stay when others are left out, and what leads to them.
use Rattle.cil_bind.proofs.Common.{◌≡◌, inl, inr, ℕ, zero, suc, ◌+◌, ◌<◌, Bool, true, false, not, cond, if◌then◌else◌, List, [], ◌∷◌, filter, length, position, get_or, Option, Some, None, refl, sym, ap, ◌∙◌, subst, arith, true≢false, lt-ltb, none-some, same_Some, slice_get_within, get_or_from_slice_get, find, option_or, option_and_then, Word, Placed, Table, is_same, declares, declaration, has_block, outward, nearest_block, inside, from_namespace, leads, is_global, components, references, Optionals, is_within, restricted, AreApart, AreMarked, IsLead, AreLeads, AreBound, AreCited, AreFrom, IsFrom, AreSpaced, IsSpaced, IsBlockOf, Statements, Spells, placed, texts_of, citations_of, cited_by, leads_at, bound_in, bound_rows, NamedModule, ParsedModule, Row}
use Rattle.std.proofs.Common.{slice_get}
use Rattle.std.specs.List.{position_or_len}
use Rattle.cil_specs.proofs.RestrictedLemmas.{has_block-restricted, nearest_block-restricted}
use Rattle.cil_lookup.proofs.LookupLemmas.{no-lead}
use Rattle.cil_parse.proofs.CitationLemmas.{cited-are}
use Rattle.cil_bind.specs.Moves.{mark, places_told, IsMovedTo, AreFound, AreAllFound}
use Rattle.cil_bind.proofs.PlaceLemmas.{get-there}
use Rattle.cil_bind.proofs.BindingLemmas.{cited-lead}

-- what is found in all is found in what is left, if it stays; what is not found is not found there
abbrev Keeps : (Placed → Bool) → Option Placed → Option Placed → Type 0
Keeps w None new = new ≡ None
Keeps w (Some s) new = w s ≡ true → new ≡ Some s

find-keeps : (w f : Placed → Bool) (policy : List Placed) → Keeps w (find f policy) (find f (filter w policy))
find-keeps w f [] = refl
find-keeps w f (s ∷ policy) = by (f s) (w s) refl refl (find-keeps w f policy)
  where
    by : (b d : Bool) → f s ≡ b → w s ≡ d → Keeps w (find f policy) (find f (filter w policy)) → Keeps w (cond b (Some s) (find f policy)) (find f (cond d (s ∷ filter w policy) (filter w policy)))
    by true true e is rest = λ yes. ap (λ b. cond b (Some s) (find f (filter w policy))) e
    by true false e is rest = λ yes. absurd (true≢false (sym yes ∙ is))
    by false true e is rest = subst (Keeps w (find f policy)) (sym (ap (λ b. cond b (Some s) (find f (filter w policy))) e)) rest
    by false false e is rest = rest

or-keeps : (w : Placed → Bool) (a b a' b' : Option Placed) → Keeps w a a' → Keeps w b b' → Keeps w (option_or a b) (option_or a' b')
or-keeps w None b a' b' first rest = subst (λ o. Keeps w b (option_or o b')) (sym first) rest
or-keeps w (Some s) b a' b' first rest = λ yes. ap (λ o. option_or o b') (first yes)

module _ (set : Optionals) (policy : List Placed) (apart : AreApart policy) (table : Table) where
  outward-keeps : (namespace : List (List ℕ)) (name : List ℕ) → Keeps (is_within set) (outward policy table namespace name) (outward (restricted set policy) table namespace name)
  outward-keeps [] name = find-keeps (is_within set) (declares table [] name) policy
  outward-keeps (inner ∷ outer) name =
      or-keeps (is_within set) (declaration policy table (inner ∷ outer) name) (outward policy table outer name)
      (declaration (restricted set policy) table (inner ∷ outer) name) (outward (restricted set policy) table outer name)
      (find-keeps (is_within set) (declares table (inner ∷ outer) name) policy) (outward-keeps outer name)

  inside-keeps : (namespace names : List (List ℕ)) → Keeps (is_within set) (inside policy table namespace names) (inside (restricted set policy) table namespace names)
  inside-keeps namespace [] = refl
  inside-keeps namespace (name ∷ []) = find-keeps (is_within set) (declares table namespace name) policy
  inside-keeps namespace (name ∷ next ∷ more) =
      subst (λ b. Keeps (is_within set) (if has_block policy namespace name then inside policy table (name ∷ namespace) (next ∷ more) else None) (if b then inside (restricted set policy) table (name ∷ namespace) (next ∷ more) else None))
      (sym (has_block-restricted set policy apart namespace name)) (by (has_block policy namespace name) (inside-keeps (name ∷ namespace) (next ∷ more)))
    where
      by : (b : Bool) → Keeps (is_within set) (inside policy table (name ∷ namespace) (next ∷ more)) (inside (restricted set policy) table (name ∷ namespace) (next ∷ more))
          → Keeps (is_within set) (if b then inside policy table (name ∷ namespace) (next ∷ more) else None) (if b then inside (restricted set policy) table (name ∷ namespace) (next ∷ more) else None)
      by true rest = rest
      by false rest = refl

  then-keeps : (names : List (List ℕ)) (o : Option (List (List ℕ))) → Keeps (is_within set) (option_and_then (λ inner. inside policy table inner names) o) (option_and_then (λ inner. inside (restricted set policy) table inner names) o)
  then-keeps names None = refl
  then-keeps names (Some inner) = inside-keeps inner names

  from-keeps : (namespace names : List (List ℕ)) → Keeps (is_within set) (from_namespace policy table namespace names) (from_namespace (restricted set policy) table namespace names)
  from-keeps namespace [] = refl
  from-keeps namespace (name ∷ []) = outward-keeps namespace name
  from-keeps namespace (name ∷ next ∷ more) =
      subst (λ o. Keeps (is_within set) (option_and_then (λ inner. inside policy table inner (next ∷ more)) (nearest_block policy namespace name)) (option_and_then (λ inner. inside (restricted set policy) table inner (next ∷ more)) o))
      (sym (nearest_block-restricted set policy apart namespace name)) (then-keeps (next ∷ more) (nearest_block policy namespace name))

  leads-keeps : (namespace : List (List ℕ)) (text : List ℕ) → Keeps (is_within set) (leads policy table namespace text) (leads (restricted set policy) table namespace text)
  leads-keeps namespace text = by (is_global text)
    where
      by : (b : Bool) → Keeps (is_within set) (if b then inside policy table [] (components text) else from_namespace policy table namespace (components text))
          (if b then inside (restricted set policy) table [] (components text) else from_namespace (restricted set policy) table namespace (components text))
      by true = inside-keeps [] (components text)
      by false = from-keeps namespace (components text)

module _ (set : Optionals) (kept : List Bool) where
  -- the statement at a new place
  at-place : (n : ℕ) (rows : List Row) (policy : List Placed) (i : ℕ) (s : Placed) (p : ℕ) → AreMarked set kept rows policy → slice_get policy i ≡ Some s → get_or (places_told kept n rows) i None ≡ Some p
      → (is_within set s ≡ true) × (k : ℕ) × (p ≡ n + k) × (slice_get (restricted set policy) k ≡ Some s)
  at-place n [] [] i s p marked at place = absurd (none-some s at)
  at-place n [] (t ∷ policy) i s p marked at place = absurd marked
  at-place n (row ∷ rows) [] i s p marked at place = absurd marked
  at-place n (row ∷ rows) (t ∷ policy) i s p marked at place =
      by (λ m j here there. at-place m rows policy j s p marked.1 here there) i (mark kept row) (is_within set t) marked.0 refl at place
    where
      by : ((m j : ℕ) → slice_get policy j ≡ Some s → get_or (places_told kept m rows) j None ≡ Some p → (is_within set s ≡ true) × (k : ℕ) × (p ≡ m + k) × (slice_get (restricted set policy) k ≡ Some s))
          → (i : ℕ) (b d : Bool) → b ≡ d → is_within set t ≡ d → slice_get (t ∷ policy) i ≡ Some s
          → get_or (if b then Some n ∷ places_told kept (n + 1) rows else None ∷ places_told kept n rows) i None ≡ Some p
          → (is_within set s ≡ true) × (k : ℕ) × (p ≡ n + k) × (slice_get (cond d (t ∷ restricted set policy) (restricted set policy)) k ≡ Some s)
      by rest i true false e is here there = cc
      by rest i false true e is here there = cc
      by rest zero true true e is here there = let same : n ≡ p = same_Some n p there in (ap (is_within set) (sym (same_Some t s here)) ∙ is, 0, omega (arith, same), here)
      by rest zero false false e is here there = absurd (none-some p there)
      by rest (suc i) true true e is here there = let more = rest (n + 1) i here there in (more.0, suc more.1, omega (arith, more.2), more.3)
      by rest (suc i) false false e is here there = rest n i here there

  -- what passes first
  first-place : (f : Placed → Bool) (n : ℕ) (rows : List Row) (policy : List Placed) (i p : ℕ) → AreMarked set kept rows policy → i < length policy → position_or_len f policy ≡ i → get_or (places_told kept n rows) i None ≡ Some p
      → p ≡ n + position_or_len f (restricted set policy)
  first-place f n [] [] i p marked low first place = absurd (omega (arith, low))
  first-place f n [] (t ∷ policy) i p marked low first place = absurd marked
  first-place f n (row ∷ rows) [] i p marked low first place = absurd marked
  first-place f n (row ∷ rows) (t ∷ policy) i p marked low first place =
      by (λ m j less is there. first-place f m rows policy j p marked.1 less is there) i (f t) (mark kept row) (is_within set t) refl marked.0 low first place
    where
      by : ((m j : ℕ) → j < length policy → position_or_len f policy ≡ j → get_or (places_told kept m rows) j None ≡ Some p → p ≡ m + position_or_len f (restricted set policy))
          → (i : ℕ) (c b d : Bool) → f t ≡ c → b ≡ d → i < suc (length policy) → cond (not c) (1 + position_or_len f policy) 0 ≡ i
          → get_or (if b then Some n ∷ places_told kept (n + 1) rows else None ∷ places_told kept n rows) i None ≡ Some p
          → p ≡ n + position_or_len f (cond d (t ∷ restricted set policy) (restricted set policy))
      by rest i c true false e m less is there = cc
      by rest i c false true e m less is there = cc
      by rest zero true true true e m less is there =
          let here : p ≡ n + 0 = (let same : n ≡ p = same_Some n p there in omega (arith, same)) in
          here ∙ ap (λ k. n + k) (sym (ap (λ c. cond (not c) (1 + position_or_len f (restricted set policy)) 0) e))
      by rest zero true false false e m less is there = absurd (none-some p there)
      by rest (suc i) true true true e m less is there = absurd (omega (arith, is))
      by rest (suc i) true false false e m less is there = absurd (omega (arith, is))
      by rest zero false true true e m less is there = absurd (omega (arith, is))
      by rest zero false false false e m less is there = absurd (omega (arith, is))
      by rest (suc i) false true true e m less is there =
          let more = rest (n + 1) i (omega (arith, less)) (omega (arith, is)) there in
          let here : p ≡ n + (1 + position_or_len f (restricted set policy)) = omega (arith, more) in
          here ∙ ap (λ k. n + k) (sym (ap (λ c. cond (not c) (1 + position_or_len f (restricted set policy)) 0) e))
      by rest (suc i) false false false e m less is there = rest n i (omega (arith, less)) (omega (arith, is)) there

position-first : (f : Placed → Bool) (xs : List Placed) (i : ℕ) → position f xs ≡ Some i → position_or_len f xs ≡ i
position-first f xs i e = by _ e
  where
    by : (b : Bool) → cond b (Some (position_or_len f xs)) None ≡ Some i → position_or_len f xs ≡ i
    by true e = same_Some (position_or_len f xs) i e
    by false e = absurd (none-some i e)

first-position : (f : Placed → Bool) (xs : List Placed) (i : ℕ) → i < length xs → position_or_len f xs ≡ i → position f xs ≡ Some i
first-position f xs i low e =
    ap (λ b. cond b (Some (position_or_len f xs)) None) (lt-ltb (position_or_len f xs) (length xs) (omega (arith, low, e))) ∙ ap Some e

module _ (set : Optionals) (policy : List Placed) (apart : AreApart policy) (kept : List Bool) (all : List Row) (marked : AreMarked set kept all policy) where
  -- what led to a statement that stays, or nowhere, leads there
  lead-moved : (table : Table) (namespace : List (List ℕ)) (text : List ℕ) (led found : Option ℕ) → IsLead table policy led (leads policy table namespace text) → IsMovedTo (places_told kept 0 all) led found
      → IsLead table (restricted set policy) found (leads (restricted set policy) table namespace text)
  lead-moved table namespace text None found lead is =
      let nowhere = subst (λ o. Keeps (is_within set) o (leads (restricted set policy) table namespace text)) (sym lead.is) (leads-keeps set policy apart table namespace text) in
      subst (λ o. IsLead table (restricted set policy) o (leads (restricted set policy) table namespace text)) (sym is)
      (no-lead table (restricted set policy) (leads (restricted set policy) table namespace text) nowhere)
  lead-moved table namespace text (Some i) found lead (p, place, is) =
      subst (λ o. IsLead table (restricted set policy) o (leads (restricted set policy) table namespace text)) (sym is) (record {
        is = here ∙ sym (there moved.0);
        within = slice_get_within (restricted set policy) p s here;
        first = λ t at. subst (λ u. position (is_same table u) (restricted set policy) ≡ Some p) (same_Some s t (sym here ∙ at)) first;
      })
    where
      found_there : (s : Placed) × (slice_get policy i ≡ Some s)
      found_there = get-there policy i lead.within

      s : Placed
      s = found_there.0

      there : is_within set s ≡ true → leads (restricted set policy) table namespace text ≡ Some s
      there = subst (λ o. Keeps (is_within set) o (leads (restricted set policy) table namespace text)) (sym lead.is ∙ found_there.1) (leads-keeps set policy apart table namespace text)

      moved : (is_within set s ≡ true) × (k : ℕ) × (p ≡ 0 + k) × (slice_get (restricted set policy) k ≡ Some s)
      moved = at-place set kept 0 all policy i s p marked found_there.1 place

      here : slice_get (restricted set policy) p ≡ Some s
      here = let at = moved.2 in let same : p ≡ moved.1 = omega (arith, at) in ap (slice_get (restricted set policy)) same ∙ moved.3

      first : position (is_same table s) (restricted set policy) ≡ Some p
      first =
          let was = position-first (is_same table s) policy i (lead.first s found_there.1) in
          let at = first-place set kept (is_same table s) 0 all policy i p marked lead.within was place in
          let now : position_or_len (is_same table s) (restricted set policy) ≡ p = omega (arith, at) in
          first-position (is_same table s) (restricted set policy) p (slice_get_within (restricted set policy) p s here) now

  -- the references of a statement lead where what they look up leads now
  module _ {A : Type 0} (names spaces : List (List ℕ)) (p : ParsedModule A) (from : List ℕ) (led new : List (Option ℕ)) where
    refs-moved : (name : List ℕ) (statements : Statements) (index block : ℕ) (namespace : List (List ℕ)) (refs : List (Table × Word)) (numbers : List ℕ) → Spells p statements
        → IsBlockOf (placed name [] [] statements) index block namespace → IsSpaced names spaces p from
        → AreFound names spaces (texts_of p) (restricted set policy) (places_told kept 0 all) (citations_of p) from led new
        → AreCited (texts_of p) (citations_of p) block refs numbers → AreLeads policy namespace refs (leads_at led numbers) → AreLeads (restricted set policy) namespace refs (leads_at new numbers)
    refs-moved name statements index block namespace [] [] spells around spaced found cited are = tt
    refs-moved name statements index block namespace [] (n ∷ numbers) spells around spaced found cited are = absurd cited
    refs-moved name statements index block namespace (r ∷ refs) [] spells around spaced found cited are = absurd cited
    refs-moved name statements index block namespace (r ∷ refs) (n ∷ numbers) spells around spaced found ((c, at, cited), others) are = (
      elim (found n c at) [
        | inl is_led ↦ cited-lead names spaces (restricted set policy) p from name statements index block namespace r n c (get_or new n None) spells around spaced at cited is_led
        | inr moved ↦ lead-moved r.0 namespace r.1.text moved.0 (get_or new n None)
            (subst (λ o. IsLead r.0 policy o (leads policy r.0 namespace r.1.text)) (get_or_from_slice_get led n moved.0 None moved.1) are.0) moved.2
      ],
      refs-moved name statements index block namespace refs numbers spells around spaced found others are.1,
    )

  module _ {A : Type 0} (names spaces : List (List ℕ)) (parsed : List (NamedModule A)) (from : List (List ℕ)) (led new : List (List (Option ℕ))) (spaced : AreSpaced names spaces parsed from)
      (found : AreAllFound names spaces (restricted set policy) parsed (places_told kept 0 all) from led new) where
    row-moved : (row : Row) (s : Placed) → IsFrom parsed row s → AreLeads policy s.namespace (references s.form) (bound_in (slice_get parsed row.«module») (get_or led row.«module» []) row.index)
        → AreLeads (restricted set policy) s.namespace (references s.form) (bound_in (slice_get parsed row.«module») (get_or new row.«module» []) row.index)
    row-moved row s is are =
        let numbers = cited_by is.m.«module».now row.index in
        let before = get_or led row.«module» [] in
        let after = get_or new row.«module» [] in
        subst (λ m. AreLeads (restricted set policy) s.namespace (references s.form) (bound_in m after row.index)) (sym is.at)
        (subst (λ f. AreLeads (restricted set policy) s.namespace (references f) (leads_at after numbers)) is.form
        (refs-moved names spaces is.m.«module».now (get_or from row.«module» []) before after is.around.0 is.statements is.around.1 is.f.block s.namespace
        (references is.f.form) numbers is.spells is.around.2 (spaced row.«module» is.m is.at) (found row.«module» is.m is.at)
        (cited-are is.m.«module».now row.index is.statements is.f is.within is.spells is.is)
        (subst (λ f. AreLeads policy s.namespace (references f) (leads_at before numbers)) (sym is.form)
        (subst (λ m. AreLeads policy s.namespace (references s.form) (bound_in m before row.index)) is.at are))))

    pub rows-moved : (rows : List Row) (statements : List Placed) → AreMarked set kept rows statements → AreFrom parsed rows statements → AreBound policy statements (bound_rows parsed led rows)
        → AreBound (restricted set policy) (restricted set statements) (bound_rows parsed new (filter (mark kept) rows))
    rows-moved [] [] marks are bound = tt
    rows-moved [] (s ∷ statements) marks are bound = absurd are
    rows-moved (row ∷ rows) [] marks are bound = absurd are
    rows-moved (row ∷ rows) (s ∷ statements) marks are bound =
        by (mark kept row) (is_within set s) marks.0 (row-moved row s are.0 bound.0) (rows-moved rows statements marks.1 are.1 bound.1)
      where
        by : (b d : Bool) → b ≡ d → AreLeads (restricted set policy) s.namespace (references s.form) (bound_in (slice_get parsed row.«module») (get_or new row.«module» []) row.index)
            → AreBound (restricted set policy) (restricted set statements) (bound_rows parsed new (filter (mark kept) rows))
            → AreBound (restricted set policy) (cond d (s ∷ restricted set statements) (restricted set statements)) (bound_rows parsed new (cond b (row ∷ filter (mark kept) rows) (filter (mark kept) rows)))
        by true true e first rest = (first, rest)
        by false false e first rest = rest
        by true false e first rest = cc
        by false true e first rest = cc
