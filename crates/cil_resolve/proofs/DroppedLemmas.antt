-- Optionals of a bound policy.
use Rattle.cil_resolve.proofs.Common.{◌≡◌, ℕ, Bool, true, false, not, ◌&&◌, if◌then◌else◌, ◌∷◌, ◌++◌, ◌<◌, List, [], length, map, get_or, Some, refl, sym, ap, ◌∙◌, subst, arith, append-nil, map-append, flat_map-append, same_Some, slice_get-get_or, slice_get_within, Word, Form, optional, is_optional, Placed, Declared, place_of, scopes, full_name, declared_as, Optionals, IsBoundTo, NamedModule, Row, row-at, from-at, HaveMarks, AreFound, mark_of, dropped_unless, dropped_if, found_with, found_as, name_in}
use Rattle.std.proofs.Common.{slice_get}
use Rattle.cil_resolve.specs.declared.dropped.Found.{Found}
use Rattle.cil_resolve.specs.declared.dropped.FoundOptional.{FoundOptional}
use Rattle.cil_bind.specs.Scope.{IsFrom}
use Rattle.cil_bind.proofs.PlaceLemmas.{get-there}
use Rattle.cil_parse.proofs.ParsedLemmas.{same-length}
use Rattle.cil_bind.specs.declared.policy.Policy.{Policy}
use Rattle.cil_resolve.proofs.FullNamesLemmas.{space_name_of, name-here}
use Rattle.cil_resolve.proofs.StatementLemmas.{mapped-at}

-- an optional has a name
pub optional-named : (form : Form) → is_optional form ≡ true → (id : Word) × (form ≡ optional id)
optional-named (optional id) is = (id, refl)
optional-named _ is = cc

-- A statement stands at a place of a bound policy, and this is its row.
module _ {A : Type 0} (p : Policy A) (parsed : List (NamedModule A)) (policy : List Placed) (i : ℕ) (row : Row) (s : Placed) (bound : IsBoundTo p parsed policy) (here : slice_get p.rows.items i ≡ Some row)
    (at : slice_get policy i ≡ Some s) where
  pub row-from : IsFrom parsed row s
  row-from = let from = from-at parsed p.rows.items policy i row bound.from here in subst (IsFrom parsed row) (same_Some from.0 s (sym from.1 ∙ at)) from.2

  pub row-module : get_or (map (λ m. m.name.now) parsed) row.«module» [] ≡ s.module_name
  row-module = mapped-at (λ m. m.name.now) parsed row.«module» row-from.m [] row-from.at ∙ row-from.named

  pub row-optional : row.is_optional ≡ is_optional s.form
  row-optional = (row-at p.names p.lookup.namespaces p.rows.items policy i row s bound.stands.rows_are here at).optional

  pub row-within : row.namespace < length p.lookup.namespaces
  row-within = (row-at p.names p.lookup.namespaces p.rows.items policy i row s bound.stands.rows_are here at).within

  pub row-name : (texts : List (List ℕ)) (name : List ℕ) → texts ≡ map (space_name_of p.names) p.lookup.namespaces → name_in texts row.namespace name ≡ full_name s.namespace name
  row-name texts name is =
      name-here p.names p.lookup.namespaces bound.stands.numbered bound.stands.global texts row s name is (row-at p.names p.lookup.namespaces p.rows.items policy i row s bound.stands.rows_are here at)

-- the row at a place, as it is read
pub row-here : (rows : List Row) (i : ℕ) (row : Row) → i < length rows → row ≡ get_or rows i row → slice_get rows i ≡ Some row
row-here rows i row low here = slice_get-get_or rows i row low ∙ ap Some (sym here)

-- what a statement adds, where it is an optional that isn't kept, and else
pub one-dropped : (kept : Bool) (s : Placed) → is_optional s.form ≡ true → kept ≡ false → dropped_unless kept s ≡ declared_as scopes s ∷ []
one-dropped kept s is not_in = ap (λ b. if b && not kept then declared_as scopes s ∷ [] else []) is ∙ ap (λ b. if not b then declared_as scopes s ∷ [] else []) not_in

pub kept-none : (kept : Bool) (s : Placed) → is_optional s.form ≡ true → kept ≡ true → dropped_unless kept s ≡ []
kept-none kept s is within = ap (λ b. if b && not kept then declared_as scopes s ∷ [] else []) is ∙ ap (λ b. if not b then declared_as scopes s ∷ [] else []) within

pub other-none : (kept : Bool) (s : Placed) → is_optional s.form ≡ false → dropped_unless kept s ≡ []
other-none kept s other = ap (λ b. if b && not kept then declared_as scopes s ∷ [] else []) other

-- the marks tell what drops
pub marked-dropped : (set : Optionals) (kept : List Bool) (policy : List Placed) (i : ℕ) (s : Placed) → HaveMarks set kept policy → slice_get policy i ≡ Some s → dropped_unless (mark_of kept i) s ≡ dropped_if set s
marked-dropped set kept policy i s marks at = by (is_optional s.form) refl
  where
    by : (b : Bool) → is_optional s.form ≡ b → dropped_unless (mark_of kept i) s ≡ dropped_if set s
    by true is = ap (λ k. dropped_unless k s) (marks i s at is)
    by false other = other-none (mark_of kept i) s other ∙ sym (other-none (set s.module_name s.at.offset) s other)

-- the name of an optional
abbrev pub name_of : Declared → List ℕ
name_of d = d.name

-- none are found, also behind others
pub found-none : {A : Type 0} (modules : List (List ℕ)) (found : Found A) → found.optionals.items ≡ [] → found.names.items ≡ [] → AreFound modules found []
found-none modules found optionals names = record { optionals = ap (map (found_with modules)) optionals; names = names }

pub found-same : {A : Type 0} (modules : List (List ℕ)) (found : Found A) (before more : List Declared) → more ≡ [] → AreFound modules found before → AreFound modules found (before ++ more)
found-same modules found before more none are = subst (AreFound modules found) (sym (ap (λ l. before ++ l) none ∙ append-nil before)) are

-- the same optionals are found
pub found-by : {A : Type 0} (modules : List (List ℕ)) (found : Found A) (declared same : List Declared) → declared ≡ same → AreFound modules found declared → AreFound modules found same
found-by modules found declared same e are = subst (AreFound modules found) e are

-- one more optional is found
pub found-more : {A : Type 0} (modules : List (List ℕ)) (old new : Found A) (before : List Declared) (o : FoundOptional) (d : Declared)
    → AreFound modules old before → new.optionals.items ≡ old.optionals.items ++ o ∷ [] → new.names.items ≡ old.names.items ++ d.name → found_with modules o ≡ found_as d
    → AreFound modules new (before ++ d ∷ [])
found-more modules old new before o d are optionals names same = record {
  optionals = ap (map (found_with modules)) optionals ∙ map-append (found_with modules) old.optionals.items (o ∷ [])
      ∙ (λ j. are.optionals j ++ same j ∷ []) ∙ sym (map-append found_as before (d ∷ []));
  names = names ∙ (λ j. are.names j ++ sym (append-nil d.name) j) ∙ sym (flat_map-append name_of before (d ∷ []));
}

-- Optionals are found: as many as are declared, and at each place the one that is declared there.
module _ {A : Type 0} (modules : List (List ℕ)) (found : Found A) (declared : List Declared) (items : List FoundOptional) (are : AreFound modules found declared) (same : items ≡ found.optionals.items) where
  all-found : map (found_with modules) items ≡ map found_as declared
  all-found = ap (map (found_with modules)) same ∙ are.optionals

  pub found-long : length items ≡ length declared
  found-long = same-length (found_with modules) found_as items declared all-found

  pub found-at : (k : ℕ) (o : FoundOptional) → slice_get items k ≡ Some o → (d : Declared) × (slice_get declared k ≡ Some d) × (found_with modules o ≡ found_as d)
  found-at k o at =
      let low = slice_get_within items k o at in
      let (d, there) = get-there declared k (omega (arith, low, found-long)) in
      let none = found_with modules o in
      (d, there, sym (mapped-at (found_with modules) items k o none at) ∙ ap (λ l. get_or l k none) all-found ∙ mapped-at found_as declared k d none there)

-- what is read behind the end of optionals
abbrev pub no_optional : FoundOptional
no_optional = record { «module» = 0; at = record { offset = 0; line = 0; column = 0 }; name_length = 0 }

-- an optional that is found is the one that is declared there, once it has its name
abbrev pub declared_by : List (List ℕ) → FoundOptional → List ℕ → Declared
declared_by modules o name = record { module_name = get_or modules o.«module» []; at = place_of o.at; name = name }

pub found-is : (modules : List (List ℕ)) (o : FoundOptional) (name : List ℕ) (d : Declared) → found_with modules o ≡ found_as d → name ≡ d.name → declared_by modules o name ≡ d
found-is modules o name d same is = λ j. record { module_name = (same j).0; at = (same j).1.0; name = is j }
