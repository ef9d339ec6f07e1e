-- The namespaces from which statements look up.
use Rattle.cil_bind.proofs.Common.{◌≡◌, ℕ, zero, suc, ◌+◌, ◌<◌, ◌≤◌, List, [], ◌∷◌, ◌++◌, map, length, get_or, take, drop, Some, refl, sym, ap, ◌∙◌, subst, arith, option_map, none-some, same_Some, slice_get_within, Word, Statements, Module, Placed, placed, joined, placed-flat, flat, FlatStatement, ArePlacedAs, IsBlockOf, IsPlacedAs, Spells, kind_of, read, row_for, row_of, words_in, texts_of, citations_of, named, namespace_at, Stands, AreSpelt, AreBlockSpaces, IsBlockSpace, IsSpaced, NamedModule, ParsedModule, Row}
use Rattle.std.proofs.Common.{slice_get}
use Rattle.std.proofs.lemmas.Option.{slice_get-map}
use Rattle.cil_bind.proofs.PlaceLemmas.{flat-there, get-behind, placed-long, placed-there, row-there, spelt-at}
use Rattle.cil_bind.proofs.ScopeLemmas.{kind-block}
use Rattle.cil_parse.specs.declared.row.StatementKind.TheVariants as kinds
use Rattle.cil_bind.proofs.AroundLemmas.{get-front, joined-around}

-- the statement of which a placed one is
flat-of : (all : List Placed) (index : ℕ) (list : List FlatStatement) (statements : List Placed) (k : ℕ) (s : Placed) → ArePlacedAs all index list statements → slice_get statements k ≡ Some s
    → (f : FlatStatement) × (slice_get list k ≡ Some f) × IsPlacedAs all (index + k) f s
flat-of all index [] [] k s are at = absurd (none-some s at)
flat-of all index [] (t ∷ statements) k s are at = absurd are
flat-of all index (g ∷ list) [] k s are at = absurd are
flat-of all index (g ∷ list) (t ∷ statements) zero s are at = (g, refl, subst (λ n. IsPlacedAs all n g s) (omega arith) (subst (IsPlacedAs all index g) (same_Some t s at) are.0))
flat-of all index (g ∷ list) (t ∷ statements) (suc k) s are at =
    let rest = flat-of all (index + 1) list statements k s are.1 at in
    (rest.0, rest.1, subst (λ n. IsPlacedAs all n rest.0 s) (omega arith) rest.2)

-- what two lists give alike at an index
same-image : {X Y Z : Type 0} (f : X → Z) (g : Y → Z) (xs : List X) (ys others : List Y) (k : ℕ) (y z : Y) → map f xs ≡ map g ys → map f xs ≡ map g others → slice_get ys k ≡ Some y → slice_get others k ≡ Some z → g y ≡ g z
same-image f g xs ys others k y z one other at there = same_Some (g y) (g z) (
    sym (slice_get-map g ys k ∙ ap (option_map g) at) ∙ ap (λ l. slice_get l k) (sym one ∙ other) ∙ (slice_get-map g others k ∙ ap (option_map g) there))

module _ {A : Type 0} (p : ParsedModule A) (one other : Statements) (spells : Spells p one) (spells_other : Spells p other) (name other_name : List ℕ) where
  -- the namespace of a block doesn't depend on which statements a module spells
  same-space : (most number index other_index : ℕ) (namespace other_namespace : List (List ℕ)) → number ≤ most → IsBlockOf (placed name [] [] one) index number namespace → IsBlockOf (placed other_name [] [] other) other_index number other_namespace
      → namespace ≡ other_namespace
  same-space most zero index other_index namespace other_namespace low is is_other = is ∙ sym is_other
  same-space zero (suc k) index other_index namespace other_namespace low is is_other = absurd (omega arith)
  same-space (suc most) (suc k) index other_index namespace other_namespace low (outer, id, within, at, form, is) (outer', id', within', at', form', is') =
      let (f, here, placed_as) = flat-of (placed name [] [] one) 0 (flat 0 0 0 one) (placed name [] [] one) k outer (placed-flat name one) at in
      let (f', here', placed_as') = flat-of (placed other_name [] [] other) 0 (flat 0 0 0 other) (placed other_name [] [] other) k outer' (placed-flat other_name other) at' in
      let rows = same-image row_of row_for p.rows.items (flat 0 0 0 one) (flat 0 0 0 other) k f f' spells.rows spells_other.rows here here' in
      let words = same-image (map (read (texts_of p))) (λ g. map Some (words_in g.form)) p.words.0 (flat 0 0 0 one) (flat 0 0 0 other) k f f' spells.words spells_other.words here here' in
      let blocks : f.block ≡ f'.block = ap (λ r. r.2) rows in
      let ids : map {A = Word} Some (id ∷ []) ≡ map Some (id' ∷ []) =
      ap (λ g. map Some (words_in g)) (sym form ∙ placed_as.form) ∙ words ∙ ap (λ g. map Some (words_in g)) (sym placed_as'.form ∙ form') in
      let id_is : Some id ≡ Some id' = ap (λ l. get_or l 0 (Some id)) ids in
      let outers = same-space most f.block (0 + k) (0 + k) outer.namespace outer'.namespace (within-most most k f.block (0 + k) outer.namespace (placed name [] [] one) low (omega arith) placed_as.is_block) placed_as.is_block
      (subst (λ n. IsBlockOf (placed other_name [] [] other) (0 + k) n outer'.namespace) (sym blocks) placed_as'.is_block) in
      is ∙ (λ i. (same_Some id id' id_is i).text ∷ outers i) ∙ sym is'
    where
      within-most : (most k number index : ℕ) (namespace : List (List ℕ)) (all : List Placed) → suc k ≤ suc most → index ≡ k → IsBlockOf all index number namespace → number ≤ most
      within-most most k zero index namespace all low same is = omega arith
      within-most most k (suc j) index namespace all low same (o, i, under, at, form, rest) = omega (arith, low, same, under)

-- the namespace inside a block of a module whose statements stand behind others
space-is : (names spaces : List (List ℕ)) (rows : List Row) (before all behind : List Placed) (start index number : ℕ) (namespace : List (List ℕ)) (found : ℕ) → Stands names spaces rows (before ++ (all ++ behind)) → length before ≡ start
    → IsBlockOf all index number namespace → IsBlockSpace rows (length spaces) start number found → namespace_at names spaces found ≡ namespace
space-is names spaces rows before all behind start index zero namespace found stands long is space =
    ap (namespace_at names spaces) (space.global refl) ∙ ap (named names) stands.global ∙ sym is
space-is names spaces rows before all behind start index (suc k) namespace found stands long (outer, id, low, at, form, is) space =
    let there : slice_get (before ++ (all ++ behind)) (start + k) ≡ Some outer =
    ap (λ n. slice_get (before ++ (all ++ behind)) (n + k)) (sym long) ∙ get-behind before (all ++ behind) k ∙ get-front all behind k outer at in
    let row = row-there names spaces rows (before ++ (all ++ behind)) (start + k) outer stands.rows_are there in
    let opened = row.2.inside id form in
    ap (namespace_at names spaces) (space.inside k row.0 refl row.1 opened.0) ∙ opened.1 ∙ sym is

module _ {A : Type 0} (parsed : List (NamedModule A)) (modules : List Module) (names spaces : List (List ℕ)) (rows : List Row) where
  -- a block that some statements of a module have is there in those of the policy
  block-there : (d : NamedModule A) (m : Module) (name : List ℕ) (statements : Statements) (index number : ℕ) (namespace : List (List ℕ)) → Spells d.«module».now m.statements → Spells d.«module».now statements
      → IsBlockOf (placed name [] [] statements) index number namespace → (other : List (List ℕ)) × IsBlockOf (placed m.name [] [] m.statements) index number other
  block-there d m name statements index zero namespace spells spells_other is = ([], refl)
  block-there d m name statements index (suc k) namespace spells spells_other (outer, id, low, at, form, is) =
      let all = placed name [] [] statements in
      let (f, here, f_is) = flat-of all 0 (flat 0 0 0 statements) all k outer (placed-flat name statements) at in
      let long = placed-long d.«module».now statements name spells_other in
      let within = slice_get_within all k outer at in
      let (f', here') = flat-there d.«module».now m.statements k spells (omega (arith, long, within)) in
      let rows = same-image row_of row_for d.«module».now.rows.items (flat 0 0 0 statements) (flat 0 0 0 m.statements) k f f' spells_other.rows spells.rows here here' in
      let kind : kind_of f'.form ≡ kinds.Block = sym (ap (λ r. r.1) rows) ∙ ap kind_of (sym f_is.form ∙ form) in
      let (id', form') = kind-block f'.form kind in
      let (outer', at', is') = placed-there (placed m.name [] [] m.statements) 0 (flat 0 0 0 m.statements) (placed m.name [] [] m.statements) k f' (placed-flat m.name m.statements) here' in
      (id'.text ∷ outer'.namespace, (outer', id', low, at', is'.form ∙ form', refl))

  -- what the statements of a module look up is looked up from the namespaces inside its blocks
  pub module-spaced : (i start : ℕ) (d : NamedModule A) (found : List ℕ) → AreSpelt parsed modules → Stands names spaces rows (joined modules) → d ≡ get_or parsed i d → i < length parsed → start ≡ length (joined (take i modules))
      → AreBlockSpaces rows (length spaces) start (citations_of d.«module».now) found → IsSpaced names spaces d.«module».now found
  module-spaced i start d found are stands here low starts blocks = λ n c at.
      let space = blocks n c at in
      let m = spelt-at parsed modules i d are low in
      let spells : Spells d.«module».now m.0.statements = subst (λ e. Spells e.«module».now m.0.statements) (sym here) m.2 in (
        space.within,
        λ name statements index namespace spells_other inside.
            let there = block-there d m.0 name statements index c.block namespace spells spells_other inside in
            space-is names spaces rows (joined (take i modules)) (placed m.0.name [] [] m.0.statements) (joined (drop (i + 1) modules)) start index c.block there.0 (get_or found n 0)
            (subst (Stands names spaces rows) (joined-around modules i m.0 m.1) stands) (sym starts) there.1 space
            ∙ same-space d.«module».now m.0.statements statements spells spells_other m.0.name name c.block c.block index index there.0 namespace (omega arith) there.1 inside,
      )
