-- The text of a row, written in pieces.
use Rattle.cil_rules.proofs.Common.{◌≡◌, ◌<◌, ℕ, Bool, true, false, cond, refl, List, [], ◌∷◌, ◌++◌, length, map, codes, Option, Result, Ok, Err, IfOk, OnOk, OnErr, sym, ap, ◌∙◌, subst, append_assoc, IsTrue, All, AllByRecursion, filter, flat_map, both_ways, All-from_recursion, recursion_from_All, on_err_weaker, AreAtoms, Row, AreRows, row_line, Gains, GainsFront, gains-both, gains-then_front, front-longer, rule_kind_of, AccessNumbers, IsWithin, name_at, rows_of, row_head, row_at, name_text, permission_text, chunk_text}
use Rattle.std.proofs.lemmas.List.Folds.{flat_map-map}
use Rattle.cil_specs.specs.Rule as spec
use Rattle.cil_accesses.specs.declared.chunk.Chunk.{Chunk}
use Rattle.cil_accesses.specs.View.{access_at, at_bit, has_bit}
use Rattle.cil_text.specs.declared.statement.RuleKind.TheVariants.{Allow}
use Rattle.cil_rules.proofs.RowLemmas.{are-rows}

-- the line of a row is its head, its permissions and its end
pub line-parts : (r : Row) → row_line r ≡ row_head r.kind r.source r.target r.the_class ++ (flat_map (λ p. p ++ codes " ") r.permissions ++ codes "};\n")
line-parts r = append_assoc (row_head r.kind r.source r.target r.the_class) (flat_map (λ p. p ++ codes " ") r.permissions) (codes "};\n")

pub line-is : (names : List (List ℕ)) (first : AccessNumbers) (atoms : List AccessNumbers)
    → row_line (row_at names first atoms) ≡ row_head (rule_kind_of first.kind) (name_at names first.source) (name_at names first.target) (name_at names first.class) ++ (flat_map (permission_text names) atoms ++ codes "};\n")
line-is names first atoms =
    line-parts (row_at names first atoms)
    ∙ ap (λ l. row_head (rule_kind_of first.kind) (name_at names first.source) (name_at names first.target) (name_at names first.class) ++ (l ++ codes "};\n"))
    (flat_map-map (λ p. p ++ codes " ") (λ a. name_at names a.permission) atoms)

-- the permissions of a row are those of its chunks that have its bit
pub chunks-text : (names : List (List ℕ)) (bit : ℕ) (chunks : List Chunk) → flat_map (permission_text names) (at_bit bit chunks) ≡ flat_map (chunk_text names bit) chunks
chunks-text names bit [] = refl
chunks-text names bit (c ∷ chunks) = by (has_bit bit c) (chunks-text names bit chunks)
  where
    by : (b : Bool) → flat_map (permission_text names) (at_bit bit chunks) ≡ flat_map (chunk_text names bit) chunks
        → flat_map (permission_text names) (map (access_at bit) (cond b (c ∷ filter (has_bit bit) chunks) (filter (has_bit bit) chunks))) ≡ cond b (name_text names c.permission) [] ++ flat_map (chunk_text names bit) chunks
    by true rest = ap (λ l. name_text names c.permission ++ l) rest
    by false rest = rest

-- the line of a row whose permissions are those of chunks
pub row-line-is : (names : List (List ℕ)) (first : AccessNumbers) (bit : ℕ) (chunks : List Chunk)
    → row_line (row_at names first (at_bit bit chunks)) ≡ row_head (rule_kind_of first.kind) (name_at names first.source) (name_at names first.target) (name_at names first.class) ++ (flat_map (chunk_text names bit) chunks ++ codes "};\n")
row-line-is names first bit chunks =
    line-is names first (at_bit bit chunks)
    ∙ ap (λ l. row_head (rule_kind_of first.kind) (name_at names first.source) (name_at names first.target) (name_at names first.class) ++ (l ++ codes "};\n")) (chunks-text names bit chunks)

within-each : (n bit : ℕ) (chunks : List Chunk) → AllByRecursion (IsWithin n) (at_bit bit chunks) → AllByRecursion (λ c. IsTrue (has_bit bit c) → c.permission < n) chunks
within-each n bit [] all = tt
within-each n bit (c ∷ chunks) all = by (has_bit bit c) refl (within-each n bit chunks) all
  where
    by : (b : Bool) → has_bit bit c ≡ b → (AllByRecursion (IsWithin n) (at_bit bit chunks) → AllByRecursion (λ c. IsTrue (has_bit bit c) → c.permission < n) chunks)
        → AllByRecursion (IsWithin n) (map (access_at bit) (cond b (c ∷ filter (has_bit bit) chunks) (filter (has_bit bit) chunks))) → AllByRecursion (λ c. IsTrue (has_bit bit c) → c.permission < n) (c ∷ chunks)
    by true set others all = (λ h. all.0.permission, others all.1)
    by false unset others all = (λ h. absurd (both_ways (has_bit bit c) unset h), others all)

-- where the accesses of a row have names, so have their permissions
pub permissions-within : (n bit : ℕ) (chunks : List Chunk) → All (IsWithin n) (at_bit bit chunks) → All (λ c. IsTrue (has_bit bit c) → c.permission < n) chunks
permissions-within n bit chunks all =
    All-from_recursion (λ c. IsTrue (has_bit bit c) → c.permission < n) chunks (within-each n bit chunks (recursion_from_All (IsWithin n) (at_bit bit chunks) all))

-- the chunk that a place past the end of a list is read as
abbrev pub no_chunk : Chunk
no_chunk = record { kind = Allow; source = 0; word = 0; class = 0; permission = 0; bits = 0 }

-- a text ends with the text that is written from a state on
abbrev pub Ends : Option (List ℕ) → Option (List ℕ) → List ℕ → Option (List ℕ) → List ℕ → Type 0
Ends near new end old whole = (Gains near new end → Gains old new whole) × (GainsFront near new end → GainsFront old new whole)

-- three texts, one after the other
module _ (old mid near new : Option (List ℕ)) (first second third whole : List ℕ) (is : whole ≡ first ++ (second ++ third)) where
  pub front-in_first : GainsFront old new first → GainsFront old new whole
  front-in_first front = subst (GainsFront old new) (sym is) (front-longer old new first (second ++ third) front)

  pub front-in_second : Gains old mid first → GainsFront mid new second → GainsFront old new whole
  front-in_second gains front = subst (GainsFront old new) (sym is) (gains-then_front old mid new first (second ++ third) gains (front-longer mid new second third front))

  -- what is said of the third is said of the whole
  pub third-in_whole : Gains old mid first → Gains mid near second → Ends near new third old whole
  third-in_whole gains more = (
    λ most. subst (Gains old new) (sym is) (gains-both old mid new first (second ++ third) gains (gains-both mid near new second third more most)),
    λ front. subst (GainsFront old new) (sym is) (gains-then_front old mid new first (second ++ third) gains (gains-then_front mid near new second third more front)),
  )

-- the line of the next row
module _ (text whole : List ℕ) (row : Row) (rows later : List Row) (is : rows ≡ row ∷ later) (rest : text ++ flat_map row_line rows ≡ whole) where
  pub text-more : (text ++ row_line row) ++ flat_map row_line later ≡ whole
  text-more = append_assoc text (row_line row) (flat_map row_line later) ∙ ap (λ l. text ++ flat_map row_line l) (sym is) ∙ rest

  pub front-in_row : (old mid new : Option (List ℕ)) → Gains old mid text → GainsFront mid new (row_line row) → GainsFront old new whole
  front-in_row old mid new gains front =
      subst (GainsFront old new) text-more (front-longer old new (text ++ row_line row) (flat_map row_line later) (gains-then_front old mid new text (row_line row) gains front))

-- the rows of the listing were written
module _ {E : Type 0} (old new : Option (List ℕ)) (r : Result ℕ E) (written atoms : List spec.Atom) (is : written ≡ atoms) where
  pub listing-ok : IfOk r (λ n. n ≡ length (rows_of written)) → OnOk r (Gains old new (flat_map row_line (rows_of written)))
      → IfOk r (λ n. (p : spec.Atom → Bool) → AreAtoms p atoms → (rows : List Row) × AreRows p rows × (n ≡ length rows) × Gains old new (flat_map row_line rows))
  listing-ok count gains = by r count gains
    where
      by : (s : Result ℕ E) → IfOk s (λ n. n ≡ length (rows_of written)) → OnOk s (Gains old new (flat_map row_line (rows_of written)))
          → IfOk s (λ n. (p : spec.Atom → Bool) → AreAtoms p atoms → (rows : List Row) × AreRows p rows × (n ≡ length rows) × Gains old new (flat_map row_line rows))
      by (Ok n) count gains = λ p are. (rows_of written, are-rows p written (subst (AreAtoms p) (sym is) are), count, gains)
      by (Err e) count gains = tt

  pub listing-err : OnErr r (GainsFront old new (flat_map row_line (rows_of written)))
      → OnErr r ((p : spec.Atom → Bool) → AreAtoms p atoms → (rows : List Row) × AreRows p rows × GainsFront old new (flat_map row_line rows))
  listing-err front = on_err_weaker r (λ begun p are. (rows_of written, are-rows p written (subst (AreAtoms p) (sym is) are), begun)) front

-- the texts of images
pub mapped-text : {X Y : Type 0} (f : Y → List ℕ) (v : X → Y) (xs : List X) (ys : List Y) → map v xs ≡ ys → flat_map (λ x. f (v x)) xs ≡ flat_map f ys
mapped-text f v xs ys is = sym (flat_map-map f v xs) ∙ ap (flat_map f) is
