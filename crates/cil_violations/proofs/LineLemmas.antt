-- The text of a line, written in parts.
use Rattle.cil_violations.proofs.Common.{◌≡◌, ◌∙◌, ℕ, Bool, true, false, cond, List, [], ◌∷◌, ◌++◌, map, codes, decimal, Option, refl, sym, ap, subst, append_assoc, filter, Gains, GainsFront, gains-both, gains-then_front, front-longer, RuleHead, rule_head, name_in, Resolved, ClassPermission, rule_place, violation_line, given_at, is_among, of_class, shared, rule_in, violation_by, access_text, head_by, name_text, rule_text, shared_text, RowNumbers}
use Rattle.std.proofs.Common.{flat_map}
use Rattle.std.proofs.lemmas.List.Folds.{flat_map-map}

-- a text ends with the text that is written from a state on
abbrev pub Ends : Option (List ℕ) → Option (List ℕ) → List ℕ → Option (List ℕ) → List ℕ → Type 0
Ends near new end old whole = (Gains near new end → Gains old new whole) × (GainsFront near new end → GainsFront old new whole)

-- three texts, one after the other
module _ (old mid near new : Option (List ℕ)) (first second third whole : List ℕ) (is : first ++ (second ++ third) ≡ whole) where
  pub front-in_first : GainsFront old mid first → GainsFront old mid whole
  front-in_first front = subst (GainsFront old mid) is (front-longer old mid first (second ++ third) front)

  pub front-in_second : Gains old mid first → GainsFront mid near second → GainsFront old near whole
  front-in_second gains front = subst (GainsFront old near) is (gains-then_front old mid near first (second ++ third) gains (front-longer mid near second third front))

  -- what is said of the third is said of the whole
  pub third-in_whole : Gains old mid first → Gains mid near second → Ends near new third old whole
  third-in_whole gains more = (
    λ most. subst (Gains old new) is (gains-both old mid new first (second ++ third) gains (gains-both mid near new second third more most)),
    λ front. subst (GainsFront old new) is (gains-then_front old mid new first (second ++ third) gains (gains-then_front mid near new second third more front)),
  )

-- the text of a place, with its numbers written
pub place-is : (word name line column : List ℕ) (l c : ℕ) → line ≡ decimal l → column ≡ decimal c
    → word ++ (codes " " ++ (name ++ (codes ":" ++ (line ++ (codes ":" ++ (column ++ codes " ")))))) ≡ word ++ codes " " ++ name ++ codes ":" ++ decimal l ++ codes ":" ++ decimal c ++ codes " "
place-is word name line column l c a b =
    (λ i. word ++ (codes " " ++ (name ++ (codes ":" ++ (a i ++ (codes ":" ++ (b i ++ codes " "))))))) ∙ sym (regroup word name (decimal l) (decimal c))
  where
    regroup : (w n x y : List ℕ) → w ++ codes " " ++ n ++ codes ":" ++ x ++ codes ":" ++ y ++ codes " " ≡ w ++ (codes " " ++ (n ++ (codes ":" ++ (x ++ (codes ":" ++ (y ++ codes " "))))))
    regroup w n x y = simp append_assoc

-- the texts of the permissions that are shared
pub shared-texts : {A : Type 0} (r : Resolved A) (others ps : List ClassPermission) → flat_map (shared_text r others) ps ≡ flat_map (λ p. p ++ codes " ") (map (λ g. name_in r g.permission) (shared ps others))
shared-texts r others [] = refl
shared-texts r others (p ∷ ps) = by (is_among others p) (shared-texts r others ps)
  where
    by : (b : Bool) → flat_map (shared_text r others) ps ≡ flat_map (λ q. q ++ codes " ") (map (λ g. name_in r g.permission) (filter (is_among others) ps))
        → (cond b (name_text r p) []) ++ flat_map (shared_text r others) ps
        ≡ flat_map (λ q. q ++ codes " ") (map (λ g. name_in r g.permission) (cond b (p ∷ filter (is_among others) ps) (filter (is_among others) ps)))
    by true rest = ap (λ l. name_text r p ++ l) rest
    by false rest = rest

-- the head of a line by its parts
pub head-is : {A : Type 0} (r : Resolved A) (row : RowNumbers) (n a : RuleHead) (source target the_class : List ℕ) → n ≡ rule_head (rule_in r row.never) → a ≡ rule_head (rule_in r row.allowed)
    → source ≡ name_in r row.source → target ≡ name_in r row.target → the_class ≡ name_in r row.class
    → rule_text n ++ (rule_text a ++ access_text source target the_class) ≡ head_by r row
head-is r row n a source target the_class n_is a_is source_is target_is class_is = λ i. rule_text (n_is i) ++ (rule_text (a_is i) ++ access_text (source_is i) (target_is i) (class_is i))

-- the texts of the permissions of a row
abbrev pub texts-of : {A : Type 0} → Resolved A → List (List ClassPermission) → RowNumbers → List ℕ
texts-of r lists row = flat_map (λ p. p ++ codes " ") (violation_by r lists row).permissions

pub texts-are : {A : Type 0} (r : Resolved A) (lists : List (List ClassPermission)) (row : RowNumbers) (first second : List ClassPermission)
    → first ≡ of_class row.class (given_at r.rules.items lists row.never) → second ≡ of_class row.class (given_at r.rules.items lists row.allowed)
    → flat_map (shared_text r second) first ≡ texts-of r lists row
texts-are r lists row first second first_is second_is =
    shared-texts r second first ∙ (λ i. flat_map (λ p. p ++ codes " ") (map (λ g. name_in r g.permission) (shared (first_is i) (second_is i))))

-- the line of a row by its head, its permissions and its end
pub line-whole : {A : Type 0} (r : Resolved A) (lists : List (List ClassPermission)) (row : RowNumbers) (texts : List ℕ) → texts ≡ texts-of r lists row
    → head_by r row ++ (texts ++ codes "};\n") ≡ violation_line (violation_by r lists row)
line-whole r lists row texts is =
    let v = violation_by r lists row in
    ap (λ l. head_by r row ++ (l ++ codes "};\n")) is
    ∙ regroup (rule_place v.never) (rule_place v.allowed) v.source v.target v.the_class (texts-of r lists row)
  where
    regroup : (x y s t c ps : List ℕ) → ((x ++ codes " ") ++ ((y ++ codes " ") ++ (s ++ codes " " ++ t ++ codes ":" ++ c ++ codes " { "))) ++ (ps ++ codes "};\n")
        ≡ x ++ codes " " ++ y ++ codes " " ++ s ++ codes " " ++ t ++ codes ":" ++ c ++ codes " { " ++ ps ++ codes "};\n"
    regroup x y s t c ps = simp append_assoc

pub mapped-text : {X Y : Type 0} (f : Y → List ℕ) (v : X → Y) (xs : List X) (ys : List Y) → map v xs ≡ ys → flat_map (λ x. f (v x)) xs ≡ flat_map f ys
mapped-text f v xs ys is = sym (flat_map-map f v xs) ∙ ap (flat_map f) is
