-- Of two clean fronts of one text the longer begins with the parts of the shorter; and where a fault stands no part goes on.
use Rattle.cil_specs.proofs.Common.{◌≡◌, ℕ, ◌≤◌, ◌||◌, cond, ◌==◌, Bool, true, false, List, [], ◌∷◌, ◌++◌, length, drop, get_or, refl, ap, sym, ◌∙◌, subst, append_assoc, arith, list_all, eqb-true, is_white, is_word_byte, is_comment_byte, is_string_byte, Part, white, comment, word, string, opening, closing, spelling, IsPart, EndsBefore, Splits}
use Rattle.std.proofs.Common.{true≢false}
use Rattle.std.proofs.Math.Dec.{eqb}
use Rattle.cil_specs.proofs.PartLemmas.{size-some, splits-size}
use Rattle.cil_specs.proofs.Runs.{StopsBefore, first_true, same_run}

-- which part a byte begins: white, comment, word, string, ( or ), or none
abbrev pub class_of : ℕ → ℕ
class_of b = cond (is_white b) 0 (cond (is_word_byte b) 2 (cond (b == 59) 1 (cond (b == 34) 3 (cond (b == 40) 4 (cond (b == 41) 5 6)))))

-- a white byte is no word byte
white-no-word : (b : ℕ) → is_white b ≡ true → is_word_byte b ≡ false
white-no-word b w = by (eqb b 32) (eqb b 9) (eqb b 10) (eqb b 13) refl refl refl refl
  where
    at : (n : ℕ) → eqb b n ≡ true → is_word_byte n ≡ false → is_word_byte b ≡ false
    at n e free = ap is_word_byte (eqb-true b n e) ∙ free

    by : (p q r s : Bool) → eqb b 32 ≡ p → eqb b 9 ≡ q → eqb b 10 ≡ r → eqb b 13 ≡ s → is_word_byte b ≡ false
    by true q r s e f g h = at 32 e refl
    by false true r s e f g h = at 9 f refl
    by false false true s e f g h = at 10 g refl
    by false false false true e f g h = at 13 h refl
    by false false false false e f g h = absurd (true≢false (sym w ∙ (λ i. e i || (f i || (g i || h i)))))

word-no-white : (b : ℕ) → is_word_byte b ≡ true → is_white b ≡ false
word-no-white b w = by (is_white b) refl
  where
    by : (c : Bool) → is_white b ≡ c → is_white b ≡ false
    by true e = absurd (true≢false (sym w ∙ white-no-word b e))
    by false e = e

pub class-white : (b : ℕ) → is_white b ≡ true → class_of b ≡ 0
class-white b e = ap (λ c. cond c 0 (cond (is_word_byte b) 2 (cond (b == 59) 1 (cond (b == 34) 3 (cond (b == 40) 4 (cond (b == 41) 5 6)))))) e

pub class-word : (b : ℕ) → is_word_byte b ≡ true → class_of b ≡ 2
class-word b e =
    ap (λ c. cond c 0 (cond (is_word_byte b) 2 (cond (b == 59) 1 (cond (b == 34) 3 (cond (b == 40) 4 (cond (b == 41) 5 6)))))) (word-no-white b e)
    ∙ ap (λ c. cond c 2 (cond (b == 59) 1 (cond (b == 34) 3 (cond (b == 40) 4 (cond (b == 41) 5 6))))) e

-- the class of a part's first byte
abbrev pub class_of_part : Part → ℕ
class_of_part (white b) = 0
class_of_part (comment bytes) = 1
class_of_part (word bytes) = 2
class_of_part (string bytes) = 3
class_of_part opening = 4
class_of_part closing = 5

-- the first byte of a text that begins with a part is of the part's class
pub first-class : (part : Part) (bytes tail : List ℕ) → IsPart part → bytes ≡ spelling part ++ tail → class_of (get_or bytes 0 0) ≡ class_of_part part
first-class (white b) bytes tail is e = ap (λ l. class_of (get_or l 0 0)) e ∙ class-white b is
first-class (comment text) bytes tail is e = ap (λ l. class_of (get_or l 0 0)) e
first-class (word []) bytes tail is e = absurd (is.0 refl)
first-class (word (b ∷ text)) bytes tail is e = ap (λ l. class_of (get_or l 0 0)) e ∙ class-word b (first_true (is_word_byte b) (list_all is_word_byte text) is.1)
first-class (string text) bytes tail is e = ap (λ l. class_of (get_or l 0 0)) e
first-class opening bytes tail is e = ap (λ l. class_of (get_or l 0 0)) e
first-class closing bytes tail is e = ap (λ l. class_of (get_or l 0 0)) e

stops-word : (text bytes : List ℕ) → EndsBefore (word text) bytes → StopsBefore is_word_byte bytes
stops-word text [] ends = tt
stops-word text (b ∷ bytes) ends = ends

stops-comment : (text bytes : List ℕ) → EndsBefore (comment text) bytes → StopsBefore is_comment_byte bytes
stops-comment text [] ends = tt
stops-comment text (b ∷ bytes) ends = ends

-- two parts at the front of one text are one
same-first : (p q : Part) (bytes t u : List ℕ) → IsPart p → IsPart q → bytes ≡ spelling p ++ t → bytes ≡ spelling q ++ u → EndsBefore p t → EndsBefore q u → class_of_part p ≡ class_of_part q → (p ≡ q) × (t ≡ u)
same-first (white b) (white c) bytes t u is js e f ends fins same = let both : b ∷ t ≡ c ∷ u = sym e ∙ f in (ap (λ l. white (get_or l 0 0)) both, ap (drop 1) both)
same-first (comment x) (comment y) bytes t u is js e f ends fins same =
    let both = same_run is_comment_byte x y t u (ap (drop 1) (sym e ∙ f)) is js (stops-comment x t ends) (stops-comment y u fins) in
    (ap comment both.0, both.1)
same-first (word x) (word y) bytes t u is js e f ends fins same =
    let both = same_run is_word_byte x y t u (sym e ∙ f) is.1 js.1 (stops-word x t ends) (stops-word y u fins) in
    (ap word both.0, both.1)
same-first (string x) (string y) bytes t u is js e f ends fins same =
    let inside : x ++ 34 ∷ t ≡ y ++ 34 ∷ u = sym (append_assoc x (34 ∷ []) t) ∙ ap (drop 1) (sym e ∙ f) ∙ append_assoc y (34 ∷ []) u in
    let both = same_run is_string_byte x y (34 ∷ t) (34 ∷ u) inside is js refl refl in
    (ap string both.0, ap (drop 1) both.1)
same-first opening opening bytes t u is js e f ends fins same = (refl, ap (drop 1) (sym e ∙ f))
same-first closing closing bytes t u is js e f ends fins same = (refl, ap (drop 1) (sym e ∙ f))
same-first (white b) (comment y) bytes t u is js e f ends fins same = absurd (omega (arith, same))
same-first (comment x) (white c) bytes t u is js e f ends fins same = absurd (omega (arith, same))
same-first (word x) (white c) bytes t u is js e f ends fins same = absurd (omega (arith, same))
same-first (string x) (white c) bytes t u is js e f ends fins same = absurd (omega (arith, same))
same-first _ _ bytes t u is js e f ends fins same = absurd (omega (arith, same))

-- of two spellings of one text that which leaves less begins with the parts of the other
pub begins : (bytes : List ℕ) (ps qs : List Part) (r s : List ℕ) → Splits bytes ps r → Splits bytes qs s → length s ≤ length r → (more : List Part) × (qs ≡ ps ++ more) × Splits r more s
begins bytes [] qs r s f g le = (qs, refl, subst (λ b. Splits b qs s) f g)
begins bytes (p ∷ ps) [] r s f g le =
    absurd (omega (arith, le, size-some p f.2, ap length g, splits-size bytes (p ∷ ps) r f))
begins bytes (p ∷ ps) (q ∷ qs) r s f g le =
    let class : class_of_part p ≡ class_of_part q = sym (first-class p bytes f.0 f.2 f.1) ∙ first-class q bytes g.0 g.2 g.1 in
    let same = same-first p q bytes f.0 g.0 f.2 g.2 f.1 g.1 f.3 g.3 class in
    let more = begins f.0 ps qs r s f.4 (subst (λ b. Splits b qs s) (sym same.1) g.4) le in
    (more.0, (λ i. sym same.0 i ∷ more.1 i), more.2)
