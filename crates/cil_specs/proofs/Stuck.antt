-- Where a fault of reading stands no part goes on, and a text has one fault at most.
use Rattle.cil_specs.proofs.Common.{◌≡◌, ◌≢◌, ℕ, ◌+◌, ◌<◌, ◌≤◌, ◌||◌, cond, ◌==◌, Bool, true, false, List, [], ◌∷◌, ◌++◌, length, drop, get_or, refl, ap, sym, ◌∙◌, subst, append_assoc, append-nil, length-drop, ◌⊎◌, inl, inr, take, arith, take_while, prefix_len, is_white, is_word_byte, is_mark, hex, place_at, Part, white, comment, word, string, opening, closing, spelling, IsPart, Splits, Moves, Nests, IsClean, TextFaultKind, bad_byte, unbalanced, unclosed, unclosed_string, too_deep, bare_word, unsupported, misshapen, bad_name, reserved, not_in_optional, TextFault, Trees, Reads}
use Rattle.std.proofs.Common.{true≢false}
use Rattle.cil_specs.specs.Reading.{IsUnclosedString, IsClosedString, Stops, IsStop, IsReadingFault, IsStuck}
use Rattle.cil_specs.proofs.Runs.{neither-first, neither-second}
use Rattle.cil_specs.proofs.PartLemmas.{size, size-some, splits-size, clean-size}
use Rattle.cil_specs.proofs.Fronts.{class_of, class-word, class_of_part, first-class, begins}

-- what the first byte of a text says of a stop
abbrev pub ShownBy : TextFaultKind → List ℕ → List ℕ → Type 0
ShownBy bad_byte rest shown = (class_of (get_or rest 0 0) ≡ 6) × (shown ≡ hex (get_or rest 0 0))
ShownBy unbalanced rest shown = (class_of (get_or rest 0 0) ≡ 5) × (shown ≡ 41 ∷ [])
ShownBy unclosed_string rest shown = (class_of (get_or rest 0 0) ≡ 3) × (shown ≡ 34 ∷ []) × IsUnclosedString rest
ShownBy too_deep rest shown = (class_of (get_or rest 0 0) ≡ 4) × (shown ≡ 40 ∷ [])
ShownBy bare_word rest shown = ((class_of (get_or rest 0 0) ≡ 2) × (shown ≡ take_while is_word_byte rest)) ⊎ ((class_of (get_or rest 0 0) ≡ 3) × (shown ≡ 34 ∷ []) × IsClosedString rest)
ShownBy _ rest shown = ⊥

-- a byte that begins no part
class-none : (b : ℕ) → is_white b ≡ false → is_word_byte b ≡ false → is_mark b ≡ false → class_of b ≡ 6
class-none b w v m =
    let rest = neither-second (b == 59) _ m in
    let more = neither-second (b == 34) _ rest in
    ap (λ c. cond c 0 (cond (is_word_byte b) 2 (cond (b == 59) 1 (cond (b == 34) 3 (cond (b == 40) 4 (cond (b == 41) 5 6)))))) w
    ∙ ap (λ c. cond c 2 (cond (b == 59) 1 (cond (b == 34) 3 (cond (b == 40) 4 (cond (b == 41) 5 6))))) v
    ∙ ap (λ c. cond c 1 (cond (b == 34) 3 (cond (b == 40) 4 (cond (b == 41) 5 6)))) (neither-first (b == 59) _ m)
    ∙ ap (λ c. cond c 3 (cond (b == 40) 4 (cond (b == 41) 5 6))) (neither-first (b == 34) _ rest)
    ∙ ap (λ c. cond c 4 (cond (b == 41) 5 6)) (neither-first (b == 40) _ more)
    ∙ ap (λ c. cond c 5 6) (neither-second (b == 40) _ more)

-- a run of word bytes that has some begins with one
word-class : (rest : List ℕ) → take_while is_word_byte rest ≢ [] → class_of (get_or rest 0 0) ≡ 2
word-class [] some = absurd (some refl)
word-class (b ∷ rest) some = by (is_word_byte b) refl
  where
    by : (c : Bool) → is_word_byte b ≡ c → class_of b ≡ 2
    by true e = class-word b e
    by false e = absurd (some (ap (λ c. take (cond c (1 + prefix_len is_word_byte rest) 0) (b ∷ rest)) e))

pub shown-by : (kind : TextFaultKind) (lists rest shown : List ℕ) → Stops kind lists rest shown → ShownBy kind rest shown
shown-by bad_byte lists rest shown (b, tail, e, w, v, m, s) = (ap (λ l. class_of (get_or l 0 0)) e ∙ class-none b w v m, s ∙ ap (λ l. hex (get_or l 0 0)) (sym e))
shown-by unbalanced lists rest shown (n, tail, e, s) = (ap (λ l. class_of (get_or l 0 0)) e, s)
shown-by unclosed_string lists rest shown ((tail, e, h), s) = (ap (λ l. class_of (get_or l 0 0)) e, s, (tail, e, h))
shown-by too_deep lists rest shown (deep, tail, e, s) = (ap (λ l. class_of (get_or l 0 0)) e, s)
shown-by bare_word lists rest shown (n, inl (some, s)) = inl (word-class rest (λ none. some (s ∙ none)), s)
shown-by bare_word lists rest shown (n, inr ((text, more, e, p), s)) = inr (ap (λ l. class_of (get_or l 0 0)) e, s, (text, more, e, p))
shown-by _ lists rest shown stop = absurd stop

-- a string is closed or not
not-both : (rest : List ℕ) → IsUnclosedString rest → IsClosedString rest → ⊥
not-both rest (tail, e, free) (text, more, f, passes) = free text more passes (ap (drop 1) (sym e ∙ f))

-- why no part goes on is determined by the bytes
same-shown : (j k : TextFaultKind) (rest v w : List ℕ) → ShownBy j rest v → ShownBy k rest w → (j ≡ k) × (v ≡ w)
same-shown bad_byte bad_byte rest v w s t = (refl, s.1 ∙ sym t.1)
same-shown bad_byte unbalanced rest v w s t = absurd (omega (arith, s.0, t.0))
same-shown bad_byte unclosed_string rest v w s t = absurd (omega (arith, s.0, t.0))
same-shown bad_byte too_deep rest v w s t = absurd (omega (arith, s.0, t.0))
same-shown bad_byte bare_word rest v w s (inl t) = absurd (omega (arith, s.0, t.0))
same-shown bad_byte bare_word rest v w s (inr t) = absurd (omega (arith, s.0, t.0))
same-shown unbalanced bad_byte rest v w s t = absurd (omega (arith, s.0, t.0))
same-shown unbalanced unbalanced rest v w s t = (refl, s.1 ∙ sym t.1)
same-shown unbalanced unclosed_string rest v w s t = absurd (omega (arith, s.0, t.0))
same-shown unbalanced too_deep rest v w s t = absurd (omega (arith, s.0, t.0))
same-shown unbalanced bare_word rest v w s (inl t) = absurd (omega (arith, s.0, t.0))
same-shown unbalanced bare_word rest v w s (inr t) = absurd (omega (arith, s.0, t.0))
same-shown unclosed_string bad_byte rest v w s t = absurd (omega (arith, s.0, t.0))
same-shown unclosed_string unbalanced rest v w s t = absurd (omega (arith, s.0, t.0))
same-shown unclosed_string unclosed_string rest v w s t = (refl, s.1 ∙ sym t.1)
same-shown unclosed_string too_deep rest v w s t = absurd (omega (arith, s.0, t.0))
same-shown unclosed_string bare_word rest v w s (inl t) = absurd (omega (arith, s.0, t.0))
same-shown unclosed_string bare_word rest v w s (inr t) = absurd (not-both rest s.2 t.2)
same-shown too_deep bad_byte rest v w s t = absurd (omega (arith, s.0, t.0))
same-shown too_deep unbalanced rest v w s t = absurd (omega (arith, s.0, t.0))
same-shown too_deep unclosed_string rest v w s t = absurd (omega (arith, s.0, t.0))
same-shown too_deep too_deep rest v w s t = (refl, s.1 ∙ sym t.1)
same-shown too_deep bare_word rest v w s (inl t) = absurd (omega (arith, s.0, t.0))
same-shown too_deep bare_word rest v w s (inr t) = absurd (omega (arith, s.0, t.0))
same-shown bare_word bad_byte rest v w (inl s) t = absurd (omega (arith, s.0, t.0))
same-shown bare_word bad_byte rest v w (inr s) t = absurd (omega (arith, s.0, t.0))
same-shown bare_word unbalanced rest v w (inl s) t = absurd (omega (arith, s.0, t.0))
same-shown bare_word unbalanced rest v w (inr s) t = absurd (omega (arith, s.0, t.0))
same-shown bare_word unclosed_string rest v w (inl s) t = absurd (omega (arith, s.0, t.0))
same-shown bare_word unclosed_string rest v w (inr s) t = absurd (not-both rest t.2 s.2)
same-shown bare_word too_deep rest v w (inl s) t = absurd (omega (arith, s.0, t.0))
same-shown bare_word too_deep rest v w (inr s) t = absurd (omega (arith, s.0, t.0))
same-shown bare_word bare_word rest v w (inl s) (inl t) = (refl, s.1 ∙ sym t.1)
same-shown bare_word bare_word rest v w (inl s) (inr t) = absurd (omega (arith, s.0, t.0))
same-shown bare_word bare_word rest v w (inr s) (inl t) = absurd (omega (arith, s.0, t.0))
same-shown bare_word bare_word rest v w (inr s) (inr t) = (refl, s.1 ∙ sym t.1)
same-shown unclosed k rest v w s t = absurd s
same-shown unsupported k rest v w s t = absurd s
same-shown misshapen k rest v w s t = absurd s
same-shown bad_name k rest v w s t = absurd s
same-shown reserved k rest v w s t = absurd s
same-shown not_in_optional k rest v w s t = absurd s
same-shown _ _ rest v w s t = absurd t

-- no part goes on where a fault stands
no-part : (kind : TextFaultKind) (lists rest shown : List ℕ) → Stops kind lists rest shown → (part : Part) (tail : List ℕ) (at : ℕ) (new : List ℕ) → IsPart part → rest ≡ spelling part ++ tail → Moves lists at part new → ⊥
no-part kind lists rest shown stops part tail at new is e moves = by kind part (shown-by kind lists rest shown stops) stops (first-class part rest tail is e) e moves is
  where
    by : (kind : TextFaultKind) (part : Part) → ShownBy kind rest shown → Stops kind lists rest shown → class_of (get_or rest 0 0) ≡ class_of_part part → rest ≡ spelling part ++ tail → Moves lists at part new → IsPart part → ⊥
    by bad_byte (white b) s t f e m is = omega (arith, s.0, f)
    by bad_byte (comment x) s t f e m is = omega (arith, s.0, f)
    by bad_byte (word x) s t f e m is = omega (arith, s.0, f)
    by bad_byte (string x) s t f e m is = omega (arith, s.0, f)
    by bad_byte opening s t f e m is = omega (arith, s.0, f)
    by bad_byte closing s t f e m is = omega (arith, s.0, f)
    by unbalanced (white b) s t f e m is = omega (arith, s.0, f)
    by unbalanced (comment x) s t f e m is = omega (arith, s.0, f)
    by unbalanced (word x) s t f e m is = omega (arith, s.0, f)
    by unbalanced (string x) s t f e m is = omega (arith, s.0, f)
    by unbalanced opening s t f e m is = omega (arith, s.0, f)
    by unbalanced closing s t f e m is = omega (arith, ap length (sym t.0 ∙ m.1))
    by unclosed_string (white b) s t f e m is = omega (arith, s.0, f)
    by unclosed_string (comment x) s t f e m is = omega (arith, s.0, f)
    by unclosed_string (word x) s t f e m is = omega (arith, s.0, f)
    by unclosed_string (string x) s t f e m is = t.0.2 x tail is (ap (drop 1) (sym t.0.1 ∙ e) ∙ append_assoc x (34 ∷ []) tail)
    by unclosed_string opening s t f e m is = omega (arith, s.0, f)
    by unclosed_string closing s t f e m is = omega (arith, s.0, f)
    by too_deep (white b) s t f e m is = omega (arith, s.0, f)
    by too_deep (comment x) s t f e m is = omega (arith, s.0, f)
    by too_deep (word x) s t f e m is = omega (arith, s.0, f)
    by too_deep (string x) s t f e m is = omega (arith, s.0, f)
    by too_deep opening s t f e m is = omega (arith, t.0, m.0)
    by too_deep closing s t f e m is = omega (arith, s.0, f)
    by bare_word (white b) (inl s) t f e m is = omega (arith, s.0, f)
    by bare_word (white b) (inr s) t f e m is = omega (arith, s.0, f)
    by bare_word (comment x) (inl s) t f e m is = omega (arith, s.0, f)
    by bare_word (comment x) (inr s) t f e m is = omega (arith, s.0, f)
    by bare_word (word x) s t f e m is = m.0 t.0
    by bare_word (string x) s t f e m is = m.0 t.0
    by bare_word opening (inl s) t f e m is = omega (arith, s.0, f)
    by bare_word opening (inr s) t f e m is = omega (arith, s.0, f)
    by bare_word closing (inl s) t f e m is = omega (arith, s.0, f)
    by bare_word closing (inr s) t f e m is = omega (arith, s.0, f)
    by unclosed part s t f e m is = s
    by unsupported part s t f e m is = s
    by misshapen part s t f e m is = s
    by bad_name part s t f e m is = s
    by reserved part s t f e m is = s
    by not_in_optional part s t f e m is = s

moves-same : (part : Part) (lists : List ℕ) (at : ℕ) (a b : List ℕ) → Moves lists at part a → Moves lists at part b → a ≡ b
moves-same (white b) lists at x y f g = f ∙ sym g
moves-same (comment text) lists at x y f g = f ∙ sym g
moves-same (word text) lists at x y f g = f.1 ∙ sym g.1
moves-same (string text) lists at x y f g = f.1 ∙ sym g.1
moves-same opening lists at x y f g = f.1 ∙ sym g.1
moves-same closing lists at x y f g = ap (drop 1) (sym f.1 ∙ g.1)

-- what is open behind the first parts is determined
nests-more : (lists : List ℕ) (at : ℕ) (parts more : List Part) (mid new : List ℕ) → Nests lists at parts mid → Nests lists at (parts ++ more) new → Nests mid (at + size parts) more new
nests-more lists at [] more mid new f g = subst (λ l. Nests l (at + 0) more new) (sym f) (subst (λ n. Nests lists n more new) (let e : at ≡ at + 0 = omega arith in e) g)
nests-more lists at (p ∷ ps) more mid new f g =
    let n : ℕ = length (spelling p) in
    let same : g.0 ≡ f.0 = moves-same p lists at g.0 f.0 g.1 f.1 in
    subst (λ k. Nests mid k more new) (let e : (at + n) + size ps ≡ at + (n + size ps) = omega arith in e)
    (nests-more f.0 (at + n) ps more mid new f.2 (subst (λ l. Nests l (at + n) (ps ++ more) new) same g.2))

-- of two clean fronts of one text, the longer begins with the parts of the shorter, and goes on from there
record GoesOn (bytes : List ℕ) (at to : ℕ) (lists new : List ℕ) (parts longer : List Part) : Type 0 where
  more : List Part
  begins : longer ≡ parts ++ more
  splits : Splits (drop at bytes) more (drop to bytes)
  nests : Nests lists at more new

goes-on : (bytes : List ℕ) (at to : ℕ) (lists new : List ℕ) (parts longer : List Part) → IsClean bytes at lists parts → IsClean bytes to new longer → at ≤ to → GoesOn bytes at to lists new parts longer
goes-on bytes at to lists new parts longer f g le =
    let found = begins bytes parts longer (drop at bytes) (drop to bytes) f.splits g.splits (omega (arith, length-drop at bytes, length-drop to bytes)) in
    let here : 0 + size parts ≡ at = omega (arith, clean-size bytes at lists parts f) in
    record {
      more = found.0;
      begins = found.1;
      splits = found.2;
      nests = subst (λ n. Nests lists n found.0 new) here (nests-more [] 0 parts found.0 lists new f.nests (subst (λ ps. Nests [] 0 ps new) found.1 g.nests));
    }

-- nothing stands between two clean fronts of one length
none-between : (bytes : List ℕ) (at : ℕ) (lists new : List ℕ) (parts longer : List Part) → GoesOn bytes at at lists new parts longer → (longer ≡ parts) × (new ≡ lists)
none-between bytes at lists new parts longer g = by g.more g.begins g.splits g.nests
  where
    by : (more : List Part) → longer ≡ parts ++ more → Splits (drop at bytes) more (drop at bytes) → Nests lists at more new → (longer ≡ parts) × (new ≡ lists)
    by [] e s n = (e ∙ append-nil parts, n)
    by (p ∷ ps) e s n = absurd (omega (arith, splits-size (drop at bytes) (p ∷ ps) (drop at bytes) s, size-some p s.2))

-- two clean fronts of one length are one
pub same-front : (bytes : List ℕ) (at : ℕ) (lists new : List ℕ) (parts others : List Part) → IsClean bytes at lists parts → IsClean bytes at new others → (others ≡ parts) × (new ≡ lists)
same-front bytes at lists new parts others f g = none-between bytes at lists new parts others (goes-on bytes at at lists new parts others f g (omega arith))

-- no clean front goes past a fault
no-further : (bytes : List ℕ) (at to : ℕ) (lists new : List ℕ) (parts longer : List Part) (kind : TextFaultKind) (shown : List ℕ) → IsClean bytes at lists parts → IsClean bytes to new longer → at < to
    → Stops kind lists (drop at bytes) shown → ⊥
no-further bytes at to lists new parts longer kind shown f g less stops = by found.more found.splits found.nests
  where
    found : GoesOn bytes at to lists new parts longer
    found = goes-on bytes at to lists new parts longer f g (omega arith)

    by : (more : List Part) → Splits (drop at bytes) more (drop to bytes) → Nests lists at more new → ⊥
    by [] s n = omega (arith, ap length s, length-drop at bytes, length-drop to bytes, f.within, g.within)
    by (p ∷ ps) s n = no-part kind lists (drop at bytes) shown stops p s.0 at n.0 s.2 s.1 n.1

last-is-part : (bytes : List ℕ) (parts : List Part) (part : Part) (rest : List ℕ) → Splits bytes (parts ++ part ∷ []) rest → IsPart part
last-is-part bytes [] part rest splits = splits.2
last-is-part bytes (p ∷ ps) part rest splits = last-is-part splits.0 ps part rest splits.4

-- no part makes a clean front longer where a fault stands
pub stuck : (bytes : List ℕ) (at : ℕ) (lists : List ℕ) (parts : List Part) (kind : TextFaultKind) (shown : List ℕ) → IsClean bytes at lists parts → Stops kind lists (drop at bytes) shown → IsStuck bytes at parts
stuck bytes at lists parts kind shown f stops part new g =
    let some : 0 < length (spelling part) = size-some part (last-is-part bytes parts part (drop (at + length (spelling part)) bytes) g.splits) in
    no-further bytes at (at + length (spelling part)) lists new parts (parts ++ part ∷ []) kind shown f g (omega (arith, some)) stops

-- a text that spells trees has no fault of reading
pub no-fault : (bytes : List ℕ) (trees : Trees) (fault : TextFault) → Reads bytes trees → IsReadingFault bytes fault → ⊥
no-fault bytes trees fault reads (inl (at, lists, parts, less, clean, stops, place)) = no-further bytes at (length bytes) lists [] parts reads.0 fault.kind fault.word clean reads.1 less stops
no-fault bytes trees fault reads (inr (inner, lists, parts, clean, is)) =
    let same : [] ≡ inner ∷ lists = (same-front bytes (length bytes) (inner ∷ lists) [] parts reads.0 clean reads.1).1 in
    omega (arith, ap length same)

fault-eq : (f g : TextFault) → f.kind ≡ g.kind → f.at ≡ g.at → f.word ≡ g.word → f ≡ g
fault-eq f g x y z = λ i. record { kind = x i; at = y i; word = z i }

-- two stops of one text are one
same-stop : (bytes : List ℕ) (f g : TextFault) → IsStop bytes f → IsStop bytes g → f ≡ g
same-stop bytes f g (at, lists, parts, less, clean, stops, place) (to, news, others, more, pure, ends, spot) =
    let here : at ≡ to = omega (arith, ahead, behind) in
    let same = same-front bytes at lists news parts others clean (subst (λ n. IsClean bytes n news others) (sym here) pure) in
    let kinds = same-shown f.kind g.kind (drop at bytes) f.word g.word (shown-by f.kind lists (drop at bytes) f.word stops) (shown-by g.kind news (drop at bytes) g.word (subst (λ n. Stops g.kind news (drop n bytes) g.word) (sym here) ends)) in
    fault-eq f g kinds.0 (place ∙ ap (place_at bytes) here ∙ sym spot) kinds.1
  where
    ahead : at < to → ⊥
    ahead h = no-further bytes at to lists news parts others f.kind f.word clean pure h stops

    behind : to < at → ⊥
    behind h = no-further bytes to at news lists others parts g.kind g.word pure clean h ends

-- a text has one fault of reading at most
pub one-fault : (bytes : List ℕ) (f g : TextFault) → IsReadingFault bytes f → IsReadingFault bytes g → f ≡ g
one-fault bytes f g (inl s) (inl t) = same-stop bytes f g s t
one-fault bytes f g (inl (at, lists, parts, less, clean, stops, place)) (inr (inner, news, others, pure, is)) = absurd (no-further bytes at (length bytes) lists (inner ∷ news) parts others f.kind f.word clean pure less stops)
one-fault bytes f g (inr (inner, news, others, pure, is)) (inl (at, lists, parts, less, clean, stops, place)) = absurd (no-further bytes at (length bytes) lists (inner ∷ news) parts others g.kind g.word clean pure less stops)
one-fault bytes f g (inr (inner, lists, parts, clean, is)) (inr (other, news, others, pure, js)) =
    let same : other ∷ news ≡ inner ∷ lists = (same-front bytes (length bytes) (inner ∷ lists) (other ∷ news) parts others clean pure).1 in
    is ∙ ap (λ l. record { kind = unclosed; at = place_at bytes (get_or l 0 0); word = 40 ∷ [] }) (sym same) ∙ sym js
