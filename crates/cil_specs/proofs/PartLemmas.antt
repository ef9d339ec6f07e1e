-- Parts one after the other: a clean front that grows by a part, and how long its parts are.
use Rattle.cil_specs.proofs.Common.{◌≡◌, ℕ, ◌+◌, ◌<◌, ◌≤◌, List, [], ◌∷◌, ◌++◌, length, drop, refl, ap, sym, ◌∙◌, subst, append_assoc, length-append, length-drop, arith, Part, white, comment, word, string, opening, closing, spelling, IsPart, EndsBefore, Splits, Moves, Nests, IsClean, place_at, Mark, word_at, string_at, opening_at, closing_before, told, AllByRecursion}

-- how many bytes the parts have
abbrev pub size : List Part → ℕ
size [] = 0
size (part ∷ parts) = length (spelling part) + size parts

-- a part has a byte at least
pub size-some : (part : Part) → IsPart part → 0 < length (spelling part)
size-some (word []) is = absurd (is.0 refl)
size-some _ is = omega arith

pub splits-size : (bytes : List ℕ) (parts : List Part) (rest : List ℕ) → Splits bytes parts rest → length bytes ≡ size parts + length rest
splits-size bytes [] rest splits = let e : length bytes ≡ length rest = ap length splits in omega (arith, e)
splits-size bytes (part ∷ parts) rest splits =
    let here : length bytes ≡ length (spelling part ++ splits.0) = ap length splits.1 in
    omega (arith, here, length-append (spelling part) splits.0, splits-size splits.0 parts rest splits.4)

-- the front of a clean text is as long as its parts
pub clean-size : (bytes : List ℕ) (at : ℕ) (lists : List ℕ) (parts : List Part) → IsClean bytes at lists parts → size parts ≡ at
clean-size bytes at lists parts clean = omega (arith, splits-size bytes parts (drop at bytes) clean.splits, length-drop at bytes, clean.within)

pub splits-push : (bytes : List ℕ) (parts : List Part) (rest : List ℕ) (part : Part) (tail : List ℕ) → Splits bytes parts rest → rest ≡ spelling part ++ tail → IsPart part → EndsBefore part tail
    → Splits bytes (parts ++ part ∷ []) tail
splits-push bytes [] rest part tail splits goes is ends = (tail, splits ∙ goes, is, ends, refl)
splits-push bytes (p ∷ ps) rest part tail splits goes is ends = (splits.0, splits.1, splits.2, splits.3, splits-push splits.0 ps rest part tail splits.4 goes is ends)

pub nests-push : (lists : List ℕ) (at : ℕ) (parts : List Part) (mid : List ℕ) (part : Part) (new : List ℕ) → Nests lists at parts mid → Moves mid (at + size parts) part new
    → Nests lists at (parts ++ part ∷ []) new
nests-push lists at [] mid part new nests moves =
    let here : at + 0 ≡ at = omega arith in
    (new, subst (λ l. Moves l at part new) nests (subst (λ n. Moves mid n part new) here moves), refl)
nests-push lists at (p ∷ ps) mid part new nests moves =
    let n : ℕ = length (spelling p) in
    let here : at + (n + size ps) ≡ (at + n) + size ps = omega arith in
    (nests.0, nests.1, nests-push nests.0 (at + n) ps mid part new nests.2 (subst (λ k. Moves mid k part new) here moves))

told-cons : (bytes : List ℕ) (at : ℕ) (p : Part) (ps : List Part) → told bytes at (p ∷ ps) ≡ told bytes at (p ∷ []) ++ told bytes (at + length (spelling p)) ps
told-cons bytes at (white b) ps = refl
told-cons bytes at _ ps = refl

pub told-push : (bytes : List ℕ) (at : ℕ) (parts : List Part) (part : Part) → told bytes at (parts ++ part ∷ []) ≡ told bytes at parts ++ told bytes (at + size parts) (part ∷ [])
told-push bytes at [] part = ap (λ n. told bytes n (part ∷ [])) (let e : at ≡ at + 0 = omega arith in e)
told-push bytes at (p ∷ ps) part =
    let n : ℕ = length (spelling p) in
    told-cons bytes at p (ps ++ part ∷ [])
    ∙ ap (λ l. told bytes at (p ∷ []) ++ l) (told-push bytes (at + n) ps part)
    ∙ sym (append_assoc (told bytes at (p ∷ [])) (told bytes (at + n) ps) (told bytes ((at + n) + size ps) (part ∷ [])))
    ∙ ap (λ l. l ++ told bytes ((at + n) + size ps) (part ∷ [])) (sym (told-cons bytes at p ps))
    ∙ ap (λ k. told bytes at (p ∷ ps) ++ told bytes k (part ∷ [])) (let e : (at + n) + size ps ≡ at + (n + size ps) = omega arith in e)

-- a clean front that grows by a part is clean
pub clean-push : (bytes : List ℕ) (at : ℕ) (lists : List ℕ) (parts : List Part) (part : Part) (new : ℕ) (inside : List ℕ) → IsClean bytes at lists parts → new ≤ length bytes
    → drop at bytes ≡ spelling part ++ drop new bytes → IsPart part → EndsBefore part (drop new bytes) → Moves lists at part inside → IsClean bytes new inside (parts ++ part ∷ [])
clean-push bytes at lists parts part new inside clean within goes is ends moves = record {
  within = within;
  splits = splits-push bytes parts (drop at bytes) part (drop new bytes) clean.splits goes is ends;
  nests = nests-push [] 0 parts lists part inside clean.nests (subst (λ n. Moves lists n part inside) (let e : at ≡ 0 + size parts = omega (arith, clean-size bytes at lists parts clean) in e) moves);
}

-- the marks of a clean front that grows by a part
pub told-clean : (bytes : List ℕ) (at : ℕ) (lists : List ℕ) (parts : List Part) (part : Part) → IsClean bytes at lists parts → told bytes 0 (parts ++ part ∷ []) ≡ told bytes 0 parts ++ told bytes at (part ∷ [])
told-clean bytes at lists parts part clean =
    told-push bytes 0 parts part ∙ ap (λ n. told bytes 0 parts ++ told bytes n (part ∷ [])) (let e : 0 + size parts ≡ at = omega (arith, clean-size bytes at lists parts clean) in e)

-- the place of an opening mark is that of its offset
abbrev pub IsRightMark : List ℕ → Mark → Type 0
IsRightMark bytes (word_at p text) = Unit {0}
IsRightMark bytes (string_at p text) = Unit {0}
IsRightMark bytes (opening_at p) = p ≡ place_at bytes p.offset
IsRightMark bytes (closing_before end) = Unit {0}

pub told-right : (bytes : List ℕ) (at : ℕ) (parts : List Part) → AllByRecursion (IsRightMark bytes) (told bytes at parts)
told-right bytes at [] = tt
told-right bytes at (white b ∷ parts) = told-right bytes (at + 1) parts
told-right bytes at (comment text ∷ parts) = told-right bytes (at + length (spelling (comment text))) parts
told-right bytes at (word text ∷ parts) = (tt, told-right bytes (at + length text) parts)
told-right bytes at (string text ∷ parts) = (tt, told-right bytes (at + length (spelling (string text))) parts)
told-right bytes at (opening ∷ parts) = (refl, told-right bytes (at + 1) parts)
told-right bytes at (closing ∷ parts) = (tt, told-right bytes (at + 1) parts)

pub all-middle : {X : Type 0} (P : X → Type 0) (xs : List X) (x : X) (ys : List X) → AllByRecursion P (xs ++ x ∷ ys) → P x
all-middle P [] x ys all = all.0
all-middle P (y ∷ more) x ys all = all-middle P more x ys all.1
