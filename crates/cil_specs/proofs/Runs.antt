-- The longest front of a list of bytes that passes a test.
use Rattle.cil_specs.proofs.Common.{zero, suc, one-add, ◌≡◌, ℕ, ◌+◌, ◌<◌, Bool, true, false, cond, ◌&&◌, ◌||◌, List, [], ◌∷◌, ◌++◌, length, take, drop, get_or, refl, ap, sym, ◌∙◌, subst, arith, list_all, prefix_len, comment, word, string, opening, closing, EndsBefore, is_word_byte, is_comment_byte}
use Rattle.std.proofs.Common.{true≢false}

-- the bytes are none, or their first doesn't pass
abbrev pub StopsBefore : (ℕ → Bool) → List ℕ → Type 0
StopsBefore p [] = Unit {0}
StopsBefore p (b ∷ bytes) = p b ≡ false

pub both_true : (b c : Bool) → b ≡ true → c ≡ true → (b && c) ≡ true
both_true b c e f = ap (λ x. x && c) e ∙ f

pub first_true : (b c : Bool) → (b && c) ≡ true → b ≡ true
first_true true c e = refl
first_true false c e = absurd (true≢false (sym e))

pub second_true : (b c : Bool) → (b && c) ≡ true → c ≡ true
second_true true c e = e
second_true false c e = absurd (true≢false (sym e))

pub neither-first : (b c : Bool) → (b || c) ≡ false → b ≡ false
neither-first true c e = e
neither-first false c e = refl

pub neither-second : (b c : Bool) → (b || c) ≡ false → c ≡ false
neither-second true c e = absurd (true≢false e)
neither-second false c e = e

pub run-passes : (p : ℕ → Bool) (xs : List ℕ) → list_all p (take (prefix_len p xs) xs) ≡ true
run-passes p [] = refl
run-passes p (x ∷ xs) = by (run-passes p xs) (p x) refl
  where
    by : list_all p (take (prefix_len p xs) xs) ≡ true → (b : Bool) → p x ≡ b → list_all p (take (cond (p x) (1 + prefix_len p xs) 0) (x ∷ xs)) ≡ true
    by rest true h = subst (λ b. list_all p (take (cond b (1 + prefix_len p xs) 0) (x ∷ xs)) ≡ true) (sym h) (rw (one-add (prefix_len p xs)) (both_true (p x) _ h rest))
    by rest false h = subst (λ b. list_all p (take (cond b (1 + prefix_len p xs) 0) (x ∷ xs)) ≡ true) (sym h) refl

pub run-stops : (p : ℕ → Bool) (xs : List ℕ) → StopsBefore p (drop (prefix_len p xs) xs)
run-stops p [] = tt
run-stops p (x ∷ xs) = by (run-stops p xs) (p x) refl
  where
    by : StopsBefore p (drop (prefix_len p xs) xs) → (b : Bool) → p x ≡ b → StopsBefore p (drop (cond (p x) (1 + prefix_len p xs) 0) (x ∷ xs))
    by rest true h = subst (λ b. StopsBefore p (drop (cond b (1 + prefix_len p xs) 0) (x ∷ xs))) (sym h) (rw (one-add (prefix_len p xs)) rest)
    by rest false h = subst (λ b. StopsBefore p (drop (cond b (1 + prefix_len p xs) 0) (x ∷ xs))) (sym h) h

pub all-at : (p : ℕ → Bool) (xs : List ℕ) (k : ℕ) → list_all p xs ≡ true → k < length xs → p (get_or xs k 0) ≡ true
all-at p [] k all within = absurd (omega arith)
all-at p (x ∷ xs) zero all within = first_true (p x) (list_all p xs) all
all-at p (x ∷ xs) (suc k) all within = all-at p xs k (second_true (p x) (list_all p xs) all) (omega arith)

pub ends-word : (text bytes : List ℕ) → StopsBefore is_word_byte bytes → EndsBefore (word text) bytes
ends-word text [] stops = tt
ends-word text (b ∷ bytes) stops = stops

pub ends-comment : (text bytes : List ℕ) → StopsBefore is_comment_byte bytes → EndsBefore (comment text) bytes
ends-comment text [] stops = tt
ends-comment text (b ∷ bytes) stops = stops

-- two runs at the front of one list, behind each of which stands what doesn't pass, are one
pub same_run : (p : ℕ → Bool) (xs ys t u : List ℕ) → xs ++ t ≡ ys ++ u → list_all p xs ≡ true → list_all p ys ≡ true → StopsBefore p t → StopsBefore p u → (xs ≡ ys) × (t ≡ u)
same_run p [] [] t u e all_x all_y stop_t stop_u = (refl, e)
same_run p [] (y ∷ ys) t u e all_x all_y stop_t stop_u = absurd (true≢false (sym (first_true (p y) (list_all p ys) all_y) ∙ subst (StopsBefore p) e stop_t))
same_run p (x ∷ xs) [] t u e all_x all_y stop_t stop_u = absurd (true≢false (sym (first_true (p x) (list_all p xs) all_x) ∙ subst (StopsBefore p) (sym e) stop_u))
same_run p (x ∷ xs) (y ∷ ys) t u e all_x all_y stop_t stop_u =
    let head : x ≡ y = ap (λ l. get_or l 0 0) e in
    let tail = same_run p xs ys t u (ap (drop 1) e) (second_true (p x) (list_all p xs) all_x) (second_true (p y) (list_all p ys) all_y) stop_t stop_u in
    ((λ i. head i ∷ tail.0 i), tail.1)

-- other parts end by themselves
pub ends-string : (text bytes : List ℕ) → EndsBefore (string text) bytes
ends-string text [] = tt
ends-string text (b ∷ bytes) = refl

pub ends-opening : (bytes : List ℕ) → EndsBefore opening bytes
ends-opening [] = tt
ends-opening (b ∷ bytes) = refl

pub ends-closing : (bytes : List ℕ) → EndsBefore closing bytes
ends-closing [] = tt
ends-closing (b ∷ bytes) = refl
