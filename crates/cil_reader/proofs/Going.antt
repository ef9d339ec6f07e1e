-- One step of the reader for each part.
use Rattle.cil_reader.proofs.Common.{suc, ◌≡◌, ◌≢◌, ℕ, ◌+◌, ◌-◌, ◌<◌, ◌&&◌, Bool, true, false, not, cond, List, [], ◌∷◌, ◌++◌, length, take, drop, get_or, map, reverse, refl, ap, sym, ◌∙◌, subst, append_assoc, append-nil, length-append, length-drop, get_or-drop, IsTrue, inr, arith, list_all, prefix_len, eqb-true, length-take-le, length-map, length-reverse, length-set, drop-drop, take-append-drop, prefix_len-le-length, drop-cons, take-append_seam, is_word_byte, is_string_byte, is_comment_byte, Part, comment, word, string, opening, closing, Mark, word_at, string_at, opening_at, closing_before, place_at, Stops, bare_word, StopsBefore, same_run, both_true, second_true, run-passes, run-stops, ends-word, ends-comment, ends-string, ends-opening, ends-closing, place_of, IsPlaced, GoesOver, HaveMarks, IsRead, open_lists, Open, Reader, Node}
use Rattle.std.proofs.Common.{true≢false}
use Rattle.std.proofs.lemmas.List.Folds.{list_all-append}
use Rattle.std.proofs.Math.Dec.{eqb}
use Rattle.std.proofs.Math.ListN.{set}
use Rattle.cil_specs.proofs.PlaceLemmas.{to_right}
use Rattle.cil_reader.specs.declared.node.Node.TheVariants.{Word, String, List as Listed}
use Rattle.cil_reader.proofs.Marks.{whole_word, whole_string, more_marks, open_marks, close_marks, open_lists-push, reverse-push}
use Rattle.cil_reader.proofs.Reading.{front-rest, byte-rest, byte-run, goes-right}

-- what passes one test passes another that asks less
all-weaker : (p q : ℕ → Bool) → ((b : ℕ) → p b ≡ true → q b ≡ true) → (xs : List ℕ) → list_all p xs ≡ true → list_all q xs ≡ true
all-weaker p q less [] all = refl
all-weaker p q less (x ∷ xs) all = both_true (q x) (list_all q xs) (less x (first (p x) (list_all p xs) all)) (all-weaker p q less xs (second_true (p x) (list_all p xs) all))
  where
    first : (b c : Bool) → (b && c) ≡ true → b ≡ true
    first true c e = refl
    first false c e = absurd (true≢false (sym e))

-- a word byte is no line feed
word-on-line : (b : ℕ) → is_word_byte b ≡ true → is_comment_byte b ≡ true
word-on-line b is = by (eqb b 10) refl
  where
    by : (c : Bool) → eqb b 10 ≡ c → not (eqb b 10) ≡ true
    by true e = absurd (true≢false (sym is ∙ ap is_word_byte (eqb-true b 10 e)))
    by false e = ap not e

string-on-line : (b : ℕ) → is_string_byte b ≡ true → is_comment_byte b ≡ true
string-on-line b is = second_true (not (eqb b 34)) (not (eqb b 10)) is

not_none : (xs : List ℕ) → 0 < length xs → xs ≢ []
not_none xs some none = omega (arith, some, ap length none)

-- a list is open where there is an open one
open-some : (os : List Open) → 0 < length os → reverse (map (λ o. o.at.offset) os) ≢ []
open-some os some none = omega (arith, some, sym (length-map os (λ o. o.at.offset)) ∙ sym (length-reverse (map (λ o. o.at.offset) os)) ∙ ap length none)

-- a first byte that passes makes a run of one at least
run-some : (p : ℕ → Bool) (bytes : List ℕ) (at : ℕ) → at < length bytes → p (get_or bytes at 0) ≡ true → 0 < prefix_len p (drop at bytes)
run-some p bytes at within is = rw (drop-cons bytes at 0 within) (subst (λ b. 0 < cond b (1 + prefix_len p (drop (suc at) bytes)) 0) (sym is) (omega arith))

-- the marks of a reader with these lists open and these nodes
read-by : {A : Type 0} (old new : Reader A) (opened : List Open) (nodes : List Node) (seen : List Mark) → new.text.now ≡ old.text.now → new.outer.items ≡ opened → new.nodes.items ≡ nodes
    → HaveMarks old.text.now (reverse opened) nodes seen → IsRead new seen
read-by old new opened nodes seen same outer current had =
    subst (λ text. HaveMarks text (reverse new.outer.items) new.nodes.items seen) (sym same)
    (subst (λ os. HaveMarks old.text.now (reverse os) new.nodes.items seen) (sym outer) (subst (λ ns. HaveMarks old.text.now (reverse opened) ns seen) (sym current) had))

-- over a comment: the ; and the n bytes before the line's end
pub goes-comment : {A : Type 0} (old new : Reader A) (n : ℕ) → IsPlaced old → old.at.offset < length old.text.now → get_or old.text.now old.at.offset 0 ≡ 59 → n ≡ prefix_len is_comment_byte (drop (old.at.offset + 1) old.text.now)
    → place_of new.at ≡ to_right (place_of old.at) (1 + n) → new.outer.items ≡ old.outer.items → new.nodes.items ≡ old.nodes.items → new.text.now ≡ old.text.now → (p : Part) × GoesOver old new p
goes-comment old new n placed within byte run at outer current same =
    let bytes : List ℕ = old.text.now in
    let rest : List ℕ = drop (old.at.offset + 1) bytes in
    let text : List ℕ = take n rest in
    let free : list_all is_comment_byte text ≡ true = ap (λ k. list_all is_comment_byte (take k rest)) run ∙ run-passes is_comment_byte rest in
    let size : length text ≡ n = length-take-le n rest (omega (arith, run, prefix_len-le-length is_comment_byte rest)) in
    let behind : drop (old.at.offset + length (59 ∷ text)) bytes ≡ drop (prefix_len is_comment_byte rest) rest =
    ap (λ k. drop k bytes) (let e : old.at.offset + length (59 ∷ text) ≡ (old.at.offset + 1) + n = omega (arith, size) in e) ∙ sym (drop-drop n (old.at.offset + 1) bytes) ∙ ap (λ k. drop k rest) run in (
      comment text,
      goes-right old new (comment text) placed free free (byte-run is_comment_byte bytes old.at.offset 59 n within byte run)
          (ends-comment text _ (subst (StopsBefore is_comment_byte) (sym behind) (run-stops is_comment_byte rest)))
          (ap (λ l. reverse (map (λ o. o.at.offset) l)) outer)
          (λ seen had. read-by old new old.outer.items old.nodes.items (seen ++ []) same outer current (subst (HaveMarks old.text.now (reverse old.outer.items) old.nodes.items) (sym (append-nil seen)) had))
          (omega (arith, placed.few, ap length current))
          (at ∙ ap (to_right (place_of old.at)) (let e : 1 + n ≡ length (59 ∷ text) = omega (arith, size) in e)) same,
    )

-- over a word: the n word bytes at the front
pub goes-word : {A : Type 0} (old new : Reader A) (n : ℕ) → IsPlaced old → old.at.offset < length old.text.now → is_word_byte (get_or old.text.now old.at.offset 0) ≡ true
    → n ≡ prefix_len is_word_byte (drop old.at.offset old.text.now) → 0 < length old.outer.items → place_of new.at ≡ to_right (place_of old.at) n
    → new.outer.items ≡ old.outer.items → new.nodes.items ≡ old.nodes.items ++ Word old.at n ∷ [] → new.text.now ≡ old.text.now → (p : Part) × GoesOver old new p
goes-word old new n placed within byte run listed at outer current same =
    let bytes : List ℕ = old.text.now in
    let rest : List ℕ = drop old.at.offset bytes in
    let text : List ℕ = take n rest in
    let passes : list_all is_word_byte text ≡ true = ap (λ k. list_all is_word_byte (take k rest)) run ∙ run-passes is_word_byte rest in
    let size : length text ≡ n = length-take-le n rest (omega (arith, run, prefix_len-le-length is_word_byte rest)) in
    let some : 0 < n = omega (arith, run, run-some is_word_byte bytes old.at.offset within byte) in
    let there : (k : ℕ) → k ≡ n → drop (old.at.offset + k) bytes ≡ drop (prefix_len is_word_byte rest) rest =
    λ k e. ap (λ m. drop (old.at.offset + m) bytes) e ∙ sym (drop-drop n old.at.offset bytes) ∙ ap (λ m. drop m rest) run in (
      word text,
      goes-right old new (word text) placed (not_none text (omega (arith, size, some)), passes) (all-weaker is_word_byte is_comment_byte word-on-line text passes)
          (front-rest bytes old.at.offset n ∙ ap (λ k. text ++ drop (old.at.offset + k) bytes) (sym size))
          (ends-word text _ (subst (StopsBefore is_word_byte) (sym (there (length text) size)) (run-stops is_word_byte rest)))
          (open-some old.outer.items listed, ap (λ l. reverse (map (λ o. o.at.offset) l)) outer)
          (λ seen had. read-by old new old.outer.items (old.nodes.items ++ Word old.at n ∷ []) (seen ++ word_at (place_at bytes old.at.offset) text ∷ []) same outer current
          (subst (λ p. HaveMarks bytes (reverse old.outer.items) (old.nodes.items ++ Word old.at n ∷ []) (seen ++ word_at p text ∷ [])) placed.place
          (more_marks bytes (reverse old.outer.items) old.nodes.items (Word old.at n ∷ []) seen had (whole_word bytes old.at n))))
          (omega (arith, placed.few, ap length current, length-append old.nodes.items (Word old.at n ∷ []), size, some))
          (at ∙ ap (to_right (place_of old.at)) (sym size)) same,
    )

string-free : (text : List ℕ) → list_all is_string_byte text ≡ true → list_all is_comment_byte (34 ∷ (text ++ 34 ∷ [])) ≡ true
string-free text passes = list_all-append is_comment_byte text (34 ∷ []) ∙ both_true (list_all is_comment_byte text) true (all-weaker is_string_byte is_comment_byte string-on-line text passes) refl

-- the text of a string that is closed, and what stands behind it
pub string-here : (bytes : List ℕ) (at n : ℕ) → at < length bytes → get_or bytes at 0 ≡ 34 → n < length (drop (at + 1) bytes) → get_or (drop (at + 1) bytes) n 0 ≡ 34
    → drop at bytes ≡ (34 ∷ (take n (drop (at + 1) bytes) ++ 34 ∷ [])) ++ drop (at + (n + 2)) bytes
string-here bytes at n within byte room quote =
    let rest : List ℕ = drop (at + 1) bytes in
    byte-rest bytes at 34 within byte ∙ ap (λ l. 34 ∷ l) (front-rest bytes (at + 1) n)
    ∙ ap (λ l. 34 ∷ (take n rest ++ l)) (byte-rest bytes ((at + 1) + n) 34 (omega (arith, room, length-drop (at + 1) bytes)) (sym (get_or-drop (at + 1) bytes n 0) ∙ quote))
    ∙ ap (λ k. 34 ∷ (take n rest ++ 34 ∷ drop k bytes)) (let e : ((at + 1) + n) + 1 ≡ at + (n + 2) = omega arith in e)
    ∙ ap (λ l. 34 ∷ l) (sym (append_assoc (take n rest) (34 ∷ []) (drop (at + (n + 2)) bytes)))

-- over a string: n bytes between two quotes
pub goes-string : {A : Type 0} (old new : Reader A) (n : ℕ) → IsPlaced old → old.at.offset < length old.text.now → get_or old.text.now old.at.offset 0 ≡ 34
    → n ≡ prefix_len is_string_byte (drop (old.at.offset + 1) old.text.now) → n < length (drop (old.at.offset + 1) old.text.now) → get_or (drop (old.at.offset + 1) old.text.now) n 0 ≡ 34
    → 0 < length old.outer.items → place_of new.at ≡ to_right (place_of old.at) (n + 2)
    → new.outer.items ≡ old.outer.items → new.nodes.items ≡ old.nodes.items ++ String old.at (n + 2) ∷ [] → new.text.now ≡ old.text.now → (p : Part) × GoesOver old new p
goes-string old new n placed within byte run room quote listed at outer current same =
    let bytes : List ℕ = old.text.now in
    let rest : List ℕ = drop (old.at.offset + 1) bytes in
    let text : List ℕ = take n rest in
    let passes : list_all is_string_byte text ≡ true = ap (λ k. list_all is_string_byte (take k rest)) run ∙ run-passes is_string_byte rest in
    let whole : length (34 ∷ (text ++ 34 ∷ [])) ≡ n + 2 = omega (arith, length-append text (34 ∷ []), length-take-le n rest (omega (arith, room))) in
    let here : drop old.at.offset bytes ≡ (34 ∷ (text ++ 34 ∷ [])) ++ drop (old.at.offset + (n + 2)) bytes = string-here bytes old.at.offset n within byte room quote in
    let spelt : take (n + 2) (drop old.at.offset bytes) ≡ 34 ∷ (text ++ 34 ∷ []) = ap (take (n + 2)) here ∙ ap (λ k. take k ((34 ∷ (text ++ 34 ∷ [])) ++ drop (old.at.offset + (n + 2)) bytes)) (sym whole) ∙ take-append_seam (34 ∷ (text ++ 34 ∷ [])) (drop (old.at.offset + (n + 2)) bytes) in (
      string text,
      goes-right old new (string text) placed passes (string-free text passes)
          (here ∙ ap (λ k. (34 ∷ (text ++ 34 ∷ [])) ++ drop (old.at.offset + k) bytes) (sym whole))
          (ends-string text _) (open-some old.outer.items listed, ap (λ l. reverse (map (λ o. o.at.offset) l)) outer)
          (λ seen had. read-by old new old.outer.items (old.nodes.items ++ String old.at (n + 2) ∷ []) (seen ++ string_at (place_at bytes old.at.offset) (34 ∷ (text ++ 34 ∷ [])) ∷ []) same outer current
          (subst (λ p. HaveMarks bytes (reverse old.outer.items) (old.nodes.items ++ String old.at (n + 2) ∷ []) (seen ++ string_at p (34 ∷ (text ++ 34 ∷ [])) ∷ [])) placed.place
          (subst (λ t. HaveMarks bytes (reverse old.outer.items) (old.nodes.items ++ String old.at (n + 2) ∷ []) (seen ++ string_at (place_of old.at) t ∷ [])) spelt
          (more_marks bytes (reverse old.outer.items) old.nodes.items (String old.at (n + 2) ∷ []) seen had (whole_string bytes old.at (n + 2))))))
          (omega (arith, placed.few, ap length current, length-append old.nodes.items (String old.at (n + 2) ∷ []), whole))
          (at ∙ ap (to_right (place_of old.at)) (sym whole)) same,
    )

-- over a (, which is a node and open
pub goes-open : {A : Type 0} (old new : Reader A) (o : Open) (list : Node) → IsPlaced old → old.at.offset < length old.text.now → get_or old.text.now old.at.offset 0 ≡ 40 → length old.outer.items < 256
    → o.at ≡ old.at → o.node ≡ length old.nodes.items → place_of new.at ≡ to_right (place_of old.at) 1 → new.outer.items ≡ old.outer.items ++ o ∷ [] → new.nodes.items ≡ old.nodes.items ++ list ∷ []
    → new.text.now ≡ old.text.now → GoesOver old new opening
goes-open old new o list placed within byte room here counts at outer current same =
    let os = old.outer.items in
    let bytes : List ℕ = old.text.now in
    goes-right old new opening placed tt refl (byte-rest old.text.now old.at.offset 40 within byte) (ends-opening _)
    (omega (arith, room, length-reverse (map (λ o. o.at.offset) os), length-map os (λ o. o.at.offset)), ap (λ l. reverse (map (λ o. o.at.offset) l)) outer ∙ open_lists-push os o ∙ ap (λ p. p.offset ∷ open_lists old) here)
    (λ seen had. read-by old new (os ++ o ∷ []) (old.nodes.items ++ list ∷ []) (seen ++ opening_at (place_at bytes old.at.offset) ∷ []) same outer current
    (subst (λ opened. HaveMarks bytes opened (old.nodes.items ++ list ∷ []) (seen ++ opening_at (place_at bytes old.at.offset) ∷ [])) (sym (reverse-push os o))
    (subst (λ p. HaveMarks bytes (o ∷ reverse os) (old.nodes.items ++ list ∷ []) (seen ++ opening_at p ∷ [])) (ap place_of here ∙ placed.place)
    (open_marks bytes (reverse os) old.nodes.items seen o list had counts))))
    (omega (arith, placed.few, ap length current, length-append old.nodes.items (list ∷ [])))
    at same

-- the marks of a reader that has this list open as the innermost
pub inside-open : {A : Type 0} (r : Reader A) (os : List Open) (o : Open) (seen : List Mark) → r.outer.items ≡ os ++ o ∷ [] → IsRead r seen → HaveMarks r.text.now (o ∷ reverse os) r.nodes.items seen
inside-open r os o seen outer had = subst (λ opened. HaveMarks r.text.now opened r.nodes.items seen) (ap reverse outer ∙ reverse-push os o) had

-- over a ), where the innermost list is told its end
pub goes-close : {A : Type 0} (old new : Reader A) (o : Open) (inner : ℕ) → IsPlaced old → old.at.offset < length old.text.now → get_or old.text.now old.at.offset 0 ≡ 41
    → old.outer.items ≡ new.outer.items ++ o ∷ [] → inner ≡ length old.nodes.items - o.node - 1 → place_of new.at ≡ to_right (place_of old.at) 1
    → new.nodes.items ≡ set old.nodes.items o.node (Listed o.at new.at.offset inner) → new.text.now ≡ old.text.now → GoesOver old new closing
goes-close old new o inner placed within byte outer counts at current same =
    let os = new.outer.items in
    let bytes : List ℕ = old.text.now in
    let end : new.at.offset ≡ old.at.offset + 1 = ap (λ p. p.offset) at in
    goes-right old new closing placed tt refl (byte-rest old.text.now old.at.offset 41 within byte) (ends-closing _)
    (o.at.offset, ap (λ l. reverse (map (λ o. o.at.offset) l)) outer ∙ open_lists-push os o)
    (λ seen had. read-by old new os (set old.nodes.items o.node (Listed o.at new.at.offset inner)) (seen ++ closing_before (old.at.offset + 1) ∷ []) same refl current
    (subst (λ n. HaveMarks bytes (reverse os) (set old.nodes.items o.node (Listed o.at new.at.offset inner)) (seen ++ closing_before n ∷ [])) end
    (close_marks bytes (reverse os) old.nodes.items seen o new.at.offset inner (inside-open old os o seen outer had) counts)))
    (omega (arith, placed.few, ap length current, length-set old.nodes.items o.node (Listed o.at new.at.offset inner)))
    at same

-- where no " stands behind the longest run of other bytes, the string isn't closed
pub not-closed : (inside : List ℕ) (n : ℕ) → n ≡ prefix_len is_string_byte inside → (n < length inside → get_or inside n 0 ≡ 34 → ⊥) → (text more : List ℕ) → IsTrue (list_all is_string_byte text) → inside ≡ text ++ 34 ∷ more → ⊥
not-closed inside n run free text more passes is =
    let whole : take n inside ++ drop n inside ≡ text ++ 34 ∷ more = take-append-drop n inside ∙ is in
    let stops : StopsBefore is_string_byte (drop n inside) = subst (λ k. StopsBefore is_string_byte (drop k inside)) (sym run) (run-stops is_string_byte inside) in
    let all : list_all is_string_byte (take n inside) ≡ true = ap (λ k. list_all is_string_byte (take k inside)) run ∙ run-passes is_string_byte inside in
    let tail : drop n inside ≡ 34 ∷ more = (same_run is_string_byte (take n inside) text (drop n inside) (34 ∷ more) whole all passes stops refl).1 in
    let room : n < length inside = omega (arith, ap length tail, length-drop n inside) in
    free room (ap (λ k. get_or inside k 0) (let e : n ≡ n + 0 = omega arith in e) ∙ sym (get_or-drop n inside 0 0) ∙ ap (λ l. get_or l 0 0) tail)

-- a closed string outside all lists
pub bare-string : (bytes lists : List ℕ) (at n : ℕ) → lists ≡ [] → at < length bytes → get_or bytes at 0 ≡ 34 → n ≡ prefix_len is_string_byte (drop (at + 1) bytes) → n < length (drop (at + 1) bytes) → get_or (drop (at + 1) bytes) n 0 ≡ 34
    → Stops bare_word lists (drop at bytes) (34 ∷ [])
bare-string bytes lists at n none within byte run room quote =
    let rest : List ℕ = drop (at + 1) bytes in
    let text : List ℕ = take n rest in
    let whole : drop at bytes ≡ 34 ∷ (text ++ 34 ∷ drop (at + (n + 2)) bytes) = string-here bytes at n within byte room quote ∙ ap (λ l. 34 ∷ l) (append_assoc text (34 ∷ []) (drop (at + (n + 2)) bytes)) in
    let passes : list_all is_string_byte text ≡ true = ap (λ k. list_all is_string_byte (take k rest)) run ∙ run-passes is_string_byte rest in
    (none, inr ((text, drop (at + (n + 2)) bytes, whole, passes), refl))

-- no list is open where none stands around
pub open-none : (os : List Open) → length os ≡ 0 → reverse (map (λ o. o.at.offset) os) ≡ []
open-none [] e = refl
open-none (o ∷ os) e = absurd (omega (arith, e))
