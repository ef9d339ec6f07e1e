-- The words of a command's line.
use Rattle.cil_store_specs.proofs.Common.{◌≡◌, ◌≢◌, ℕ, ◌+◌, ◌*◌, ◌-◌, ◌%◌, ◌^◌, ◌<◌, ◌≤◌, ◌==◌, ◌&&◌, Bool, true, false, not, List, [], ◌∷◌, ◌++◌, length, drop, get_or, bytes_eq, codes, decimal, if◌then◌else◌, refl, ap, sym, ◌∙◌, subst, true≢false, arith, list_all, join_with_byte, AllByRecursion, eqb-true, list_all-append, both_true, first_true, second_true, same_run, install, remove, enable, disable, Command, makes, begins, commits, aborts, asks_rules, asks_violations, asks_dropped, asks_modules, asks_dump, words_of, line_of, is_shown, HasGoodWords}
use Rattle.std.proofs.lemmas.Fmt.{decimal_by_steps}

-- a byte that is neither a space nor a line feed
abbrev pub is_plain : ℕ → Bool
is_plain b = not (b == 32) && not (b == 10)

abbrev pub is_no_space : ℕ → Bool
is_no_space b = not (b == 32)

-- a byte that ends no line
abbrev pub stays : ℕ → Bool
stays b = not (b == 10)

abbrev pub IsPlain : List ℕ → Type 0
IsPlain word = list_all is_plain word ≡ true

other-number : (a b : ℕ) → (a ≡ b → ⊥) → not (a == b) ≡ true
other-number a b other = by (a == b) refl
  where
    by : (c : Bool) → (a == b) ≡ c → not (a == b) ≡ true
    by true e = absurd (other (eqb-true a b e))
    by false e = ap not e

plain-byte : (b : ℕ) → (b ≡ 32 → ⊥) → (b ≡ 10 → ⊥) → is_plain b ≡ true
plain-byte b space feed = both_true (not (b == 32)) (not (b == 10)) (other-number b 32 space) (other-number b 10 feed)

pub shown-plain : (name : List ℕ) → list_all is_shown name ≡ true → IsPlain name
shown-plain [] all = refl
shown-plain (b ∷ name) all =
    let shown = first_true (is_shown b) (list_all is_shown name) all in
    both_true (is_plain b) (list_all is_plain name) (plain-byte b (λ e. true≢false (sym shown ∙ ap is_shown e)) (λ e. true≢false (sym shown ∙ ap is_shown e)))
    (shown-plain name (second_true (is_shown b) (list_all is_shown name) all))

pub digits-plain : (n : ℕ) → n < 2 ^ 64 → IsPlain (decimal n)
digits-plain n small = decimal_by_steps (λ k ds. IsPlain ds) one more n small
  where
    one : (n : ℕ) → n < 10 → IsPlain ((48 + n) ∷ [])
    one n less = both_true (is_plain (48 + n)) true (plain-byte (48 + n) (λ e. omega (arith, e)) (λ e. omega (arith, e))) refl

    more : (n : ℕ) (ds : List ℕ) → 10 ≤ n → IsPlain ds → IsPlain (ds ++ ((48 + n % 10) ∷ []))
    more n ds large all =
        list_all-append is_plain ds ((48 + n % 10) ∷ [])
        ∙ both_true (list_all is_plain ds) _ all (both_true (is_plain (48 + n % 10)) true (plain-byte (48 + n % 10) (λ e. omega (arith, e)) (λ e. omega (arith, e))) refl)

-- the words of a good command are plain
pub words-plain : (command : Command) → HasGoodWords command → AllByRecursion IsPlain (words_of command)
words-plain (makes (install name priority text)) good = (refl, (shown-plain name good.0.shown, (digits-plain priority (omega (arith, good.1)), (digits-plain (length text) (omega (arith, good.2)), tt))))
words-plain (makes (remove name priority)) good = (refl, (shown-plain name good.0.shown, (digits-plain priority (omega (arith, good.1)), tt)))
words-plain (makes (enable name)) good = (refl, (shown-plain name good.shown, tt))
words-plain (makes (disable name)) good = (refl, (shown-plain name good.shown, tt))
words-plain _ good = (refl, tt)

weaker : (p q : ℕ → Bool) → ((b : ℕ) → p b ≡ true → q b ≡ true) → (xs : List ℕ) → list_all p xs ≡ true → list_all q xs ≡ true
weaker p q f [] all = refl
weaker p q f (x ∷ xs) all = both_true (q x) (list_all q xs) (f x (first_true (p x) (list_all p xs) all)) (weaker p q f xs (second_true (p x) (list_all p xs) all))

pub plain-no-space : (word : List ℕ) → IsPlain word → list_all is_no_space word ≡ true
plain-no-space word all = weaker is_plain is_no_space (λ b e. first_true (not (b == 32)) (not (b == 10)) e) word all

plain-stays : (word : List ℕ) → IsPlain word → list_all stays word ≡ true
plain-stays word all = weaker is_plain stays (λ b e. second_true (not (b == 32)) (not (b == 10)) e) word all

-- a line of plain words has no line feed
joined-stays : (words : List (List ℕ)) → AllByRecursion IsPlain words → list_all stays (join_with_byte 32 words) ≡ true
joined-stays [] all = refl
joined-stays (w ∷ []) all = plain-stays w all.0
joined-stays (w ∷ (v ∷ words)) all =
    list_all-append stays w (32 ∷ join_with_byte 32 (v ∷ words))
    ∙ both_true (list_all stays w) _ (plain-stays w all.0) (joined-stays (v ∷ words) all.1)

pub line-stays : (command : Command) → HasGoodWords command → list_all stays (line_of command) ≡ true
line-stays command good = joined-stays (words_of command) (words-plain command good)

-- what stands before the first space, and behind it, is determined
pub same-words : (first other rest more : List ℕ) → list_all is_no_space first ≡ true → list_all is_no_space other ≡ true → first ++ 32 ∷ rest ≡ other ++ 32 ∷ more → (first ≡ other) × (rest ≡ more)
same-words first other rest more all every e =
    let both = same_run is_no_space first other (32 ∷ rest) (32 ∷ more) e all every refl refl in
    (both.0, ap (drop 1) both.1)

-- words with a space between them have a space
pub has-space : (first rest : List ℕ) → list_all is_no_space (first ++ 32 ∷ rest) ≡ true → ⊥
has-space first rest all = true≢false (sym (second_true (list_all is_no_space first) _ (sym (list_all-append is_no_space first (32 ∷ rest)) ∙ all)))

-- a line of plain words tells the words
joined-same : (w v : List ℕ) (words others : List (List ℕ)) → AllByRecursion IsPlain (w ∷ words) → AllByRecursion IsPlain (v ∷ others) → join_with_byte 32 (w ∷ words) ≡ join_with_byte 32 (v ∷ others) → w ∷ words ≡ v ∷ others
joined-same w v [] [] a b e = ap (λ x. x ∷ []) e
joined-same w v [] (u ∷ others) a b e = absurd (has-space v (join_with_byte 32 (u ∷ others)) (ap (list_all is_no_space) (sym e) ∙ plain-no-space w a.0))
joined-same w v (x ∷ words) [] a b e = absurd (has-space w (join_with_byte 32 (x ∷ words)) (ap (list_all is_no_space) e ∙ plain-no-space v b.0))
joined-same w v (x ∷ words) (u ∷ others) a b e =
    let both = same-words w v (join_with_byte 32 (x ∷ words)) (join_with_byte 32 (u ∷ others)) (plain-no-space w a.0) (plain-no-space v b.0) e in
    let more = joined-same x u words others a.1 b.1 both.1 in
    λ i. both.0 i ∷ more i

-- the first word of a command, and the others
abbrev pub first_word : Command → List ℕ
first_word command = get_or (words_of command) 0 []

abbrev pub other_words : Command → List (List ℕ)
other_words command = drop 1 (words_of command)

pub words-split : (command : Command) → words_of command ≡ first_word command ∷ other_words command
words-split (makes (install name priority text)) = refl
words-split _ = refl

pub lines-same : (c d : Command) → HasGoodWords c → HasGoodWords d → line_of c ≡ line_of d → words_of c ≡ words_of d
lines-same c d a b e =
    let p = subst (AllByRecursion IsPlain) (words-split c) (words-plain c a) in
    let q = subst (AllByRecursion IsPlain) (words-split d) (words-plain d b) in
    words-split c
    ∙ joined-same (first_word c) (first_word d) (other_words c) (other_words d) p q (ap (join_with_byte 32) (sym (words-split c)) ∙ e ∙ ap (join_with_byte 32) (words-split d))
    ∙ sym (words-split d)

-- A command by the kind of its first word, its name, its priority and its text.

abbrev pub kind_of_word : List ℕ → ℕ
kind_of_word w =
    if bytes_eq w (codes "install") then 0 else if bytes_eq w (codes "remove") then 1 else if bytes_eq w (codes "enable") then 2 else if bytes_eq w (codes "disable") then 3
    else if bytes_eq w (codes "rules") then 4 else if bytes_eq w (codes "violations") then 5 else if bytes_eq w (codes "dropped") then 6 else if bytes_eq w (codes "modules") then 7
    else if bytes_eq w (codes "begin") then 9 else if bytes_eq w (codes "commit") then 10 else if bytes_eq w (codes "abort") then 11 else 8

abbrev pub command_by : ℕ → List ℕ → ℕ → List ℕ → Command
command_by kind name priority text =
    if kind == 0 then makes (install name priority text) else if kind == 1 then makes (remove name priority) else if kind == 2 then makes (enable name) else if kind == 3 then makes (disable name)
    else if kind == 4 then asks_rules else if kind == 5 then asks_violations else if kind == 6 then asks_dropped else if kind == 7 then asks_modules
    else if kind == 9 then begins else if kind == 10 then commits else if kind == 11 then aborts else asks_dump

-- the number that digits denote
abbrev number_from : ℕ → List ℕ → ℕ
number_from n [] = n
number_from n (b ∷ bytes) = number_from (10 * n + (b - 48)) bytes

abbrev pub number_of : List ℕ → ℕ
number_of bytes = number_from 0 bytes

number-append : (n : ℕ) (xs : List ℕ) (b : ℕ) → number_from n (xs ++ b ∷ []) ≡ 10 * number_from n xs + (b - 48)
number-append n [] b = refl
number-append n (x ∷ xs) b = number-append (10 * n + (x - 48)) xs b

pub number-decimal : (n : ℕ) → n < 2 ^ 64 → number_of (decimal n) ≡ n
number-decimal n small = decimal_by_steps (λ k ds. number_of ds ≡ k) (λ n less. omega arith) (λ n ds large so_far. number-append 0 ds (48 + n % 10) ∙ omega (arith, so_far)) n small

-- the text of a command; of all but an install it is empty
abbrev pub text_of : Command → List ℕ
text_of (makes (install name priority text)) = text
text_of _ = []

pub command-is : (command : Command) → HasGoodWords command
    → command ≡ command_by (kind_of_word (first_word command)) (get_or (words_of command) 1 []) (number_of (get_or (words_of command) 2 [])) (text_of command)
command-is (makes (install name priority text)) good = ap (λ p. makes (install name p text)) (sym (number-decimal priority (omega (arith, good.1))))
command-is (makes (remove name priority)) good = ap (λ p. makes (remove name p)) (sym (number-decimal priority (omega (arith, good.1))))
command-is _ good = refl

-- commands of the same words and the same text are one
pub commands-same : (c d : Command) → HasGoodWords c → HasGoodWords d → words_of c ≡ words_of d → text_of c ≡ text_of d → c ≡ d
commands-same c d a b words texts =
    command-is c a
    ∙ (λ i. command_by (kind_of_word (get_or (words i) 0 [])) (get_or (words i) 1 []) (number_of (get_or (words i) 2 [])) (texts i))
    ∙ sym (command-is d b)

-- the length of a text by the last word of an install
pub text-length : (command : Command) → HasGoodWords command → length (text_of command) ≡ number_of (get_or (words_of command) 3 [])
text-length (makes (install name priority text)) good = sym (number-decimal (length text) (omega (arith, good.2)))
text-length _ good = refl

-- the first word of a command whose line has others, and those
pub first-is : (w rest : List ℕ) (command : Command) → HasGoodWords command → list_all is_no_space w ≡ true → w ++ 32 ∷ rest ≡ line_of command
    → (first_word command ≡ w) × (rest ≡ join_with_byte 32 (other_words command)) × (other_words command ≢ [])
first-is w rest command good plain e =
    by (first_word command) (other_words command) (plain-no-space (first_word command) (subst (AllByRecursion IsPlain) (words-split command) (words-plain command good)).0) (e ∙ ap (join_with_byte 32) (words-split command))
  where
    by : (v : List ℕ) (others : List (List ℕ)) → list_all is_no_space v ≡ true → w ++ 32 ∷ rest ≡ join_with_byte 32 (v ∷ others) → (v ≡ w) × (rest ≡ join_with_byte 32 others) × (others ≢ [])
    by v [] all same = absurd (has-space w rest (ap (list_all is_no_space) same ∙ all))
    by v (u ∷ others) all same =
        let both = same-words w v rest (join_with_byte 32 (u ∷ others)) plain all same in
        (sym both.0, both.1, λ none. omega (arith, ap length none))

-- a command whose line begins with a word, by the kind of the word
pub command-of : (w rest : List ℕ) (command : Command) → HasGoodWords command → list_all is_no_space w ≡ true → w ++ 32 ∷ rest ≡ line_of command
    → command ≡ command_by (kind_of_word w) (get_or (words_of command) 1 []) (number_of (get_or (words_of command) 2 [])) (text_of command)
command-of w rest command good plain e =
    command-is command good ∙ ap (λ v. command_by (kind_of_word v) (get_or (words_of command) 1 []) (number_of (get_or (words_of command) 2 [])) (text_of command)) (first-is w rest command good plain e).0

-- a line of several words begins with one of four
pub known-first : (command : Command) → other_words command ≢ []
    → first_word command ≢ codes "install" → first_word command ≢ codes "remove" → first_word command ≢ codes "enable" → first_word command ≢ codes "disable" → ⊥
known-first (makes (install name priority text)) some a b c d = a refl
known-first (makes (remove name priority)) some a b c d = b refl
known-first (makes (enable name)) some a b c d = c refl
known-first (makes (disable name)) some a b c d = d refl
known-first _ some a b c d = some refl
