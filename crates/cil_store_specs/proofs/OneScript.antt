-- A script has one list of commands, and ends in one way.
use Rattle.cil_store_specs.proofs.Common.{◌≡◌, ℕ, zero, suc, ◌+◌, ◌<◌, List, [], ◌∷◌, ◌++◌, length, drop, take, flat_map, get_or, refl, ap, sym, ◌∙◌, subst, append_assoc, length-append, arith, take_all, take-append-le, list_all, AllByRecursion, all-first, all-second, install, Command, makes, begins, line_of, behind, command_bytes, HasGoodWords, IsCommand, MayLackItsEnd, End, ends, stops, IsEnd, Commands, whole, without_end, BeginsWith, whole_ones, all_of_it}
use Rattle.std.proofs.Common.{append-nil}
use Rattle.cil_store_specs.proofs.WordLemmas.{stays, line-stays, lines-same, commands-same, text_of, text-length, kind_of_word, number_of, first_word}
use Rattle.cil_store_specs.proofs.LineLemmas.{same-lines, has-feed, command-line}

-- lists of one length at the front of one list
pub same-fronts : (first other rest more : List ℕ) → length first ≡ length other → first ++ rest ≡ other ++ more → (first ≡ other) × (rest ≡ more)
same-fronts [] [] rest more size e = (refl, e)
same-fronts [] (c ∷ other) rest more size e = absurd (omega (arith, size))
same-fronts (b ∷ first) [] rest more size e = absurd (omega (arith, size))
same-fronts (b ∷ first) (c ∷ other) rest more size e =
    let both = same-fronts first other rest more (omega (arith, size)) (ap (drop 1) e) in
    let heads : b ≡ c = ap (λ l. get_or l 0 0) e in
    (λ i. heads i ∷ both.0 i, both.1)

-- how many bytes stand behind a line, by its first word and the length of the text
abbrev size_behind : ℕ → ℕ → ℕ
size_behind zero size = size + 1
size_behind (suc kind) size = 0

length-behind : (command : Command) → length (behind command) ≡ size_behind (kind_of_word (first_word command)) (length (text_of command))
length-behind (makes (install name priority text)) = length-append text (10 ∷ [])
length-behind _ = refl

-- the text is what stands there, but for a line feed
text-behind : (command : Command) → text_of command ≡ take (length (text_of command)) (behind command)
text-behind (makes (install name priority text)) = sym (take_all (length text) text (omega arith)) ∙ sym (take-append-le (length text) text (10 ∷ []) (omega arith))
text-behind _ = refl

-- what commands of one line, and what stands behind it, are
same-behind : (c d : Command) (rest more : List ℕ) → HasGoodWords c → HasGoodWords d → line_of c ≡ line_of d → behind c ++ rest ≡ behind d ++ more → (c ≡ d) × (rest ≡ more)
same-behind c d rest more a b lines e =
    let words = lines-same c d a b lines in
    let sizes : length (text_of c) ≡ length (text_of d) = text-length c a ∙ (λ i. number_of (get_or (words i) 3 [])) ∙ sym (text-length d b) in
    let lengths : length (behind c) ≡ length (behind d) = length-behind c ∙ (λ i. size_behind (kind_of_word (get_or (words i) 0 [])) (sizes i)) ∙ sym (length-behind d) in
    let both = same-fronts (behind c) (behind d) rest more lengths e in
    let texts : text_of c ≡ text_of d = text-behind c ∙ (λ i. take (sizes i) (both.0 i)) ∙ sym (text-behind d) in
    (commands-same c d a b words texts, both.1)

-- a command at the front of bytes is one
same-command : (c d : Command) (rest more : List ℕ) → HasGoodWords c → HasGoodWords d → command_bytes c ++ rest ≡ command_bytes d ++ more → (c ≡ d) × (rest ≡ more)
same-command c d rest more a b e =
    let lines = same-lines (line_of c) (line_of d) (behind c ++ rest) (behind d ++ more) (line-stays c a) (line-stays d b) (sym (command-line c rest) ∙ e ∙ command-line d more) in
    same-behind c d rest more a b lines.0 lines.1

-- a command that may lack its line feed has no text
no-text : (command : Command) → MayLackItsEnd command → text_of command ≡ []
no-text (makes (install name priority text)) may = absurd may
no-text _ may = refl

-- and so is a line that lacks its line feed
same-last : (c d : Command) → HasGoodWords c → HasGoodWords d → MayLackItsEnd c → MayLackItsEnd d → line_of c ≡ line_of d → c ≡ d
same-last c d a b may other e = commands-same c d a b (lines-same c d a b e) (no-text c may ∙ sym (no-text d other))

-- the line of a command isn't empty
some-line : (command : Command) → 0 < length (line_of command)
some-line (makes (install name priority text)) = omega arith
some-line _ = omega arith

-- no command stands at the front of the bytes
HasNoFront : List ℕ → Type 0
HasNoFront bytes = (command : Command) (rest : List ℕ) → IsCommand command → bytes ≡ command_bytes command ++ rest → ⊥

line-has-none : (last : Command) → HasGoodWords last → HasNoFront (line_of last)
unfolding HasNoFront
line-has-none last good command rest is e = has-feed (line_of command) (behind command ++ rest) (ap (list_all stays) (sym (e ∙ command-line command rest)) ∙ line-stays last good)

end-has-none : (before rest : List ℕ) (end : End) → IsEnd before rest end → HasNoFront rest
unfolding HasNoFront
end-has-none before rest ends none command more is e = omega (arith, ap length (sym none ∙ e ∙ command-line command more), length-append (line_of command) (10 ∷ (behind command ++ more)))
end-has-none before rest (stops line) none command more is e = none.1.0 command more is e

-- commands before bytes at whose front there is none are one list
same-commands : (commands others : List Command) (rest more : List ℕ) → AllByRecursion IsCommand commands → AllByRecursion IsCommand others → HasNoFront rest → HasNoFront more
    → flat_map command_bytes commands ++ rest ≡ flat_map command_bytes others ++ more → (commands ≡ others) × (rest ≡ more)
unfolding HasNoFront
same-commands [] [] rest more good better none never e = (refl, e)
same-commands [] (d ∷ others) rest more good better none never e = absurd (none d (flat_map command_bytes others ++ more) better.0 (e ∙ append_assoc (command_bytes d) (flat_map command_bytes others) more))
same-commands (c ∷ commands) [] rest more good better none never e = absurd (never c (flat_map command_bytes commands ++ rest) good.0 (sym e ∙ append_assoc (command_bytes c) (flat_map command_bytes commands) rest))
same-commands (c ∷ commands) (d ∷ others) rest more good better none never e =
    let both = same-command c d (flat_map command_bytes commands ++ rest) (flat_map command_bytes others ++ more) good.0.0 better.0.0
    (sym (append_assoc (command_bytes c) (flat_map command_bytes commands) rest) ∙ e ∙ append_assoc (command_bytes d) (flat_map command_bytes others) more) in
    let next = same-commands commands others rest more good.1 better.1 none never both.1 in
    (λ i. both.0 i ∷ next.0 i, next.1)

same-end : (before rest : List ℕ) (end last : End) → IsEnd before rest end → IsEnd before rest last → end ≡ last
same-end before rest ends ends a b = refl
same-end before rest ends (stops line) a b = absurd (b.0 a)
same-end before rest (stops line) ends a b = absurd (a.0 b)
same-end before rest (stops line) (stops other) a b = ap stops (a.2 ∙ sym b.2)

-- bytes that end in a command's line have none that is no command
not-a-line : (before rest : List ℕ) (end : End) (last : Command) → IsEnd before rest end → IsCommand last → MayLackItsEnd last → rest ≡ line_of last → ⊥
not-a-line before rest ends last none is may e = omega (arith, some-line last, ap length (sym none ∙ e))
not-a-line before rest (stops line) last none is may e = none.1.1 last is may e

-- a script that ends with a whole command, and one whose last lacks its line feed, differ
not-both : (script : List ℕ) (commands others first : List Command) (end : End) (last : Command) (rest : List ℕ) → AllByRecursion IsCommand commands → script ≡ flat_map command_bytes commands ++ rest → IsEnd (flat_map command_bytes commands) rest end
    → AllByRecursion IsCommand others → others ≡ first ++ last ∷ [] → MayLackItsEnd last → script ≡ flat_map command_bytes first ++ line_of last → ⊥
not-both script commands others first end last rest good is is_end better parts may other =
    let all = subst (AllByRecursion IsCommand) parts better in
    let it = (all-second IsCommand first (last ∷ []) all).0 in
    let both = same-commands commands first rest (line_of last) good (all-first IsCommand first (last ∷ []) all) (end-has-none (flat_map command_bytes commands) rest end is_end) (line-has-none last it.0) (sym is ∙ other) in
    not-a-line (flat_map command_bytes commands) rest end last is_end it may both.1

pub one-script : (script : List ℕ) (commands others : List Command) (end last : End) → Commands script commands end → Commands script others last → (commands ≡ others) × (end ≡ last)
one-script script commands others end last (whole good rest is is_end) (whole better more other is_last) =
    let both = same-commands commands others rest more good better (end-has-none (flat_map command_bytes commands) rest end is_end) (end-has-none (flat_map command_bytes others) more last is_last) (sym is ∙ other) in
    (both.0, same-end (flat_map command_bytes others) more end last (subst (λ t. IsEnd (flat_map command_bytes others) t end) both.1 (subst (λ cs. IsEnd (flat_map command_bytes cs) rest end) both.0 is_end)) is_last)
one-script script commands others end last (whole good rest is is_end) (without_end first command better parts may other is_last) = absurd (not-both script commands others first end command rest good is is_end better parts may other)
one-script script commands others end last (without_end first command good parts may is is_end) (whole better more other is_last) = absurd (not-both script others commands first last command more better other is_last good parts may is)
one-script script commands others end last (without_end first command good parts may is is_end) (without_end front other better split might is_other is_last) =
    let all = subst (AllByRecursion IsCommand) parts good in
    let every = subst (AllByRecursion IsCommand) split better in
    let it = (all-second IsCommand first (command ∷ []) all).0 in
    let that = (all-second IsCommand front (other ∷ []) every).0 in
    let both = same-commands first front (line_of command) (line_of other) (all-first IsCommand first (command ∷ []) all) (all-first IsCommand front (other ∷ []) every) (line-has-none command it.0) (line-has-none other that.0) (sym is ∙ is_other) in
    let lasts = same-last command other it.0 that.0 may might both.1 in
    (parts ∙ (λ i. both.0 i ++ lasts i ∷ []) ∙ sym split, is_end ∙ sym is_last)

-- commands at the front of commands, behind which there is none, are the first of them
first-commands : (commands all : List Command) (rest more : List ℕ) → AllByRecursion IsCommand commands → AllByRecursion IsCommand all → HasNoFront more → flat_map command_bytes commands ++ rest ≡ flat_map command_bytes all ++ more
    → (others : List Command) × (all ≡ commands ++ others)
unfolding HasNoFront
first-commands [] all rest more good better none e = (all, refl)
first-commands (c ∷ commands) [] rest more good better none e = absurd (none c (flat_map command_bytes commands ++ rest) good.0 (sym e ∙ append_assoc (command_bytes c) (flat_map command_bytes commands) rest))
first-commands (c ∷ commands) (d ∷ all) rest more good better none e =
    let both = same-command c d (flat_map command_bytes commands ++ rest) (flat_map command_bytes all ++ more) good.0.0 better.0.0
    (sym (append_assoc (command_bytes c) (flat_map command_bytes commands) rest) ∙ e ∙ append_assoc (command_bytes d) (flat_map command_bytes all) more) in
    let next = first-commands commands all rest more good.1 better.1 none both.1 in
    (next.0, (λ i. d ∷ next.1 i) ∙ ap (λ x. x ∷ (commands ++ next.0)) (sym both.0))

-- the commands with which a script begins are the first of its commands
pub begins-with-first : (script : List ℕ) (commands all : List Command) (end : End) → BeginsWith script commands → Commands script all end → (others : List Command) × (all ≡ commands ++ others)
begins-with-first script commands all end (whole_ones good rest is) (whole better more other is_end) = first-commands commands all rest more good better (end-has-none (flat_map command_bytes all) more end is_end) (sym is ∙ other)
begins-with-first script commands all end (whole_ones good rest is) (without_end first last better parts may other is_end) =
    let every = subst (AllByRecursion IsCommand) parts better in
    let it = (all-second IsCommand first (last ∷ []) every).0 in
    let firsts = first-commands commands first rest (line_of last) good (all-first IsCommand first (last ∷ []) every) (line-has-none last it.0) (sym is ∙ other) in
    (firsts.0 ++ last ∷ [], parts ∙ ap (λ l. l ++ last ∷ []) firsts.1 ∙ append_assoc commands firsts.0 (last ∷ []))
begins-with-first script commands all end (all_of_it are) of_all = ([], sym (one-script script commands all ends end are of_all).0 ∙ sym (append-nil commands))
