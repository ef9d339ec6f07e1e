-- Where the text of an install is short.
use Rattle.cil_session.proofs.Common.{◌≡◌, ℕ, Bool, true, List, [], ◌∷◌, ◌++◌, length, drop, get_or, replicate, inl, inr, IsTrue, ap, sym, ◌∙◌, append_assoc, length-append, arith, length-replicate, list_all, install, Command, makes, words_of, line_of, behind, HasGoodWords, IsNoCommand, line-stays, lines-same, number_of, number-decimal, text_of, text-length, command-is, kind_of_word, command_by, IsShort, AreGoodWords, install_line}
use Rattle.cil_store_specs.proofs.WordLemmas.{stays}
use Rattle.cil_store_specs.proofs.LineLemmas.{same-lines, has-feed, command-line}

-- texts of one length at the front of one list
same-front : (first other rest more : List ℕ) → length first ≡ length other → first ++ rest ≡ other ++ more → rest ≡ more
same-front [] [] rest more size e = e
same-front [] (c ∷ other) rest more size e = absurd (omega (arith, size))
same-front (b ∷ first) [] rest more size e = absurd (omega (arith, size))
same-front (b ∷ first) (c ∷ other) rest more size e = same-front first other rest more (omega (arith, size)) (ap (drop 1) e)

-- the text of an install that is short, or has another byte behind it
no-text : (size : ℕ) (read more text rest : List ℕ) (ended : Bool) (held : List ℕ) → IsShort size read ended held → (IsTrue ended → held ≡ [] → more ≡ []) → size ≡ length text → read ++ more ≡ text ++ 10 ∷ rest → ⊥
no-text size read more text rest ended held (inl short) none same e =
    omega (arith, short.0, same, ap length (none short.1 short.2), length-append read more, length-append text (10 ∷ rest), ap length e)
no-text size read more text rest ended held (inr other) none same e =
    let behind : other.1 ∷ more ≡ 10 ∷ rest = same-front other.0 text (other.1 ∷ more) (10 ∷ rest) (other.3 ∙ same) (sym (append_assoc other.0 (other.1 ∷ []) more) ∙ ap (λ l. l ++ more) (sym other.2) ∙ e) in
    other.4 (ap (λ l. get_or l 0 0) behind)

-- a text of so many bytes, which spells the same line
abbrev some_text : ℕ → List ℕ
some_text size = replicate size 0

-- a command on the line of an install is one, of a text of that length
pub on-install : (name : List ℕ) (priority size : ℕ) (command : Command) → AreGoodWords name priority size → HasGoodWords command → install_line name priority size ≡ line_of command
    → (text : List ℕ) × (length text ≡ size) × (behind command ≡ text ++ 10 ∷ [])
on-install name priority size command good words e =
    let wanted : Command = makes (install name priority (some_text size)) in
    let long : length (some_text size) ≡ size = length-replicate size 0 in
    let are : HasGoodWords wanted = (good.good_name, good.short_priority, omega (arith, long, good.short_size)) in
    let same = lines-same wanted command are words (ap (install_line name priority) long ∙ e) in
    let is : command ≡ makes (install (get_or (words_of command) 1 []) (number_of (get_or (words_of command) 2 [])) (text_of command)) =
    command-is command words ∙ ap (λ ws. command_by (kind_of_word (get_or ws 0 [])) (get_or (words_of command) 1 []) (number_of (get_or (words_of command) 2 [])) (text_of command)) (sym same)
    in
    (text_of command, text-length command words ∙ ap (λ ws. number_of (get_or ws 3 [])) (sym same) ∙ number-decimal (length (some_text size)) (omega (arith, long, good.short_size)) ∙ long, ap behind is)

pub no-text-command : (name : List ℕ) (priority size : ℕ) (line read more : List ℕ) (ended : Bool) (held : List ℕ) → AreGoodWords name priority size → line ≡ install_line name priority size → list_all stays line ≡ true → IsShort size read ended held
    → (IsTrue ended → held ≡ [] → more ≡ []) → IsNoCommand (line ++ 10 ∷ (read ++ more))
no-text-command name priority size line read more ended held good is all short none = (
  λ command rest is_command e. by command rest is_command.0 (e ∙ command-line command rest),
  λ command is_command may e. has-feed line (read ++ more) (ap (list_all stays) e ∙ line-stays command is_command.0),
)
  where
    by : (command : Command) (rest : List ℕ) → HasGoodWords command → line ++ 10 ∷ (read ++ more) ≡ line_of command ++ 10 ∷ (behind command ++ rest) → ⊥
    by command rest words e =
        let both = same-lines line (line_of command) (read ++ more) (behind command ++ rest) all (line-stays command words) e in
        let text = on-install name priority size command good words (sym is ∙ both.0) in
        no-text size read more text.0 rest ended held short none (sym text.1) (both.1 ∙ ap (λ l. l ++ rest) text.2 ∙ append_assoc text.0 (10 ∷ []) rest)
