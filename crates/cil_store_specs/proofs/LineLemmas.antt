-- Where bytes begin with no command.
use Rattle.cil_store_specs.proofs.Common.{◌≡◌, ℕ, ◌<◌, ◌≤◌, true, List, [], ◌∷◌, ◌++◌, length, drop, get_or, refl, sym, ap, ◌∙◌, append_assoc, length-append, true≢false, arith, list_all, list_all-append, first_true, second_true, same_run, Command, line_of, behind, command_bytes, HasGoodWords, MayLackItsEnd, IsNoCommand}
use Rattle.cil_store_specs.proofs.WordLemmas.{stays, line-stays}

-- what stands before the first line feed, and behind it, is determined
pub same-lines : (first other rest more : List ℕ) → list_all stays first ≡ true → list_all stays other ≡ true → first ++ 10 ∷ rest ≡ other ++ 10 ∷ more → (first ≡ other) × (rest ≡ more)
same-lines first other rest more all every e =
    let both = same_run stays first other (10 ∷ rest) (10 ∷ more) e all every refl refl in
    (both.0, ap (drop 1) both.1)

pub has-feed : (first rest : List ℕ) → list_all stays (first ++ 10 ∷ rest) ≡ true → ⊥
has-feed first rest all = true≢false (sym (second_true (list_all stays first) _ (sym (list_all-append stays first (10 ∷ rest)) ∙ all)))

-- what has no line feed reaches no further than the first line
within-line : (first other rest more : List ℕ) → list_all stays first ≡ true → first ++ rest ≡ other ++ 10 ∷ more → length first ≤ length other
within-line [] other rest more all e = omega arith
within-line (b ∷ first) [] rest more all e = absurd (true≢false (sym (first_true (stays b) (list_all stays first) all) ∙ ap (λ l. stays (get_or l 0 0)) e))
within-line (b ∷ first) (c ∷ other) rest more all e = omega (arith, within-line first other rest more (second_true (stays b) (list_all stays first) all) (ap (drop 1) e))

-- a command is its line, a line feed, and a rest
pub command-line : (command : Command) (rest : List ℕ) → command_bytes command ++ rest ≡ line_of command ++ 10 ∷ (behind command ++ rest)
command-line command rest = append_assoc (line_of command) (10 ∷ behind command) rest

-- a line that is no command's
pub no-line-command : (line rest : List ℕ) → list_all stays line ≡ true → ((command : Command) → HasGoodWords command → line ≡ line_of command → ⊥) → IsNoCommand (line ++ 10 ∷ rest)
no-line-command line rest all none = (
  λ command more is e. none command is.0 ((same-lines line (line_of command) rest (behind command ++ more) all (line-stays command is.0) (e ∙ command-line command more)).0),
  λ command is may e. has-feed line rest (ap (list_all stays) e ∙ line-stays command is.0),
)

-- a last line that is no command's
pub no-last-command : (line : List ℕ) → list_all stays line ≡ true → ((command : Command) → HasGoodWords command → MayLackItsEnd command → line ≡ line_of command → ⊥) → IsNoCommand line
no-last-command line all none = (
  λ command more is e. has-feed (line_of command) (behind command ++ more) (sym (ap (list_all stays) (e ∙ command-line command more)) ∙ all),
  λ command is may e. none command is.0 may e,
)

-- a line that is too long
pub no-long-command : (line rest : List ℕ) → list_all stays line ≡ true → 4096 < length line → IsNoCommand (line ++ rest)
no-long-command line rest all long = (
  λ command more is e. omega (arith, long, is.1, within-line line (line_of command) rest (behind command ++ more) all (e ∙ command-line command more)),
  λ command is may e. omega (arith, long, is.1, ap length e, length-append line rest),
)
