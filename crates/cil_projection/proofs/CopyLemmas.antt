-- Statements of the language are copied, whatever stands beside them.
use Rattle.std.specs.Prelude.{◌≡◌, ◌⊎◌, ℕ, Bool, true, cond, List, [], ◌∷◌, ◌++◌, codes, bytes_eq}
use Rattle.std.proofs.Common.{inl, inr, ◌∙◌, sym, ap, subst, append_assoc}
use Rattle.cil_specs.specs.Place.{Place}
use Rattle.cil_specs.specs.Trees.{Trees, none, a_word, a_string, a_list}
use Rattle.cil_specs.specs.Shape.{is_among}
use Rattle.cil_projection.specs.Pieces.{Piece, copied}
use Rattle.cil_projection.specs.Conditions.{Settings, containers}
use Rattle.cil_projection.specs.Statements.{between, body_projected, one_projected, or_copied, projected, statement, tunable_projected}
use Rattle.cil_projection.specs.Laws.{HasLanguageStatement, IsCopied, IsStatementAt}
use Rattle.cil_projection.proofs.LanguageLemmas.{one_stays}

copied_first : (from to : ℕ) (xs ys : List Piece) → IsCopied from to xs → IsCopied from to (xs ++ ys)
copied_first from to xs ys h = (h.0, h.1 ++ ys, ap (λ l. l ++ ys) h.2 ∙ append_assoc h.0 (copied from to ∷ h.1) ys)

copied_behind : (from to : ℕ) (xs ys : List Piece) → IsCopied from to ys → IsCopied from to (xs ++ ys)
copied_behind from to xs ys h = (xs ++ h.0, h.1, ap (λ l. xs ++ l) h.2 ∙ sym (append_assoc xs h.0 (copied from to ∷ h.1)))

-- a statement, or one behind it
in_list : (settings : Settings) (stays : Bool) (low : ℕ) (at : Place) (end : ℕ) (items rest : Trees) (high from to : ℕ)
    → IsCopied from to (one_projected settings at.offset end items) ⊎ IsCopied from to (projected settings stays end rest high) → IsCopied from to (projected settings stays low (a_list at end items rest) high)
in_list settings stays low at end items rest high from to (inl h) =
    copied_behind from to (between stays low at.offset ∷ []) (one_projected settings at.offset end items ++ projected settings stays end rest high)
    (copied_first from to (one_projected settings at.offset end items) (projected settings stays end rest high) h)
in_list settings stays low at end items rest high from to (inr h) =
    copied_behind from to (between stays low at.offset ∷ one_projected settings at.offset end items) (projected settings stays end rest high) h

-- a statement that holds no others
here : (settings : Settings) (at end : ℕ) (place : Place) (word : List ℕ) (arguments : Trees) (from to : ℕ) → IsStatementAt word at end from to
    → IsCopied from to (one_projected settings at end (a_word place word arguments))
here settings at end place word arguments from to h = (
  [],
  [],
  one_stays settings at end place word arguments h.0 ∙ ap (λ b. cond b (body_projected settings at end arguments) (copied at end ∷ [])) h.1
      ∙ ap (λ from. copied from end ∷ []) (sym h.2) ∙ ap (λ to. copied from to ∷ []) (sym h.3),
)

-- what stands in one that does
inside : (settings : Settings) (at end : ℕ) (place second : Place) (word id : List ℕ) (body : Trees) (from to : ℕ) → is_among containers word ≡ true
    → IsCopied from to (projected settings true at body end) → IsCopied from to (one_projected settings at end (a_word place word (a_word second id body)))
inside settings at end place second word id body from to is h =
    subst (IsCopied from to)
    (sym (ap (λ b. cond b (projected settings true at body end)
    (cond (bytes_eq word (codes "tunableif")) (tunable_projected settings at end (a_word second id body)) (or_copied at end (statement settings at end word (a_word second id body))))) is)) h

pub statement_copied : (settings : Settings) (stays : Bool) (trees : Trees) (low high from to : ℕ) → HasLanguageStatement trees from to → IsCopied from to (projected settings stays low trees high)
statement_copied settings stays none low high from to h = absurd h
statement_copied settings stays (a_word at word rest) low high from to h = statement_copied settings stays rest low high from to h
statement_copied settings stays (a_string at text rest) low high from to h = statement_copied settings stays rest low high from to h
statement_copied settings stays (a_list at end none rest) low high from to h =
    in_list settings stays low at end none rest high from to (inr (statement_copied settings stays rest end high from to h))
statement_copied settings stays (a_list at end (a_string place text more) rest) low high from to h =
    in_list settings stays low at end (a_string place text more) rest high from to (inr (statement_copied settings stays rest end high from to h))
statement_copied settings stays (a_list at end (a_list place last inner more) rest) low high from to h =
    in_list settings stays low at end (a_list place last inner more) rest high from to (inr (statement_copied settings stays rest end high from to h))
statement_copied settings stays (a_list at end (a_word place word none) rest) low high from to (inl h) =
    in_list settings stays low at end (a_word place word none) rest high from to (inl (here settings at.offset end place word none from to h))
statement_copied settings stays (a_list at end (a_word place word none) rest) low high from to (inr h) =
    in_list settings stays low at end (a_word place word none) rest high from to (inr (statement_copied settings stays rest end high from to h))
statement_copied settings stays (a_list at end (a_word place word (a_string second text more)) rest) low high from to (inl h) =
    in_list settings stays low at end (a_word place word (a_string second text more)) rest high from to (inl (here settings at.offset end place word (a_string second text more) from to h))
statement_copied settings stays (a_list at end (a_word place word (a_string second text more)) rest) low high from to (inr h) =
    in_list settings stays low at end (a_word place word (a_string second text more)) rest high from to (inr (statement_copied settings stays rest end high from to h))
statement_copied settings stays (a_list at end (a_word place word (a_list second last inner more)) rest) low high from to (inl h) =
    in_list settings stays low at end (a_word place word (a_list second last inner more)) rest high from to
    (inl (here settings at.offset end place word (a_list second last inner more) from to h))
statement_copied settings stays (a_list at end (a_word place word (a_list second last inner more)) rest) low high from to (inr h) =
    in_list settings stays low at end (a_word place word (a_list second last inner more)) rest high from to (inr (statement_copied settings stays rest end high from to h))
statement_copied settings stays (a_list at end (a_word place word (a_word second id body)) rest) low high from to (inl h) =
    in_list settings stays low at end (a_word place word (a_word second id body)) rest high from to (inl (here settings at.offset end place word (a_word second id body) from to h))
statement_copied settings stays (a_list at end (a_word place word (a_word second id body)) rest) low high from to (inr (inl h)) =
    in_list settings stays low at end (a_word place word (a_word second id body)) rest high from to
    (inl (inside settings at.offset end place second word id body from to h.0 (statement_copied settings true body at.offset end from to h.1)))
statement_copied settings stays (a_list at end (a_word place word (a_word second id body)) rest) low high from to (inr (inr h)) =
    in_list settings stays low at end (a_word place word (a_word second id body)) rest high from to (inr (statement_copied settings stays rest end high from to h))
