use Rattle.cil_parse.proofs.Common.{◌≡◌, ℕ, List, ◌++◌, length, slice_split, AddsNames}
use Rattle.cil_parse.proofs.SplitLemmas.{is_dot}
use Rattle.cil_parse.proofs.lexicon.Lexicon.push_names.Given as goal

abbrev pub invariant-loop-name : goal.invariant-loop-name
invariant-loop-name g l = (before : List (List ℕ)) × AddsNames l.initial.self l.self before × (slice_split is_dot l.text ≡ before ++ slice_split is_dot l.rest)

abbrev pub decreases-loop-name : goal.decreases-loop-name
decreases-loop-name g l = length l.rest
