-- Where names are in lists.
use Rattle.std.specs.Prelude.{◌≡◌, ◌≤◌, ℕ, Bool, false, List, [], ◌∷◌, ◌++◌, Some, None, length, if◌then◌else◌, position, bytes_eq, not}
use Rattle.std.specs.List.{position_or_len}
use Rattle.std.proofs.Common.{◌∙◌, sym, ap, true≢false, arith}
use Rattle.std.proofs.lemmas.Grind.{common_steps}
use Rattle.std.proofs.lemmas.List.Folds.{list_any_at, list_any_none}
use Rattle.std.proofs.lemmas.List.Quantifiers.{position-Some}
use Rattle.std.proofs.lemmas.List.Sums.{fails_before_first}
use Rattle.cil_specs.specs.Lookup.{has_name, with_name}

-- a name without a place is new
pub is_new : (names : List (List ℕ)) (name : List ℕ) (new : Bool) → position (bytes_eq name) names ≡ None → new ≡ not (has_name names name) → new ≡ false → ⊥
is_new names name new nowhere is no-more =
    let past : length names ≤ position_or_len (bytes_eq name) names = grind (arith, common_steps) in
    let missing : has_name names name ≡ false = list_any_none (bytes_eq name) names (λ k d within. fails_before_first (bytes_eq name) names k d (omega (arith, past, within))) in
    true≢false (sym (ap not missing) ∙ sym is ∙ no-more)

-- a name with a place is there already
pub is_known : (names : List (List ℕ)) (name : List ℕ) (place : ℕ) → position (bytes_eq name) names ≡ Some place → with_name names name ≡ names
is_known names name place there =
    let (within, equal, first) = position-Some (bytes_eq name) names place [] there in
    ap (λ b. if b then names else names ++ name ∷ []) (list_any_at (bytes_eq name) names place [] within equal)
