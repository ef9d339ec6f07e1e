-- Names among others.
use Rattle.cil_symbols.proofs.Common.{◌≡◌, ℕ, List, [], ◌∷◌, ◌++◌, Some, is_some, position, bytes_eq, ap, ◌∙◌, if◌then◌else◌, with_name, any-position}
pub use Rattle.cil_names.proofs.TextLemmas.{found-name}

-- with a name that is found the names are the same
pub known-name : (names : List (List ℕ)) (name : List ℕ) (n : ℕ) → position (bytes_eq name) names ≡ Some n → with_name names name ≡ names
known-name names name n is = ap (λ b. if b then names else names ++ name ∷ []) (any-position (bytes_eq name) names ∙ ap is_some is)
