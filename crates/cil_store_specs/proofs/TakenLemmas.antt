-- Edits that are taken in turn, and one more.
use Rattle.cil_store_specs.proofs.Common.{List, [], ◌∷◌, ◌++◌, refl, subst, Store, Edit, IsTaken, AreTaken}

pub taken-more : (store mid new : Store) (before : List Edit) (edit : Edit) → AreTaken store before mid → IsTaken mid edit new → AreTaken store (before ++ edit ∷ []) new
taken-more store mid new [] edit are is = (new, subst (λ s. IsTaken s edit new) are is, refl)
taken-more store mid new (e ∷ before) edit are is = (are.0, are.1, taken-more are.0 mid new before edit are.2 is)
