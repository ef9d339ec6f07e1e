-- Rules at places, and what their tests tell.
use Rattle.cil_violations.proofs.Common.{◌≡◌, ℕ, zero, suc, ◌<◌, Bool, true, List, [], ◌∷◌, Option, Some, None, slice_get, refl, sym, ap, subst, true≢false, list_all, and_parts, lt-ltb, none-some, same_Some, is_element_below, is_target_below, ResolvedTarget, aim_of, if_there}
use Rattle.cil_resolve.specs.declared.numbered.ResolvedTarget.TheVariants as targets

-- what holds of all holds of the one at a place
pub all-at : {X : Type 0} (p : X → Bool) (xs : List X) (i : ℕ) (x : X) → list_all p xs ≡ true
    → slice_get xs i ≡ Some x → p x ≡ true
all-at p [] i x all at = absurd (none-some x at)
all-at p (y ∷ ys) zero x all at = subst (λ z. p z ≡ true) (same_Some y x at) (and_parts (p y) (list_all p ys) all).0
all-at p (y ∷ ys) (suc i) x all at = all-at p ys i x (and_parts (p y) (list_all p ys) all).1 at

-- what is true of what is there tells that there is something
pub is-there : {X : Type 0} (p : X → Bool) (o : Option X) → if_there p o ≡ true → (x : X) × (o ≡ Some x) × (p x ≡ true)
is-there p None holds = absurd (true≢false (sym holds))
is-there p (Some x) holds = (x, refl, holds)

pub if-at : {X : Type 0} (p : X → Bool) (o : Option X) (x : X) → o ≡ Some x → if_there p o ≡ p x
if-at p o x at = ap (if_there p) at

-- the element that a target takes in for a source
pub aim-below : (n : ℕ) (target : ResolvedTarget) (source : ℕ) → is_target_below n target ≡ true → source < n
    → is_element_below n (aim_of target source) ≡ true
aim-below n targets.Itself source below low = lt-ltb source n low
aim-below n (targets.Element element) source below low = below
