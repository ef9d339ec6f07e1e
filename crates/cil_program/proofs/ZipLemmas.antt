-- Two lists, of which the items at each place go together.
use Rattle.std.proofs.Common.{◌≡◌, ◌++◌, ◌∷◌, ◌⊎◌, inl, inr, [], All, List, arith, map}
use Rattle.std.specs.Prelude.{Contains}
use Rattle.std.specs.List.{AllZip}
use Rattle.std.proofs.lemmas.List.Elements.{All-cons, All-head, All-nil, All-tail}
use Rattle.cil_specs.proofs.NamesLemmas.{contains-cases, contains-first, contains-other}

-- one place more
pub all_zip-more : {X Y : Type 0} (R : X → Y → Type 0) (xs : List X) (ys : List Y) (x : X) (y : Y) → AllZip R xs ys → R x y → AllZip R (xs ++ x ∷ []) (ys ++ y ∷ [])
all_zip-more R [] [] x y all r = (r, tt)
all_zip-more R [] (b ∷ ys) x y all r = absurd all
all_zip-more R (a ∷ xs) [] x y all r = absurd all
all_zip-more R (a ∷ xs) (b ∷ ys) x y all r = (all.0, all_zip-more R xs ys x y all.1 r)

-- what holds of the second of each two may be known of the first
pub all_zip-first : {X Y : Type 0} (R : X → Y → Type 0) (P : X → Type 0) (Q : Y → Type 0) (xs : List X) (ys : List Y) → ((x : X) (y : Y) → R x y → Q y → P x) → AllZip R xs ys → All Q ys → All P xs
all_zip-first R P Q [] ys known all holds = All-nil P
all_zip-first R P Q (x ∷ xs) [] known all holds = absurd all
all_zip-first R P Q (x ∷ xs) (y ∷ ys) known all holds = All-cons P x xs (known x y all.0 (All-head Q y ys holds)) (all_zip-first R P Q xs ys known all.1 (All-tail Q y ys holds))

-- with each item of the second list goes one of the first
pub all_zip-found : {X Y V W : Type 0} (R : X → Y → Type 0) (f : X → V) (g : Y → W) (xs : List X) (ys : List Y) (w : W) → AllZip R xs ys → Contains (map g ys) w
    → (x : X) × (y : Y) × Contains (map f xs) (f x) × R x y × (g y ≡ w)
all_zip-found R f g [] [] w all c = absurd (omega (arith, c.1))
all_zip-found R f g [] (y ∷ ys) w all c = absurd all
all_zip-found R f g (x ∷ xs) [] w all c = absurd all
all_zip-found {X = X} {Y = Y} {W = W} R f g (x ∷ xs) (y ∷ ys) w all c = by (contains-cases (g y) (map g ys) w c) (all_zip-found R f g xs ys w all.1)
  where
    by : (g y ≡ w) ⊎ Contains (map g ys) w → (Contains (map g ys) w → (x : X) × (y : Y) × Contains (map f xs) (f x) × R x y × (g y ≡ w)) → (z : X) × (y : Y) × Contains (map f (x ∷ xs)) (f z) × R z y × (g y ≡ w)
    by (inl same) later = (x, y, contains-first (f x) (map f xs), all.0, same)
    by (inr other) later = let found = later other in (found.0, found.1, contains-other (f x) (map f xs) (f found.0) found.2, found.3, found.4)
