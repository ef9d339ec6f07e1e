-- Spots, each found among others.
use Rattle.cil_matching.proofs.Common.{◌≡◌, ◌∙◌, ℕ, ◌==◌, ◌||◌, true, false, true≢false, List, [], ◌∷◌, ◌++◌, map, cond, position, get_or, slice_get, Option, None, Some, is_some, option_map, bytes_eq, suc, refl, sym, ap, if◌then◌else◌, list_any, eqb-true, eq-eqb, map-append, slice_get_within, slice_get-get_or, get_or_from_slice_get, Equal, name_cmp, then_equal, Spot, spot_of, same_spot, spot_cmp, AreApart}
use Rattle.std.proofs.lemmas.List.Folds.{list_any_at}
use Rattle.std.proofs.lemmas.List.Quantifiers.{position-Some}
use Rattle.std.proofs.lemmas.Slice.Eq.{bytes_eq-Decides}
use Rattle.std.specs.Ordering.{nat_cmp}
use Rattle.std.proofs.lemmas.Map.Lookups.{exact_bytes, exact_unsigned}
use Rattle.indexmap.specs.IndexSet.{insert_key}
use Rattle.cil_specs.proofs.Runs.{first_true, second_true, both_true}
use Rattle.cil_bind.proofs.PositionLemmas.{any-position, position-cons}
use Rattle.cil_matching.specs.declared.positions.Position.{Position}

same-spot : (p q : Spot) → same_spot p q ≡ true → p ≡ q
same-spot p q is =
    let name = (bytes_eq-Decides p.module_name q.module_name).0 (first_true (bytes_eq p.module_name q.module_name) (p.offset == q.offset) is) in
    let offset = eqb-true p.offset q.offset (second_true (bytes_eq p.module_name q.module_name) (p.offset == q.offset) is) in
    λ i. record { module_name = name i; offset = offset i }

-- spots neither of which stands before the other are the same
pub tied-spots : (p q : Spot) → spot_cmp p q ≡ Equal → p ≡ q
tied-spots p q tied =
    let (name, offset) = then_equal (name_cmp p.module_name q.module_name) (nat_cmp p.offset q.offset) tied in
    λ i. record { module_name = exact_bytes p.module_name q.module_name name i; offset = exact_unsigned p.offset q.offset offset i }

spot-itself : (p : Spot) → same_spot p p ≡ true
spot-itself p = both_true (bytes_eq p.module_name p.module_name) (p.offset == p.offset) ((bytes_eq-Decides p.module_name p.module_name).1 refl) (eq-eqb p.offset p.offset refl)

-- a position's place is that of its spot
pub position-spots : (p : Position) (ks : List Position) → position (λ q. same_spot (spot_of p) (spot_of q)) ks ≡ position (same_spot (spot_of p)) (map spot_of ks)
position-spots p [] = refl
position-spots p (k ∷ ks) =
    position-cons (λ q. same_spot (spot_of p) (spot_of q)) k ks
    ∙ ap (λ o. cond (same_spot (spot_of p) (spot_of k)) (Some 0) (option_map suc o)) (position-spots p ks)
    ∙ sym (position-cons (same_spot (spot_of p)) (spot_of k) (map spot_of ks))

any-spots : (p : Position) (ks : List Position) → list_any (λ q. same_spot (spot_of p) (spot_of q)) ks ≡ list_any (same_spot (spot_of p)) (map spot_of ks)
any-spots p [] = refl
any-spots p (k ∷ ks) = ap (λ b. same_spot (spot_of p) (spot_of k) || b) (any-spots p ks)

-- a new position goes last
pub insert-spots : (p : Position) (ks : List Position) → list_any (same_spot (spot_of p)) (map spot_of ks) ≡ false
    → map spot_of (insert_key (λ q r. same_spot (spot_of q) (spot_of r)) ks p) ≡ map spot_of ks ++ spot_of p ∷ []
insert-spots p ks new =
    ap (λ b. map spot_of (if b then ks else ks ++ p ∷ [])) (any-spots p ks ∙ new) ∙ map-append spot_of ks (p ∷ [])

-- what is found is the spot
pub found-spot : (spots : List Spot) (p : Spot) (j : ℕ) → position (same_spot p) spots ≡ Some j → slice_get spots j ≡ Some p
found-spot spots p j is =
    let (within, equal, first) = position-Some (same_spot p) spots j p is in
    slice_get-get_or spots j p within ∙ ap Some (sym (same-spot p (get_or spots j p) equal))

-- a spot that stands there is one of them
pub any-stands : (spots : List Spot) (p : Spot) (j : ℕ) → slice_get spots j ≡ Some p → list_any (same_spot p) spots ≡ true
any-stands spots p j at = list_any_at (same_spot p) spots j p (slice_get_within spots j p at) (ap (same_spot p) (get_or_from_slice_get spots j p p at) ∙ spot-itself p)

-- and a spot is found where it stands
pub stands-found : (spots : List Spot) (p : Spot) (j : ℕ) → AreApart spots → slice_get spots j ≡ Some p → position (same_spot p) spots ≡ Some j
stands-found spots p j apart at = by (position (same_spot p) spots) refl
  where
    by : (o : Option ℕ) → position (same_spot p) spots ≡ o → position (same_spot p) spots ≡ Some j
    by None is = absurd (true≢false (sym (any-stands spots p j at) ∙ any-position (same_spot p) spots ∙ ap is_some is))
    by (Some k) is = is ∙ ap Some (apart k j p (found-spot spots p k is) at)
