-- Permissions of classes by their names, one by one, and what is read of lists by numbers.
use Rattle.cil_resolve.proofs.Common.{◌≡◌, ◌∙◌, ◌<◌, ℕ, Bool, true, false, ◌&&◌, ◌||◌, or-false, bytes_eq, get_or, List, [], ◌∷◌, map, length, Option, Some, option_map, option_and_then, arith, sym, ap, refl, slice_get-map, has_named, leaves-mapped, resolved_permissions_of, written_in}
use Rattle.std.proofs.Common.{slice_get}
use Rattle.std.proofs.lemmas.Option.{slice_get_read}
use Rattle.cil_resolve.specs.Numbers.{named_numbers}
use Rattle.cil_resolve.specs.Views.{named_in}
use Rattle.cil_resolve.specs.declared.numbered.ResolvedPermissions.{ResolvedPermissions}
use Rattle.cil_resolve.specs.declared.numbered.ResolvedPermissions.TheVariants as permits
use Rattle.cil_resolve.specs.declared.set_permissions.ClassPermission.{ClassPermission}

abbrev is_one : List (List ℕ) → List ℕ → List ℕ → ClassPermission → Bool
is_one names c q g = bytes_eq (get_or names g.class []) c && bytes_eq q (get_or names g.permission [])

-- one alone
one-named : (names : List (List ℕ)) (c q : List ℕ) (g : ClassPermission) (more : List ClassPermission) → has_named names (g ∷ more) c q ≡ (has_named names (g ∷ []) c q || has_named names more c q)
one-named names c q g more = ap (λ b. b || has_named names more c q) (sym (or-false (is_one names c q g)))

module _ (names : List (List ℕ)) (c q : List ℕ) (left all : List ClassPermission) where
  -- what is left decides whether a permission is among all
  pub named-here : (more : List ClassPermission) (g : ClassPermission) → has_named names left c q ≡ has_named names all c q → left ≡ g ∷ more → has_named names (g ∷ []) c q ≡ true → true ≡ has_named names all c q
  named-here more g so_far split is =
      ap (λ b. b || has_named names more c q) (sym is) ∙ sym (one-named names c q g more) ∙ ap (λ l. has_named names l c q) (sym split) ∙ so_far

  pub named-next : (more : List ClassPermission) (g : ClassPermission) → has_named names left c q ≡ has_named names all c q → left ≡ g ∷ more → has_named names (g ∷ []) c q ≡ false
      → has_named names more c q ≡ has_named names all c q
  named-next more g so_far split other =
      ap (λ b. b || has_named names more c q) (sym other) ∙ sym (one-named names c q g more) ∙ ap (λ l. has_named names l c q) (sym split) ∙ so_far

  pub named-none : has_named names left c q ≡ has_named names all c q → length left ≡ 0 → false ≡ has_named names all c q
  named-none so_far none = by left so_far none
    where
      by : (l : List ClassPermission) → has_named names l c q ≡ has_named names all c q → length l ≡ 0 → false ≡ has_named names all c q
      by [] same e = same
      by (g ∷ l) same e = absurd (omega (arith, e))

-- the names that permissions are written with, by their numbers
pub named-numbers : {A : Type 0} (names : List (List ℕ)) (p : ResolvedPermissions A) → named_in (resolved_permissions_of names p) ≡ map (λ n. get_or names n []) (named_numbers p)
named-numbers names (permits.OfClass p) = leaves-mapped (λ (n : ℕ). get_or names n []) (written_in p)
named-numbers names (permits.OfSet s) = refl

-- an element read of a list, by what it stands for
pub read-as : {X Y : Type 0} (is : X → Y) (all read : List X) (i : ℕ) (x : X) → read ≡ all → i < length read → x ≡ get_or read i x → slice_get (map is all) i ≡ Some (is x)
read-as is all read i x same within here = slice_get-map is all i ∙ ap (λ l. option_map is (slice_get l i)) (sym same) ∙ ap (option_map is) (slice_get_read read (length read) i x refl within here)

-- the name at a place of those of an element, which are read by their numbers
pub name-as : {X : Type 0} (names : List (List ℕ)) (named : X → List (List ℕ)) (all : List X) (i k : ℕ) (x : X) (numbers read : List ℕ) (o : Option ℕ) → slice_get all i ≡ Some x
    → named x ≡ map (λ n. get_or names n []) numbers → read ≡ numbers → slice_get read k ≡ o → option_and_then (λ y. slice_get (named y) k) (slice_get all i) ≡ option_map (λ n. get_or names n []) o
name-as names named all i k x numbers read o there are same at =
    let name = λ (n : ℕ). get_or names n [] in
    ap (option_and_then (λ y. slice_get (named y) k)) there ∙ ap (λ l. slice_get l k) are ∙ slice_get-map name numbers k
    ∙ ap (λ l. option_map name (slice_get l k)) (sym same) ∙ ap (option_map name) at
