-- Names in order, what given paths stand for, and the files with the module names of earlier ones.
use Rattle.std.proofs.Common.{◌≡◌, ◌∙◌, ◌+◌, ◌<◌, ◌++◌, ◌∷◌, inl, inr, [], Bool, List, ℕ, None, Some, append_assoc, ap, ap₂, arith, fold, if◌then◌else◌, length, map, refl, subst, sym}
use Rattle.std.specs.List.{AllZip, flat_map}
use Rattle.std.specs.List.Sorted.{IsSortedBy}
use Rattle.std.proofs.lemmas.List.{append-nil, get_or-map, length-map}
use Rattle.std.proofs.lemmas.List.Folds.{flat_map-map}
use Rattle.cil_specs.specs.Lookup.{distinct, has_name, with_name}
use Rattle.cil_program.specs.CommandLine.{Content, IsListed, NamesModule, holds, is_folder, unreadable, untold}
use Rattle.cil_program.specs.ByNames.{AnswersByNames}
use Rattle.cil_program.specs.Conditionals.{Conditionals}
use Rattle.cil_program.specs.Given.{AnswersGiven, AreFilesIn, StandFor, StandsFor, answers_files, same_name_line, same_named}
use Rattle.cil_program.specs.Wanted.{Wanted}

-- elements stand in order where what a function gives of them does
pub sorted-map : {X Y : Type 0} (f : X → Y) (lt : Y → Y → Bool) (xs : List X) → IsSortedBy (λ x y. lt (f x) (f y)) xs → IsSortedBy lt (map f xs)
sorted-map f lt [] sorted = λ k d low high. absurd (omega (arith, high))
sorted-map f lt (x ∷ xs) sorted = λ k d low high.
    let within : k + 1 < length (x ∷ xs) = subst (λ n. k + 1 < n) (length-map (x ∷ xs) f) high in
    let next = get_or-map f (x ∷ xs) (k + 1) x d within in
    let this = get_or-map f (x ∷ xs) k x d (omega (arith, within)) in
    ap₂ lt next this ∙ sorted k x low within

-- what a path with no folder stands for
pub stands-itself : (content : Content) (given : List ℕ) → IsListed content None → StandsFor content given (given ∷ [])
stands-itself untold given none = inl refl
stands-itself unreadable given none = refl
stands-itself (holds whole) given none = refl
stands-itself (is_folder names) given none = absurd (cc)

-- and a folder
pub stands-folder : (content : Content) (given : List ℕ) (names paths : List (List ℕ)) → IsListed content (Some names) → AreFilesIn given names paths → StandsFor content given paths
stands-folder untold given names paths listed are = inr (names, are)
stands-folder unreadable given names paths listed are = absurd (cc)
stands-folder (holds whole) given names paths listed are = absurd (cc)
stands-folder (is_folder told) given names paths listed are = subst (λ n. AreFilesIn given n paths) (some-same listed) are
  where
    some-same : {X : Type 0} {x y : X} → Some x ≡ Some y → x ≡ y
    some-same same = cc

-- what one path more stands for
pub stand-more : (content : List ℕ → Content) (given : List (List ℕ)) (path : List ℕ) (paths more : List (List ℕ)) → StandFor content given paths → StandsFor (content path) path more
    → StandFor content (given ++ path ∷ []) (paths ++ more)
stand-more content [] path paths more stand stands =
    (more, [], stands, refl, ap (λ l. l ++ more) stand ∙ sym (append-nil more))
stand-more content (g ∷ given) path paths more stand stands = (
  stand.0,
  stand.1 ++ more,
  stand.2,
  stand-more content given path stand.1 more stand.3 stands,
  ap (λ l. l ++ more) stand.4 ∙ append_assoc stand.0 stand.1 more,
)

-- one file more
pub same_named-more : (earlier paths names : List (List ℕ)) (path name : List ℕ) → AllZip NamesModule paths names
    → same_named earlier (paths ++ path ∷ []) (names ++ name ∷ []) ≡ same_named earlier paths names ++ (if has_name (fold with_name earlier names) name then path ∷ [] else [])
same_named-more earlier [] [] path name named = append-nil _
same_named-more earlier [] (n ∷ names) path name named = absurd named
same_named-more earlier (p ∷ paths) [] path name named = absurd named
same_named-more earlier (p ∷ paths) (n ∷ names) path name named =
    ap (λ l. (if has_name earlier n then p ∷ [] else []) ++ l) (same_named-more (with_name earlier n) paths names path name named.1)
    ∙ sym (append_assoc (if has_name earlier n then p ∷ [] else []) (same_named (with_name earlier n) paths names) _)

-- those that were found with one file more
pub found-more : (paths names found seen : List (List ℕ)) (path name : List ℕ) (is : Bool) → AllZip NamesModule paths names → seen ≡ distinct names → found ≡ same_named [] paths names
    → has_name seen name ≡ is → found ++ (if is then path ∷ [] else []) ≡ same_named [] (paths ++ path ∷ []) (names ++ name ∷ [])
found-more paths names found seen path name is named seen_is found_is has =
    ap₂ (λ l b. l ++ (if b then path ∷ [] else [])) found_is (sym has ∙ ap (λ s. has_name s name) seen_is) ∙ sym (same_named-more [] paths names path name named)

-- what is of the files that given paths stand for is of the given paths
pub answers-given : {X : Type 0} (text : X → List ℕ) (content : List ℕ → Content) (given : List (List ℕ)) (paths same : List X) (conditionals : Conditionals) (wanted : Wanted) (printed answer : List ℕ) (status : ℕ)
    → StandFor content given (map text paths) → (names : List (List ℕ)) × AllZip NamesModule (map text paths) names × (map text same ≡ same_named [] (map text paths) names)
    → AnswersByNames content (map text paths) conditionals wanted printed answer status → AnswersGiven content given conditionals wanted printed (flat_map (λ x. same_name_line (text x)) same ++ answer) status
answers-given text content given paths same conditionals wanted printed answer status stand found made =
    answers_files (map text paths) found.0 answer stand found.1 made (ap (λ l. l ++ answer) (sym (flat_map-map same_name_line text same) ∙ ap (flat_map same_name_line) found.2))
