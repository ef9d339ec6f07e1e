-- How statements are counted.
use Rattle.std.specs.Prelude.{◌≡◌, ◌<◌, ℕ, ◌++◌, List, [], ◌∷◌, length, Some, get_or, set, position, bytes_eq}
use Rattle.std.specs.Option.{option_map_or}
use Rattle.std.proofs.Common.{◌∙◌, sym, ap, subst}
use Rattle.std.proofs.lemmas.Grind.{get_or_default_zero}
use Rattle.std.proofs.lemmas.List.Quantifiers.{position-Some}
use Rattle.cil_projection.specs.Pieces.{taken}
use Rattle.cil_projection.specs.Statements.{Counts, counted, one_more}
use Rattle.cil_projection.proofs.NameLemmas.{is_known}

-- a statement more with a first word that some have
pub counted_again : (counts : Counts) (keyword : List ℕ) (place seen one all : ℕ) → length counts.keywords ≡ length counts.numbers → Some place ≡ position (bytes_eq keyword) counts.keywords
    → seen ≡ get_or counts.numbers place seen → one ≡ one_more seen → all ≡ one_more counts.statements
    → record { keywords = counts.keywords; numbers = set counts.numbers place one; statements = all } ≡ counted counts (taken keyword)
counted_again counts keyword place seen one all as_many there is_seen is_one is_all =
    let here = sym there in
    let within = (position-Some (bytes_eq keyword) counts.keywords place [] here).0 in
    let number = is_seen ∙ get_or_default_zero counts.numbers place seen (subst (λ n. place < n) as_many within) in
    let numbers = ap (set counts.numbers place) (is_one ∙ ap one_more number)
    ∙ ap (λ found. option_map_or (λ i. set counts.numbers i (one_more (get_or counts.numbers i 0))) found (counts.numbers ++ 1 ∷ [])) there in
    λ i. record { keywords = sym (is_known counts.keywords keyword place here) i; numbers = numbers i; statements = is_all i }
