-- Tables of words.
use Rattle.std.specs.Prelude.{◌≡◌, ℕ, List, Option, option_map, find, bytes_eq}
use Rattle.std.specs.Borrow.{Bor}

-- what the first row with the word holds
pub record LooksUp {T : Type 0} (rows : List (Bor (List ℕ) × T)) (text : List ℕ) (result : Option T) : Type 0 where
  pub first : result ≡ option_map (λ row. row.1) (find (λ row. bytes_eq text row.0.now) rows)
