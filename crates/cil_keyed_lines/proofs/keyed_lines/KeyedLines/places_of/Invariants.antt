use Rattle.cil_keyed_lines.proofs.Common.{[], ◌≡◌, ◌<◌, ℕ, index_of, is_key, length, listed, slice_get, take, times, All, IsDistinct, Names, Some, SymbolKey}
use Rattle.cil_keyed_lines.specs.Keyed.{Stays, StaysBefore}
use Rattle.cil_keyed_lines.proofs.keyed_lines.KeyedLines.places_of.Given as goal

-- the places of the keys so far
abbrev pub invariant-loop-key : goal.invariant-loop-key
invariant-loop-key g l = record {
  named : All (Names l.self.names) l.places.items;
  within : All (λ x. x.place < length l.self.keys) l.places.items;
  times : (k : SymbolKey) → times l.places.items (index_of l.self.keys k) ≡ listed (take l.key-index l.keys) k;
  distinct : 0 < l.key-index → IsDistinct is_key l.self.keys;
  none : l.key-index ≡ 0 → l.places.items ≡ [];
  grown : (i : ℕ) (k : SymbolKey) → slice_get l.fn.self.keys i ≡ Some k → slice_get l.self.keys i ≡ Some k;
  now : Stays l.fn.self l.self;
  before : StaysBefore l.fn.self l.self;
}
