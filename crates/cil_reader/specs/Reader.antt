-- What the reader has gone over.
use Rattle.std.specs.Prelude.{◌≡◌, ℕ, ◌≤◌, List, [], ◌∷◌, ◌++◌, length, drop, map, reverse}
use Rattle.cil_specs.specs.Place.{place_at}
use Rattle.cil_specs.specs.Parts.{Part, spelling, IsPart, EndsBefore, Moves, IsClean}
use Rattle.cil_specs.specs.Trees.{Mark, opening_at, marks, told}
use Rattle.cil_specs.specs.Reading.{Stops}
use Rattle.cil_reader.specs.Image.{place_of, trees_in, FaultIs}
use Rattle.cil_reader.specs.declared.node.Node.{Node}
use Rattle.cil_reader.specs.declared.reader.Open.{Open}
use Rattle.cil_reader.specs.declared.reader.Reader.{Reader}
use Rattle.cil_reader.specs.declared.fault.TextFault.{TextFault}

-- each list among the nodes ends among them: what stands behind them is of no list's
abbrev pub AreWhole : List ℕ → List Node → Type 0
AreWhole text nodes = (behind : List Node) → marks (trees_in text (nodes ++ behind)) ≡ marks (trees_in text nodes) ++ marks (trees_in text behind)

-- the nodes have these marks, where these lists are open among them, the innermost first
abbrev pub HaveMarks : List ℕ → List Open → List Node → List Mark → Type 0
HaveMarks text [] nodes seen = AreWhole text nodes × (seen ≡ marks (trees_in text nodes))
HaveMarks text (o ∷ around) nodes seen = (before inside : List Node) × (list : Node) × (first : List Mark) × (nodes ≡ before ++ list ∷ inside) × (o.node ≡ length before)
    × AreWhole text inside × HaveMarks text around before first × (seen ≡ first ++ opening_at (place_of o.at) ∷ marks (trees_in text inside))

-- the marks of all that was read
abbrev pub IsRead : {A : Type 0} → Reader A → List Mark → Type 0
IsRead r seen = HaveMarks r.text.now (reverse r.outer.items) r.nodes.items seen

-- the offsets of the open lists, the innermost first
abbrev pub open_lists : {A : Type 0} → Reader A → List ℕ
open_lists r = reverse (map (λ o. o.at.offset) r.outer.items)

-- The reader's place is that of the byte it comes to, the text is none too long, and the nodes are no more than the bytes and
-- have marks.
pub record IsPlaced {A : Type 0} (r : Reader A) : Type 0 where
  pub place : place_of r.at ≡ place_at r.text.now r.at.offset
  pub within : r.at.offset ≤ length r.text.now
  pub small : length r.text.now ≤ 16777216
  pub few : length r.nodes.items ≤ r.at.offset
  pub read : (seen : List Mark) × IsRead r seen

-- the reader went over this part
pub record GoesOver {A : Type 0} (old new : Reader A) (part : Part) : Type 0 where
  pub is : IsPart part
  pub here : drop old.at.offset old.text.now ≡ spelling part ++ drop new.at.offset old.text.now
  pub ends : EndsBefore part (drop new.at.offset old.text.now)
  pub moves : Moves (open_lists old) old.at.offset part (open_lists new)
  pub told_more : (seen : List Mark) → IsRead old seen → IsRead new (seen ++ told old.text.now old.at.offset (part ∷ []))
  pub same : new.text.now ≡ old.text.now
  pub placed : IsPlaced new

-- what the reader went over so far: these parts, which are the trees and open lists that it has
pub record HasRead {A : Type 0} (r : Reader A) (parts : List Part) : Type 0 where
  pub clean : IsClean r.text.now r.at.offset (open_lists r) parts
  pub same : IsRead r (told r.text.now 0 parts)

-- no part goes on where the reader stands, and the fault says why
abbrev pub IsStopped : {A : Type 0} → Reader A → TextFault → Type 0
IsStopped r fault = FaultIs fault (λ f. Stops f.kind (open_lists r) (drop r.at.offset r.text.now) f.word × (f.at ≡ place_of r.at))
