-- The names from elsewhere that this crate's contracts cite most, passed on from one place.
pub use Rattle.cil_matching.specs.Matching.{AreMatched, AreNumbers, ArePlaces, AreRight, AreSameAt}
pub use Rattle.cil_matching.specs.Merged.{AreBefore, IsFoundAt, IsMissedAt}
pub use Rattle.cil_matching.specs.Spot.{Spot, rule_spot, same_spot, set_spot, spot_of}
pub use Rattle.cil_matching.specs.Walk.{StandAlike, numbered_in}
pub use Rattle.cil_resolve.specs.Resolved.{meaning_in}
pub use Rattle.cil_resolve.specs.Sets.{sets_in}
pub use Rattle.cil_specs.specs.Rule.{IsSameRule, IsSameSet}
