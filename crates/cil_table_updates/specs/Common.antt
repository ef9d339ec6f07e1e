-- The names from elsewhere that this crate's contracts cite most, passed on from one place.
pub use Rattle.cil_keyed_lines.specs.Keyed.{NoneRises, RiseAtMost, StaysBefore, count_now, steps_in}
pub use Rattle.cil_resolve.specs.Meter.{adjustments_in, evaluations_in}
pub use Rattle.cil_resolve.specs.Resolved.{meaning_in}
pub use Rattle.cil_rule_reach.specs.Named.{AreMembersOf}
pub use Rattle.cil_rule_reach.specs.Reaches.{members_at, members_of}
pub use Rattle.cil_rule_shifts.specs.Amounts.{AreLowered, AreMoved, AreRaised, CountAtLeast, ones}
pub use Rattle.cil_rule_shifts.specs.Reach.{IsGrant, grants}
pub use Rattle.cil_sums.specs.Rises.{below}
pub use Rattle.cil_table_updates.specs.Adjusted.{Adjusts, AdjustsAtLeast, AdjustsAtMost, comes, gives_it, goes, replaces, shifts, swaps, turns}
pub use Rattle.cil_table_updates.specs.Given.{all_given, all_gone, all_stayed, given_by, given_there, gone_there, rules_in, stayed_there}
pub use Rattle.cil_table_updates.specs.Moves.{AreReplaced, IsKnown, IsReady, IsReplaced, IsRuleOf, PermitTheSame, is_plain_list}
pub use Rattle.cil_table_updates.specs.Staying.{AreAlike, AreMatchedAlike, AreStaying, PermitsAlike, answer_at}
pub use Rattle.cil_table_updates.specs.Policies.{AreApart, AreCountsOf, HasSoundRules, HasSymbols, IsPolicy, count_named}
