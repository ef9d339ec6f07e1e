-- The names from elsewhere that this crate's contracts cite most, passed on from one place.
pub use Rattle.cil_bind.specs.Binding.{AreBound, kinds_of, leads_at}
pub use Rattle.cil_bind.specs.Policy.{AreMarked, IsBoundTo, IsFirstAgain, IsNumbered, IsTold, Makes, TellsAround, bound_of, fault_of}
pub use Rattle.cil_bind.specs.Rows.{AreNumbered, AreRows, DeclareThat, IsDeclared, IsOnce, IsRow, IsTaken, declares_name, is_optional_row, kinds_told}
pub use Rattle.cil_bind.specs.Scope.{AreAround, AreBlockSpaces, AreFrom, AreSpaced, AreSpelt, IsFrom, StandsFor}
pub use Rattle.cil_bind.specs.Words.{AreAllLed, AreLed, AreWorded, AsKnown, Comes, IsLed, LeadsTo}
pub use Rattle.cil_bind.specs.declared.rows.Row.{Row}
pub use Rattle.cil_lookup.specs.Lookup.{HaveDeclared, Knows}
pub use Rattle.cil_parse.specs.Flat.{FlatStatement}
pub use Rattle.cil_parse.specs.Forms.{kind_of, permissions_in}
pub use Rattle.cil_parse.specs.Lexicon.{AreNumbersOf}
pub use Rattle.cil_parse.specs.Parsed.{Spells, citations_of, names_of, statement_count, texts_of}
pub use Rattle.cil_parse.specs.View.{IsShown}
pub use Rattle.cil_specs.specs.Joined.{Placed}
pub use Rattle.cil_specs.specs.Kept.{AreApart, IsFirstFault, Optionals, is_within, restricted}
pub use Rattle.cil_specs.specs.Lookup.{declared_in, references, texts}
pub use Rattle.cil_specs.specs.Names.{Word}
pub use Rattle.cil_specs.specs.PolicyFault.{IsFaultOf, twice, twice_words}
pub use Rattle.cil_specs.specs.Report.{names_rise}
pub use Rattle.cil_specs.specs.Statements.{Form}
pub use Rattle.std.specs.List.{IsDistinct, list_all}
