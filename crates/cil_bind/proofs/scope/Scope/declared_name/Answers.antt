use Rattle.std.proofs.Common.{Some, [], refl, sym, ap, ◌∙◌, append-nil}
use Rattle.cil_parse.specs.Parsed.{texts_of}
use Rattle.cil_specs.specs.Lookup.{declared_in}
use Rattle.cil_bind.proofs.PlaceLemmas.{flat-there}
use Rattle.cil_bind.proofs.ScopeLemmas.{kept-more, declared-is, read-within}
use Rattle.cil_bind.proofs.scope.Scope.declared_name.Goals as goal

pub text-requires : goal.text-requires
text-requires g c =
    let spelt = c.requires.spelt in
    let texts = texts_of c.args.«module».now in
    let f = flat-there c.args.«module».now spelt.0 c.args.i spelt.1 c.requires.within in
    let it = c.in-Some.ensures.some texts f.0 (c.statement-view.ensures spelt.0 f.0 spelt.1 f.1) in
    read-within texts c.in-Some.word it.0 it.2

pub returns-in_default : goal.returns-in_default
returns-in_default g c = record {
  namespaces = refl;
  rows = refl;
  kinds = refl;
  kept = ([], sym (append-nil _));
  distinct = λ old. old;
  declares = λ form says table.
      ap (declared_in table) (sym says.4)
      ∙ c.in_default.ensures.none (texts_of c.args.«module».now) says.1 (c.statement-view.ensures says.0 says.1 says.2 says.3) table;
}

pub returns : goal.returns
returns g c = record {
  namespaces = refl;
  rows = refl;
  kinds = refl;
  kept = kept-more _ _ c.text.result.now c.number_word.ensures.kept;
  distinct = λ old. c.in_ok-number.ensures.distinct;
  declares = λ form says.
      let texts = texts_of c.args.«module».now in
      let it = c.in-Some.ensures.some texts says.1 (c.statement-view.ensures says.0 says.1 says.2 says.3) in
      declared-is c.number_word.new.names texts c.in_ok-number.number c.in-Some.word c.in-Some.table says.1.form form it.0 it.1 it.2 says.4
      (c.in_ok-number.ensures.named ∙ ap Some c.text.ensures);
}
