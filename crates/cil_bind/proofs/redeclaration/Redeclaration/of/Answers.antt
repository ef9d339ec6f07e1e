use Rattle.cil_bind.proofs.Common.{ap, sym, ◌∙◌, none-some, declared_in, texts_of}
use Rattle.cil_parse.specs.Kinds.{table_of}
use Rattle.cil_bind.proofs.FromLemmas.{is-there}
use Rattle.cil_bind.proofs.ScopeLemmas.{read-text, read-within, read-place}
use Rattle.cil_bind.proofs.TwiceLemmas.{declares-one}
use Rattle.cil_bind.proofs.redeclaration.Redeclaration.of.Goals as goal

pub unreachable-requires : goal.unreachable-requires
unreachable-requires g c =
    let named = c.index-named.result.now in
    let there = is-there c.args.joined.now.modules.items c.args.row.now named c.requires.0 c.requires.3 c.index-named.ensures in
    let shown = c.statement-view.ensures there.statements there.f there.spells there.is in
    none-some c.requires.2 (sym (c.in_default.ensures.none (texts_of named.«module».now) there.f shown c.requires.1) ∙ ap (declared_in c.requires.1) there.form ∙ c.requires.4)

pub text-requires : goal.text-requires
text-requires g c =
    let named = c.index-named.result.now in
    let there = is-there c.args.joined.now.modules.items c.args.row.now named c.requires.0 c.requires.3 c.index-named.ensures in
    let shown = c.statement-view.ensures there.statements there.f there.spells there.is in
    let it = c.in-Some.ensures.some (texts_of named.«module».now) there.f shown in
    read-within (texts_of named.«module».now) c.in-Some.word it.0 it.2

pub returns : goal.returns
returns g c = λ s table word from declares.
    let named = c.index-named.result.now in
    let there = is-there c.args.joined.now.modules.items c.args.row.now named s from c.index-named.ensures in
    let shown = c.statement-view.ensures there.statements there.f there.spells there.is in
    let texts = texts_of named.«module».now in
    let it = c.in-Some.ensures.some texts there.f shown in
    let same = declares-one (table_of c.in-Some.field-0-0) table s.form it.0 word (ap (declared_in (table_of c.in-Some.field-0-0)) (sym there.form) ∙ it.1) declares in
    record {
      named = there.named;
      place = read-place texts c.in-Some.word it.0 it.2 ∙ ap (λ w. w.at) same;
      text = c.text.ensures ∙ sym (read-text texts c.in-Some.word it.0 it.2) ∙ ap (λ w. w.text) same;
    }
