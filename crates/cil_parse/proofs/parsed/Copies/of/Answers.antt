use Rattle.std.proofs.Common.{◌∙◌, length, ap, sym, subst}
use Rattle.cil_parse.specs.Citations.{AreCitedBy}
use Rattle.cil_parse.specs.PermissionLists.{AreListed}
use Rattle.cil_parse.proofs.parsed.Copies.of.Goals as goal

pub of-requires : goal.of-requires
of-requires g c = c.requires ∙ ap length (sym c.deref.ensures.value)

pub of-requires-2 : goal.of-requires-2
of-requires-2 g c = c.requires ∙ ap length (sym c.deref-2.ensures.value)

pub returns : goal.returns
returns g c = record {
  texts = ap (λ l. l.0) c.in_ok-copied_names.ensures ∙ c.as_slice.ensures;
  names = ap (λ l. l.0) c.in_ok-copied_names-2.ensures ∙ c.as_slice-2.ensures;
  listed = subst (λ rows. AreListed c.in_ok-of.field-0 rows c.args.builder.now.words.0) c.deref.ensures.value c.in_ok-of.ensures;
  cited = subst (λ rows. AreCitedBy c.in_ok-of-2.field-0 rows c.args.builder.now.words.0) c.deref-2.ensures.value c.in_ok-of-2.ensures;
}
