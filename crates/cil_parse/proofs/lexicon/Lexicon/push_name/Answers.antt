use Rattle.std.proofs.Common.{refl, ap}
use Rattle.cil_parse.proofs.LexiconLemmas.{name-numbered, with_name-kept}
use Rattle.cil_parse.proofs.lexicon.Lexicon.push_name.Goals as goal

pub returns : goal.returns
returns g c =
    let old = c.args.self.now in
    let pushed = c.in_ok-push.ensures.ok in record {
      texts = refl;
      keeps = with_name-kept old.names c.args.name.now c.insert.new.self c.in_ok-n.ensures.ok;
      closed = ap (λ s. s.0) pushed;
      open_list = name-numbered old.names c.args.name.now c.insert.new.self old.components.1 c.push.new.self.1 c.in_ok-n.n c.in_ok-in_32_bits.field-0 c.in_ok-n.ensures.ok c.in_ok-n.ensures.number c.in_ok-in_32_bits.ensures.same (ap (λ s. s.1) pushed);
    }
