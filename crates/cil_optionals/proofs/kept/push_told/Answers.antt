use Rattle.std.proofs.Common.{◌≡◌, ◌++◌, ap, ◌∙◌}
use Rattle.indexmap.proofs.CallerLemmas.{Drains-YieldsInOrder}
use Rattle.cil_optionals.proofs.kept.push_told.Goals as goal

pub returns : goal.returns
returns g c = λ all ready.
    let ran = c.in_ok-extend.ensures.ran in
    let more : ran.1 ≡ c.in_ok-more.more.items = Drains-YieldsInOrder _ _ ran.0 ran.1 ran.2.3 ran.4 ∙ ran.2.0 in
    record {
      providers = c.tell_all.new.needs.items;
      others = c.in_ok-more.more.items;
      are = ran.3.0 ∙ ap (λ l. c.tell_all.new.needs.items ++ l) more;
      providers_are = c.in_ok-tell_all.ensures.providers all ready;
      others_are = c.in_ok-more.ensures all ready (c.in_ok-tell_all.ensures.have all ready);
    }
