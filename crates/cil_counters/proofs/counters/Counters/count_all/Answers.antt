use Rattle.cil_counters.proofs.Common.{refl, meaning_in, sets_in, names-apart}
use Rattle.cil_member_rows.specs.Rows as member_rows
use Rattle.cil_keyed_lines.specs.Keyed as access_tables
use Rattle.cil_counters.proofs.ChangeCountLemmas.{changes-counted, none-went}
use Rattle.cil_counters.proofs.CountedLemmas.{counted-none, none-of}
use Rattle.cil_counters.proofs.counters.Counters.count_all.Goals as goal

pub returns : goal.returns
returns g c =
    let names = c.args.self.now.names in
    let old = c.args.old.now in
    let now = access_tables.count_now c.args.self.now.tables in
    changes-counted names (names-apart names c.requires.distinct) old c.args.new.now (λ a t. 0) (member_rows.count_now c.args.self.now.rows) (λ key t. 0) now
    (counted-none old names c.requires.named.0 (λ a t. 0) (λ key t. 0) c.requires.named.1 (none-of (sets_in old) c.requires.sets) (none-of (meaning_in old).rules c.requires.rules) (λ a t. refl) (λ key t. refl))
    c.requires.now.counted _ c.in_ok-added.ensures (none-went now)
