use Rattle.cil_member_rows.specs.Rows.{count_before, count_now}
use Rattle.cil_member_rows.proofs.ShiftLemmas.{changed_is}
use Rattle.cil_member_rows.proofs.member_rows.MemberRows.changed.Goals as goal

pub returns : goal.returns
returns g c =
    changed_is (count_before c.args.self.now c.args.row) (count_now c.args.self.now c.args.row) c.args.word c.held.result c.present.result c.held.ensures c.present.ensures
