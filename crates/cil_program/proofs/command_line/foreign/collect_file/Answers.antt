use Rattle.std.proofs.Common.{inl, subst}
use Rattle.cil_specs.specs.Reading.{IsReadingFault}
use Rattle.cil_text.specs.Image.{FaultIs}
use Rattle.cil_program.proofs.ByNamesLemmas.{fault-wider}
use Rattle.cil_program.proofs.command_line.foreign.collect_file.Goals as goal

pub returns-in-Err-clause-err : goal.returns-in-Err-clause-err
returns-in-Err-clause-err c =
    let fault = c.in-Err.fault in
    c.at_fault.ensures (fault-wider fault _ _ (λ f reads. inl reads) (subst (λ t. FaultIs fault (IsReadingFault t)) c.in_ok-text.ensures.ok c.in-Err.ensures.err))
