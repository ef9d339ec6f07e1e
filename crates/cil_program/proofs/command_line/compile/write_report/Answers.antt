use Rattle.cil_program.proofs.Common.{refl, rules, row_line, lists, tells, status_of_violations}
use Rattle.std.proofs.Common.{flat_map}
use Rattle.cil_specs.specs.Violations.{violations_text}
use Rattle.cil_program.proofs.command_line.compile.write_report.Goals as goal

pub returns-in_ok-write_listing-in-Listing-clause-ok : goal.returns-in_ok-write_listing-in-Listing-clause-ok
returns-in_ok-write_listing-in-Listing-clause-ok g c = λ explained entries store of meant.
    let written = c.in_ok-write_listing-in-Listing.ensures.ok store meant in
    (flat_map row_line written.0, written.3, lists store written.0 c.in-Listing.is of written.1 refl refl refl)

pub returns-in_ok-violations-in-Violations-clause-ok : goal.returns-in_ok-violations-in-Violations-clause-ok
returns-in_ok-violations-in-Violations-clause-ok g c = λ explained entries store of meant.
    let written = c.in_ok-violations-in-Violations.ensures.ok store meant in
    (violations_text written.0, written.3, tells store written.0 c.in-Violations.is of written.1 refl refl (c.status_of.ensures written.0 written.2))

pub returns-in_err-write_listing-in-Listing-clause-err : goal.returns-in_err-write_listing-in-Listing-clause-err
returns-in_err-write_listing-in-Listing-clause-err g c = λ explained entries store of meant is.
    let begun = c.in_err-write_listing-in-Listing.ensures.err store meant in
    (flat_map row_line begun.0, 0, begun.2, lists store begun.0 c.in-Listing.is of begun.1 refl refl refl)

pub returns-in_err-violations-in-Violations-clause-err : goal.returns-in_err-violations-in-Violations-clause-err
returns-in_err-violations-in-Violations-clause-err g c = λ explained entries store of meant is.
    let begun = c.in_err-violations-in-Violations.ensures.err store meant (search rules) in (
      violations_text begun.0,
      status_of_violations begun.0,
      begun.2,
      tells store begun.0 c.in-Violations.is of begun.1 refl refl refl,
    )
