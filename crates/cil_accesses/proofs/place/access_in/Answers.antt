use Rattle.std.proofs.Common.{◌∙◌, ◌<◌, ◌^◌, slice_get, sym, ap}
use Rattle.cil_accesses.specs.View.{accesses_of}
use Rattle.cil_accesses.proofs.Made.{no-accesses}
use Rattle.cil_accesses.proofs.Places.{place-in-run, place-behind, later-all}
use Rattle.cil_accesses.proofs.place.access_in.Goals as goal

pub returns-in-None : goal.returns-in-None
returns-in-None c =
    c.access_in_run.ensures ∙ sym (c.loop-run.invariant.at ∙ place-in-run c.loop-run.chunks.now c.in-Some.field-0-0.now c.in-Some.run'.now c.in-Some.later.now c.in-Some.ensures c.loop-run.rest c.in-None.ensures)

pub loop-run-preserved : goal.loop-run-preserved
loop-run-preserved c = record {
  words = later-all c.loop-run.chunks.now c.in-Some.field-0-0.now c.in-Some.run'.now c.in-Some.later.now c.in-Some.ensures (λ d. d.word < 2 ^ 26) c.loop-run.invariant.words;
  at = c.loop-run.invariant.at ∙ place-behind c.loop-run.chunks.now c.in-Some.field-0-0.now c.in-Some.run'.now c.in-Some.later.now c.in-Some.ensures c.loop-run.rest c.in-Some-behind_run.behind c.in-Some-behind_run.ensures;
}

pub returns : goal.returns
returns c = sym (c.loop-run.invariant.at ∙ ap (λ l. slice_get (accesses_of l) c.loop-run.rest) c.in_default.ensures ∙ ap (λ l. slice_get l c.loop-run.rest) no-accesses)
