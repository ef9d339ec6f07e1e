-- A projection is a text that spells the trees of its projection, and its statements without a keyword are statements of the text that are not projected.
use Rattle.std.specs.Prelude.{◌≡◌, ◌≤◌, ℕ, true, false, List, [], length}
use Rattle.std.proofs.Common.{◌∙◌, ap, sym, subst, append-nil, arith}
use Rattle.std.proofs.Math.Seq.{drop-length}
use Rattle.cil_specs.specs.Parts.{Splits}
use Rattle.cil_specs.specs.Shape.{IsShapeFault, is_among, keywords}
use Rattle.cil_specs.specs.TextFault.{TextFault, unsupported}
use Rattle.cil_specs.specs.Trees.{Trees, Reads}
use Rattle.cil_projection.specs.Pieces.{rendered}
use Rattle.cil_projection.specs.Conditions.{Settings}
use Rattle.cil_projection.specs.Statements.{projected}
use Rattle.cil_projection.specs.Readings.{HasStatement, IsUnprojectedInText, IsRead, depth, projected_trees, without_places}
use Rattle.cil_projection.proofs.ReadingDepth.{projected_depth}
use Rattle.cil_projection.proofs.ReadingFaults.{fault_stands}
use Rattle.cil_projection.proofs.ReadingLies.{lies_parts, reads_lie}
use Rattle.cil_projection.proofs.ReadingParts.{tokens}
use Rattle.cil_projection.proofs.ReadingProjected.{all_spelt}
use Rattle.cil_projection.proofs.ReadingSame.{same_marks, same_parts}
use Rattle.cil_projection.proofs.ReadingShapes.{projection_lists}
use Rattle.cil_projection.proofs.ReadingStatements.{all_unprojected}
use Rattle.cil_projection.proofs.ReadingTrees.{shape_read}

module _ (settings : Settings) (text : List ℕ) (trees : Trees) (reads : Reads text trees) where
  abbrev bytes : List ℕ
  bytes = rendered text (projected settings true 0 trees (length text))

  pub projection_read : depth (projected_trees settings true trees) ≤ 256 → IsRead settings text trees
  projection_read shallow =
      let lie = reads_lie text trees reads in
      let spelt = all_spelt settings text trees lie.0 in
      shape_read bytes spelt.parts (projected_trees settings true trees) (subst (λ l. Splits l spelt.parts []) (append-nil bytes) spelt.splits) spelt.tokens_are
      (projection_lists settings trees lie.1) shallow

  pub projection_same : (found : Trees) → Reads bytes found → without_places found ≡ projected_trees settings true trees
  projection_same found again =
      let spelt = all_spelt settings text trees (reads_lie text trees reads).0 in
      let other = lies_parts bytes 0 found (length bytes) (reads_lie bytes found again).0 in
      let same = same_parts bytes spelt.parts other.0 (subst (λ l. Splits l spelt.parts []) (append-nil bytes) spelt.splits) (subst (Splits bytes other.0) (drop-length bytes) other.1) in
      same_marks (without_places found) (projected_trees settings true trees) (sym other.2 ∙ ap tokens same ∙ spelt.tokens_are)

  pub statement_unprojected : (found : Trees) → Reads bytes found → (word : List ℕ) (arguments : Trees) → HasStatement word arguments (without_places found) → is_among keywords word ≡ false
      → IsUnprojectedInText settings trees (length text) word arguments
  statement_unprojected found again word arguments has free =
      all_unprojected settings trees (length text) word arguments free (subst (HasStatement word arguments) (projection_same found again) has)

  pub shallow_read : depth trees ≤ 254 → IsRead settings text trees
  shallow_read shallow = projection_read (omega (arith, shallow, projected_depth settings trees true))

  pub fault_unprojected : (found : Trees) → Reads bytes found → (fault : TextFault) → IsShapeFault false found fault → fault.kind ≡ unsupported
      → (arguments : Trees) × IsUnprojectedInText settings trees (length text) fault.word arguments
  fault_unprojected found again fault is same =
      let stands = fault_stands found false fault is same in
      (stands.0, statement_unprojected found again fault.word stands.0 stands.1 stands.2)
