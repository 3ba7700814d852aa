-- Labels of pins stay in a memory whose parts are seen in a small memory where they do.
use Rattle.std.proofs.Common.{inl, inr, ℤ, List}
use Rattle.or_geom.specs.declared.shape.Point.{Point}
use Rattle.or_geom.specs.declared.shape.Shape.{Shape}
use Rattle.or_geom.specs.Joined.{IsIn}
use Rattle.tech_rules.specs.declared.tech.Connect.{Connect}
use Rattle.told_nets.proofs.TellLaws.{told_conductor}
use Rattle.good_nets.specs.Parts.{IsShapeOf}
use Rattle.kit_nets.specs.StatedParts.{Source, Standing, stated_parts}
use Rattle.seen_pairs.specs.Window.{IsSeenSource, HasSeenWindow}
use Rattle.seen_pairs.proofs.SeatLaws.{seat}
use Rattle.small_wires.proofs.SeenWireLaws.{small}
use Rattle.seen_labels.specs.Stay.{DoShapesPassLittle, SeenLabelsStay}
use Rattle.seen_labels.specs.Whole.{IsWholeThere}
use Rattle.seen_labels.proofs.BankWholeLaws.{column_whole, front_whole, slice_whole}
use Rattle.seen_labels.proofs.LogicWholeLaws.{logic_whole}
use Rattle.seen_labels.proofs.StayLaws.{holds, own, label_stays}
use Rattle.seen_labels.proofs.CutStayLaws.{cut_label_stays}

-- Around a point of an instance's shape the small memory has what the memory has.
whole : (connections : List Connect) (s : Source) (by reach : ℤ) (is : IsSeenSource connections s by reach) (window : HasSeenWindow connections s) → DoShapesPassLittle s by → (i : Standing s) (inner a : Shape) (p : Point) → IsShapeOf connections (stated_parts s) i inner a → IsIn a.rect p → IsWholeThere connections s (small connections s by reach is window) i p
whole connections s by reach is window passes i inner a p of held = elim (seat i.leaf) [
  | inl column ↦ column_whole connections s by reach is window passes i inner a p of held column
  | inr (inl front) ↦ front_whole connections s by reach is window passes i inner a p of held front
  | inr (inr (inl slice)) ↦ slice_whole connections s by reach is window passes i inner a p of held slice
  | inr (inr (inr (c, e))) ↦ logic_whole connections s by reach is window passes i c e inner a p of held
]

pub seen_labels_stay : SeenLabelsStay
seen_labels_stay connections s by reach flat hub is window passes inside memory i pin label inner shape u has listed of binds moved there bound = elim (told_conductor connections shape.layer) [
  | inl conductor ↦ label_stays connections s by reach is window flat hub memory i pin label inner shape has listed of binds moved there conductor u bound
  | inr none ↦ cut_label_stays connections s by reach is window flat hub memory inside i pin label inner shape has listed of binds moved there none
      (whole connections s by reach is window passes i inner shape _ (own connections s by reach is window flat hub memory i pin label inner shape has listed of binds moved there) (holds connections s by reach is window flat hub memory i pin label inner shape has listed of binds moved there)) u bound
]
