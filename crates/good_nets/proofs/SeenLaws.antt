-- What touching shapes say where labels and rows don't differ, and how it goes over to another macro.
use Rattle.std.proofs.Common.{◌≡◌, ℕ, zero, suc, List, [], ◌∷◌, Contains, Option, Some, map, sym, ap, ◌∙◌}
use Rattle.std.specs.Prelude.{slice_get}
use Rattle.or_geom.specs.declared.shape.Shape.{Shape}
use Rattle.netlist.specs.declared.rows.RowPin.{RowPin}
use Rattle.element_drawing.specs.PlainLabel.{PlainLabel}
use Rattle.tech_rules.specs.declared.tech.Connect.{Connect}
use Rattle.tech_rules.specs.Touch.{Touch}
use Rattle.tech_rules.specs.Net.{AreOnOneNet}
use Rattle.net_extractor.specs.PlainNetLabel.{PlainNetLabel}
use Rattle.net_extractor.specs.Binding.{Binds}
use Rattle.net_extractor.specs.Extraction.{anchor_of, AreNetsUnder}
use Rattle.net_extractor.specs.Difference.{AreAlike}
use Rattle.good_nets.proofs.NetLaws.{nets_on, net_back, net_further}
use Rattle.good_nets.specs.Drawn.{BindsFor}
use Rattle.good_nets.specs.Seen.{IsLabelledAt}
use Rattle.good_nets.proofs.DrawnLaws.{has_some}
pub use Rattle.or_geom.proofs.ListLaws.{one_at}

module _ (connections : List Connect) (shapes : List Shape) (plain : List PlainLabel) (labels : List PlainNetLabel) (pins : List RowPin) (nets : AreNetsUnder connections shapes plain labels) (alike : AreAlike labels pins) where
  -- a label that binds a shape has a net
  net_of_bound : (label : PlainNetLabel) (s : Shape) → Contains labels label → Binds shapes (anchor_of label) s → (n : ℕ) × (label.net ≡ Some n)
  net_of_bound label s listed binds = has_some label.net (λ none. (nets.unbound label listed).0 none s binds.listed binds.under)

  -- pins with labels on one net have one number
  pub one_net_one_number : (p q : RowPin) → Contains pins p → Contains pins q → (s t : Shape) → BindsFor shapes labels p s → BindsFor shapes labels q t → AreOnOneNet connections shapes s t → p.net ≡ q.net
  one_net_one_number p q at_p at_q s t b c net =
      let m = net_of_bound b.label s b.listed b.binds in
      let n = net_of_bound c.label t c.listed c.binds in
      let same : b.label.net ≡ c.label.net = (nets.one b.label c.label s t b.listed c.listed b.binds c.binds).1 net in
      let equal : ◌≡◌ {A = Option ℕ} (Some m.0) (Some n.0) = sym m.1 ∙ (same ∙ n.1) in
      (alike.agree p q at_p at_q m.0 n.0 (record { label = b.label; listed = b.listed; of = b.of; on = m.1 }) (record { label = c.label; listed = c.listed; of = c.of; on = n.1 })).0 (cc)

  -- Where shapes touch that are joined with labels of two pins, the rows give these one number.
  pub touching_pins : (p q : RowPin) → Contains pins p → Contains pins q → (s t : Shape) → IsLabelledAt connections shapes labels p s → IsLabelledAt connections shapes labels q t → Contains shapes t → Touch connections s t → p.net ≡ q.net
  touching_pins p q at_p at_q s t one two listed touch =
      let there = net_further connections shapes one.bound s t one.net listed touch in
      let back = net_back connections shapes two.bound t two.binds.binds.listed two.net in
      one_net_one_number p q at_p at_q one.bound two.bound one.binds two.binds (nets_on connections shapes one.bound t two.bound there back)

pub mapped_at : {N : Type 0} {M : Type 0} (f : N → M) (xs : List N) (place : ℕ) (x : N) → slice_get xs place ≡ Some x → slice_get (map f xs) place ≡ Some (f x)
mapped_at f [] place x h = absurd cc
mapped_at {N = N} f (y ∷ ys) zero x h = let same : y ≡ x = cc in ap (λ (z : N). Some (f z)) same
mapped_at f (y ∷ ys) (suc place) x h = mapped_at f ys place x h
