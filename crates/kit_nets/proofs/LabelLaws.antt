-- A label of a leaf instance's port stays on the port's net in a macro.
use Rattle.std.proofs.Common.{◌≡◌, inl, inr, ℕ, List, [], ◌∷◌, Contains, map, refl, sym, ap, subst, ◌∙◌}
use Rattle.or_geom.specs.declared.shape.Shape.{Shape}
use Rattle.or_geom.specs.Place.{placed}
use Rattle.or_geom.proofs.ListLaws.{contains_none, contains_cases, contains_first, contains_later, contained_at}
use Rattle.cell_roles.specs.Roles.{role_ports}
use Rattle.netlist.specs.declared.rows.RowPin.{RowPin}
use Rattle.tech_rules.specs.declared.tech.Connect.{Connect}
use Rattle.element_drawing.specs.PlainLabel.{PlainLabel}
use Rattle.cell_hierarchy.specs.Plain.{FlatLists}
use Rattle.cell_hierarchy.specs.FlatSet.{IsFlatLabel, IsMoved, path_under}
use Rattle.net_extractor.specs.declared.label.Anchor.{Anchor}
use Rattle.net_extractor.specs.PlainNetLabel.{PlainNetLabel}
use Rattle.net_extractor.specs.Binding.{IsUnder, Binds}
use Rattle.net_extractor.specs.Extraction.{label_of, anchor_of, AreNetsUnder}
use Rattle.net_extractor.specs.Difference.{in_lower_case}
use Rattle.net_extractor.proofs.OneBindingLaws.{binds_some}
use Rattle.sram_netlist.specs.Netlist.{role}
use Rattle.sram_netlist.specs.Names.{leaf_path}
use Rattle.good_nets.specs.Seen.{IsLabelledAt}
use Rattle.good_nets.proofs.MovedLaws.{point_moved}
use Rattle.kit_nets.specs.Bound.{BindsForPort}
use Rattle.kit_nets.specs.StatedParts.{Source, Standing, leaf_lists, IsStatedBy, DoLabelsStay}
use Rattle.kit_nets.proofs.PartsLaws.{cell_of_role, stands_plain}

-- what is in a list of values is the value of an item
pub unmapped : {X Y : Type 0} (f : X → Y) (xs : List X) (y : Y) → Contains (map f xs) y → (x : X) × Contains xs x × (f x ≡ y)
unmapped f [] y h = absurd (contains_none y h)
unmapped f (x ∷ xs) y h = elim (contains_cases (f x) (map f xs) y h) [
  | inl first ↦ (x, contains_first x xs, sym first)
  | inr later ↦ let found = unmapped f xs y later in (found.0, contains_later x xs found.0 found.1, found.2)
]

-- the label of an instance's cell, as it stands in the macro
abbrev pub label_at : (s : Source) → Standing s → PlainLabel → PlainLabel
label_at s i l = record { path = path_under (leaf_path s.plan i.leaf) l.path; name = l.name; layer = l.layer; at = placed i.place l.at }

module _ (connections : List Connect) (s : Source) (flat : FlatLists) (by : IsStatedBy connections s flat) where
  -- it is among the macro's labels
  pub label_listed : (i : Standing s) (l : PlainLabel) → Contains (leaf_lists s i.leaf).labels l → Contains flat.labels (label_at s i l)
  label_listed i l listed =
      (by.stated.labels (label_at s i l)).1 (inr (record {
        leaf = i.leaf;
        has = i.has;
        place = i.place;
        stands = i.stands;
        taken = record {
          inner = l;
          has = subst (λ (name : List ℕ). IsFlatLabel s.layers s.structs name l) (sym (cell_of_role connections s flat by i.leaf)) (((by.flat_cells (role s.plan i.leaf)).labels_exact l).0 listed);
          moved = record { path = refl; name = refl; layer = refl; at = refl };
        };
      }))

module _ (connections : List Connect) (s : Source) (flat : FlatLists) (by : IsStatedBy connections s flat) (stays : DoLabelsStay connections s flat) where
  -- What a label of the port binds in the cell by itself is, as it stands in the macro, on one net with what a label of the port's pin binds there.
  pub port_label_stays : (labels : List PlainNetLabel) → AreNetsUnder connections flat.shapes flat.labels labels → (i : Standing s) (port : ℕ) (inner shape : Shape) (p : RowPin) → (bound : BindsForPort (leaf_lists s i.leaf) (role_ports (role s.plan i.leaf)) port inner) → IsMoved i.place inner shape → Contains flat.shapes shape
      → in_lower_case (leaf_path s.plan i.leaf) ≡ p.path → in_lower_case bound.pin ≡ p.pin → IsLabelledAt connections flat.shapes labels p shape
  port_label_stays labels nets i port inner shape p bound moved listed path name =
      let b = bound.binds in
      let l = b.label in
      let plain = stands_plain s i.leaf i.place i.stands in
      let in_flat = label_listed connections s flat by i l b.listed in
      let entry = unmapped label_of labels (label_at s i l) (subst (λ (ls : List PlainLabel). Contains ls (label_at s i l)) (sym nets.each) in_flat) in
      let e = entry.0 in
      let anchor : Anchor = record { layer = l.layer; at = placed i.place l.at } in
      let same : anchor_of e ≡ anchor = ap (λ (k : PlainLabel). let made : Anchor = record { layer = k.layer; at = k.at } in made) entry.2 in
      let under : IsUnder anchor shape = record { on = moved.layer ∙ b.binds.under.on; holds = point_moved i.place inner shape l.at plain moved b.binds.under.holds } in
      let some = binds_some flat.shapes anchor (λ none. none shape listed under) in
      let net = stays i bound.pin l inner shape some.0 (contained_at (role_ports (role s.plan i.leaf)) port bound.pin bound.there) b.listed b.of b.binds moved listed some.1 in
      record {
        bound = some.0;
        binds = record {
          label = e;
          listed = entry.1;
          of = record {
            path = ap (λ (k : PlainLabel). in_lower_case k.path) entry.2 ∙ (ap (λ (q : List ℕ). in_lower_case (path_under (leaf_path s.plan i.leaf) q)) b.of.own ∙ path);
            name = ap (λ (k : PlainLabel). in_lower_case k.name) entry.2 ∙ (b.of.named ∙ name);
          };
          binds = subst (λ (a : Anchor). Binds flat.shapes a some.0) (sym same) some.1;
        };
        net = net;
      }
